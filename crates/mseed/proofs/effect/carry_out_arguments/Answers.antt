use Rattle.mseed_feed.specs.Transport.{transport_state}
use Rattle.mseed_words.specs.Arguments.{texts_in, words_in}
use Rattle.mseed.proofs.FromArguments.{from_arguments}
use Rattle.mseed.proofs.effect.carry_out_arguments.Goals as goal

pub returns-clause-effect : goal.returns-clause-effect
returns-clause-effect g c =
    from_arguments (g.G.Arguments.given c.args.arguments.now) (words_in c.in_ok-line.line) (texts_in c.in_ok-line.line)
    c.carry_out.result (g.F.Files.found c.args.files.now) c.args.files.now c.carry_out.new.files c.args.transport.now
    c.carry_out.new.transport (g.W.Sink.written c.args.output.now) (g.W.Sink.written c.carry_out.new.output)
    (g.E.Sink.written c.args.errors.now) (g.E.Sink.written c.carry_out.new.errors)
    (transport_state (g.T.Transport.planned c.args.transport.now) (g.T.Transport.came c.args.transport.now))
    (transport_state (g.T.Transport.planned c.carry_out.new.transport) (g.T.Transport.came c.carry_out.new.transport))
    c.in_ok-line.ensures.words c.in_ok-line.ensures.texts c.carry_out.ensures.called c.carry_out.ensures.bad
    c.carry_out.ensures.refused c.carry_out.ensures.unopened c.carry_out.ensures.unlinked
