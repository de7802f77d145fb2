use Rattle.mseed_steim_pack.proofs.Coding.{pushed}
use Rattle.mseed_steim_pack.proofs.pack.finish.Goals as goal

pub returns-clause-filled : goal.returns-clause-filled
returns-clause-filled c = λ s ds f. pushed s ds c.args.frames.now c.write_word.new.frames c.clear_from.new.frames
    c.args.head c.args.reached.codes c.args.reached.index c.args.reached.used c.codes_to.result f c.codes_to.ensures
    c.write_word.ensures c.clear_from.ensures
