use Rattle.mseed_select.proofs.Verbatim.{selected}
use Rattle.mseed_select.proofs.copying.select.Goals as goal

pub returns-clause-selected : goal.returns-clause-selected
returns-clause-selected g c =
    selected (g.C.Choice.selection c.args.choice.now) c.write_selected.result _ (g.W.Sink.written c.args.output.now)
    (g.W.Sink.written c.write_selected.new.output) c.write_selected.ensures.written
