use Rattle.std.proofs.Common.{Some, ap, ◌∙◌}
use Rattle.mseed_record.specs.declared.framer.Scan.{Scan}
use Rattle.mseed_record.proofs.Framed.{reached_record}
use Rattle.mseed_record.proofs.framer.frame.Goals as goal

pub returns-in-Record-clause-ok : goal.returns-in-Record-clause-ok
returns-in-Record-clause-ok c =
    reached_record c.go_along-answer.result.0 c.args.prefix.now c.in-Record.size (λ i. (c.type_inv.prefix i).fits)
    c.go_along-answer.ensures.reached (c.go_along-answer.ensures.stands ∙ ap (λ (s : Scan). Some s) c.in-Record.is)
