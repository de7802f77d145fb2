use Rattle.std.proofs.Common.{◌++◌, ◌∙◌, ap, append_assoc, codes, sym}
use Rattle.mseed_audit.specs.declared.channel.Findings.{Findings}
use Rattle.mseed_audit.proofs.OneMore.{put_more}
use Rattle.mseed_join.specs.private.Found.{found_text}
use Rattle.mseed_join.proofs.writing.put_found.Goals as goal

pub returns-in-Nothing-clause-text : goal.returns-in-Nothing-clause-text
returns-in-Nothing-clause-text c =
    c.put.ensures.text ∙ ap (λ (f : Findings). c.args.line.now ++ found_text f) (sym c.in-Nothing.is)

pub returns-in-Counted-clause-text : goal.returns-in-Counted-clause-text
returns-in-Counted-clause-text c =
    put_more c.args.line.now _ _ _ _
    (put_more c.args.line.now _ _ _ _ (c.put_labelled.ensures.text ∙ append_assoc _ (codes " findings ") _)
    c.put-in-Counted.ensures.text) c.put_first.ensures.text
    ∙ ap (λ (f : Findings). c.args.line.now ++ found_text f) (sym c.in-Counted.is)
