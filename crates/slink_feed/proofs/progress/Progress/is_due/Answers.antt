use Rattle.std.proofs.Common.{◌≡◌, ◌∙◌, not, sym, true, false}
use Rattle.std.proofs.lemmas.Bool.{OnFalse_from, OnTrue_from, not-false, not-true}
use Rattle.slink_feed.proofs.progress.Progress.is_due.Goals as goal

pub returns-then-is_streaming-clause-yes : goal.returns-then-is_streaming-clause-yes
returns-then-is_streaming-clause-yes g c =
    OnTrue_from (not c.is_at_next.result) _ (λ e. (
      c.if-is_streaming.ensures.yes,
      λ at. let bad : false ≡ true = sym (not-true c.is_at_next.result e) ∙ c.is_at_next.ensures.1 at in cc bad,
    ))

pub returns-then-is_streaming-clause-no : goal.returns-then-is_streaming-clause-no
returns-then-is_streaming-clause-no g c =
    OnFalse_from (not c.is_at_next.result) _
    (λ e streams. c.is_at_next.ensures.0 (not-false c.is_at_next.result e))

pub returns-else-is_streaming-clause-no : goal.returns-else-is_streaming-clause-no
returns-else-is_streaming-clause-no g c =
    OnFalse_from c.is_streaming.result _ (λ e streams. absurd (c.if-is_streaming.ensures.no streams))
