use Rattle.std.proofs.Common.{◌≡◌, ◌∙◌, ◌<◌, length, rules, take, drop, ◌-◌}
use Rattle.slink_feed.specs.Dialogue.{Wants, want_at}
use Rattle.slink_feed.specs.Reporter.{next_line, next_line_of}
use Rattle.std.proofs.Common.{refl}
use Rattle.std.proofs.lemmas.List.{take_rest}
use Rattle.slink_feed.proofs.ReportLines.{first_is}
use Rattle.slink_feed.proofs.reporter.Reporter.report_next.Goals as goal

pub returns : goal.returns
returns g c =
    let wants : Wants = c.wants_left-wants.result in
    let some : 0 < length wants = search rules in
    let first : c.index-all-0.result ≡ want_at wants 0 = first_is wants c.index-all-0.result some c.index-all-0.is in
    let line : next_line c.index-all-0.result (take (length wants - 1) (drop 1 wants)) ≡ next_line_of wants =
    rw (first, take_rest wants 1) refl in
    rw c.wants_left-wants.ensures at
    (rw (c.as_slice.ensures.value ∙ (c.next_line.ensures ∙ line)) at c.report.ensures)
