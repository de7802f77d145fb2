use Rattle.std.proofs.Common.{◌≡◌, List, ℕ, OnOk, subst}
use Rattle.mseed_join.proofs.Verdicts.{join_lines}
use Rattle.mseed_join.proofs.text.push_join.Goals as goal

pub returns : goal.returns
returns g c = λ bytes.
    let a1 = c.in_ok-push_verdicts.ensures in
    let a2 = rw a1 at c.in_ok-push_total_line.ensures.ok in
    let a3 = rw a2 at c.push_faults.ensures in
    subst (λ (xs : List ℕ). OnOk c.push_faults.result (c.push_faults.new.text.items ≡ xs))
    (join_lines c.args.channels.now c.args.records bytes c.args.faults c.args.end.now c.args.text.now.items) a3
