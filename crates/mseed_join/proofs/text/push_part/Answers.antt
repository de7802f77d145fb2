use Rattle.std.proofs.Common.{◌≡◌, List, ℕ, OnOk, subst}
use Rattle.mseed_join.proofs.Channels.{part_lines}
use Rattle.mseed_join.proofs.text.push_part.Goals as goal

pub returns : goal.returns
returns g c =
    let a1 = c.in_ok-extend_from_slice.ensures.items in
    let a2 = rw a1 at c.in_ok-push_channels.ensures in
    let a3 = rw a2 at c.in_ok-push_counts_line.ensures.ok in
    let a4 = rw a3 at c.push_faults.ensures in
    subst (λ (xs : List ℕ). OnOk c.push_faults.result (c.push_faults.new.text.items ≡ xs))
    (part_lines c.args.channels.now c.args.records c.args.bytes c.args.faults c.args.end.now c.args.text.now.items) a4
