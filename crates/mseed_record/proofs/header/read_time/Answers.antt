use Rattle.std.proofs.Common.{◌≡◌, ℕ, List, take, drop, ◌∙◌, ap}
use Rattle.mseed_record.proofs.Bytes.{parts_at-slice}
use Rattle.mseed_time.specs.declared.order.Order.{Order}
use Rattle.mseed_time.specs.Btime.{parts_at, first_fault}
use Rattle.mseed_record.proofs.header.read_time.Goals as goal

same : (order : Order) (xs b : List ℕ) → xs ≡ take 10 (drop 20 b) → parts_at order 0 xs ≡ parts_at order 20 b
same order xs b e = ap (λ (ys : List ℕ). parts_at order 0 ys) e ∙ parts_at-slice order b

pub returns-clause-fields : goal.returns-clause-fields
returns-clause-fields c =
    rw (same c.args.order c.copy_from_slice.new.self c.args.bytes.now c.copy_from_slice.ensures.after) at
    c.read.ensures.fields

pub returns-clause-fault : goal.returns-clause-fault
returns-clause-fault c = c.read.ensures.fault
    ∙ ap first_fault (same c.args.order c.copy_from_slice.new.self c.args.bytes.now c.copy_from_slice.ensures.after)
