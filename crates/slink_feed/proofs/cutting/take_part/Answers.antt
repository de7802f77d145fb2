use Rattle.std.proofs.Common.{List, ap, arith, length, length-take, take, ℕ}
use Rattle.slink_feed.proofs.cutting.take_part.Goals as goal

pub due-requires : goal.due-requires
due-requires c = rw c.as_slice.ensures.value c.requires

pub judge-requires : goal.judge-requires
judge-requires c =
    let more : List ℕ = take c.min-used.result c.args.bytes.now in
    rw (c.as_slice-2.ensures.value, c.put.ensures.items, ← c.as_slice.ensures.value) (c.due.ensures.due more (omega (
      arith,
      c.due.ensures.more,
      length-take c.min-used.result c.args.bytes.now,
      c.min-used.ensures,
      c.len.ensures.value,
      ap length c.as_slice.ensures.value,
    )))

pub returns-clause-part : goal.returns-clause-part
returns-clause-part c =
    rw c.as_slice-2.ensures.value at c.judge.ensures
