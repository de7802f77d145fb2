use Rattle.std.proofs.Common.{◌≡◌, ◌++◌, take}
use Rattle.slink_feed.specs.Cutting.{IsReplyBegun}
use Rattle.slink_feed.proofs.cutting.take_reply.Given as goal

abbrev pub invariant-loop-i : goal.invariant-loop-i
invariant-loop-i l = record {
  kept : l.kept.items ≡ l.fn.kept.items ++ take l.i l.bytes;
  begun : IsReplyBegun l.kept.items;
}
