use Rattle.std.proofs.Common.{◌≡◌, ◌≤◌, ◌-◌, ◌++◌, take, length}
use Rattle.slink_feed.specs.Cutting.{IsPacketBegun}
use Rattle.slink_feed.proofs.cutting.take_packet.Given as goal

abbrev pub invariant-loop-used : goal.invariant-loop-used
invariant-loop-used l = record {
  kept : l.kept.items ≡ l.fn.kept.items ++ take l.used l.bytes;
  begun : IsPacketBegun l.kept.items;
  within : l.used ≤ length l.bytes;
}

abbrev pub decreases-loop-used : goal.decreases-loop-used
decreases-loop-used l = length l.bytes - l.used
