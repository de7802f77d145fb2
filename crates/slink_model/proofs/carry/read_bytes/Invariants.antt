use Rattle.std.proofs.Common.{◌-◌, ◌≤◌, drop, length}
use Rattle.slink_model.specs.Running.{Keeps}
use Rattle.slink_model.specs.World.{Reads, Taking, lists_of, with_client}
use Rattle.slink_model.proofs.carry.read_bytes.Given as goal

-- what the rest leads to, all lead to
abbrev pub invariant-loop-offset : goal.invariant-loop-offset
invariant-loop-offset l = record {
  within : l.offset ≤ length l.bytes;
  keeps : Keeps l.client;
  rest : (last : Taking) → Reads l.first_sent
      (with_client l.client (lists_of l.held) l.start.items l.to_server.items) (drop l.offset l.bytes) last
      → Reads l.first_sent (with_client l.fn.client (lists_of l.fn.held) l.fn.start.items l.fn.to_server.items) l.bytes
      last;
}

abbrev pub decreases-loop-offset : goal.decreases-loop-offset
decreases-loop-offset l = length l.bytes - l.offset
