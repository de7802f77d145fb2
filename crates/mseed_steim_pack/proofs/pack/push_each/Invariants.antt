use Rattle.std.proofs.Common.{◌≤◌, ◌-◌, length}
use Rattle.mseed_steim_pack.specs.private.Pushing.{FillsOn, HasFrame, MovesOn}
use Rattle.mseed_steim_pack.proofs.pack.push_each.Given as goal

abbrev pub invariant-loop-reached : goal.invariant-loop-reached
invariant-loop-reached g l = record {
  frame : HasFrame l.frames l.end l.reached;
  moves : MovesOn l.end l.fn.reached l.reached;
  used : l.reached.used ≤ length (g.P.Pending.differences l.pending);
  place : l.reached.place ≤ 128;
  fills : FillsOn l.scheme (g.P.Pending.differences l.pending) l.known l.fn.frames l.fn.reached l.frames l.reached;
}

abbrev pub decreases-loop-reached : goal.decreases-loop-reached
decreases-loop-reached g l = l.end - l.reached.index
