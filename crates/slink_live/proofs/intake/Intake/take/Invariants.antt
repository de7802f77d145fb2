use Rattle.std.proofs.Common.{◌-◌, ◌<◌, ◌≤◌, length, take}
use Rattle.slink_live.specs.Input.{MayBegin}
use Rattle.slink_live.specs.private.Cutting.{Cuts}
use Rattle.slink_live.specs.private.Granting.{StaysBut}
use Rattle.slink_live.proofs.intake.Intake.take.Given as goal

abbrev pub invariant-loop-start : goal.invariant-loop-start
invariant-loop-start l = record {
  within : l.start ≤ length l.bytes;
  cuts : Cuts l.fn.self (take l.start l.bytes) l.self l.self.kept;
  short : length l.self.kept < 512;
  begins : MayBegin l.self.kept;
  stays : StaysBut l.places l.fn.self.feed l.self.feed;
}

abbrev pub decreases-loop-start : goal.decreases-loop-start
decreases-loop-start l = length l.bytes - l.start
