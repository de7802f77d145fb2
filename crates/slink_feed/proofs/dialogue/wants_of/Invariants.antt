use Rattle.std.proofs.Common.{◌≡◌, ◌++◌, ◌-◌, map, replicate, take, None}
use Rattle.slink_feed.specs.Dialogue.{wanted_of}
use Rattle.slink_feed.proofs.dialogue.wants_of.Given as goal

abbrev pub invariant-loop-k : goal.invariant-loop-k
invariant-loop-k l = l.wants ≡ map wanted_of (take l.k l.places) ++ replicate (16 - l.k) None
