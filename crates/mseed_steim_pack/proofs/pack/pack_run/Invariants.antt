use Rattle.std.proofs.Common.{◌≡◌, ℕ, ℤ, List, ◌<◌, ◌≤◌, ◌+◌, ◌-◌, ◌/◌, ◌%◌, length}
use Rattle.mseed_steim.specs.declared.scheme.Scheme.{Scheme}
use Rattle.mseed_steim_pack.specs.declared.ahead.Lookahead.{Lookahead}
use Rattle.mseed_steim_pack.specs.declared.pack.Reached.{Reached}
use Rattle.mseed_steim_pack.specs.private.Pushing.{IsReached}
use Rattle.mseed_steim_pack.proofs.pack.pack_run.Given as goal

-- what holds before each frame, and before what lies ahead is looked at within one
pub record Begun (s : Scheme) (ds : List ℤ) (known : Lookahead) (p : List ℕ) (head : ℕ) (r : Reached) : Type 0 where
  pub reached : IsReached s ds known p head r
  pub frame : head + 16 ≤ length p / 4
  pub whole : length p % 64 ≡ 0
  pub used : r.used ≤ length ds
  pub place : r.place ≤ 128
  pub at : head % 16 ≡ 0
  pub low : head < r.index
  pub high : r.index ≤ head + 16

abbrev pub invariant-loop-next : goal.invariant-loop-next
invariant-loop-next g l = Begun l.scheme (g.P.Pending.differences l.pending) l.known l.frames l.head l.reached

abbrev pub decreases-loop-next : goal.decreases-loop-next
decreases-loop-next g l = length l.frames - l.reached.index
