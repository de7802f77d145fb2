use Rattle.std.proofs.Common.{ℕ, ℤ, List, ◌≤◌, ◌+◌, ◌-◌}
use Rattle.mseed_steim_pack.specs.declared.pack.Reached.{Reached}
use Rattle.mseed_steim_pack.specs.Lookahead.{IsLookahead}
use Rattle.mseed_steim_pack.specs.private.Four.{known_from}
use Rattle.mseed_steim_pack.specs.private.Pushing.{FillsOn, HasFrame, MovesOn}
use Rattle.mseed_steim_pack.proofs.pack.push_known.Given as goal

-- how far it is filled, from where it was
abbrev reached_on : Reached → ℕ → ℕ → ℕ → Reached
reached_on from place index codes =
    record { used = from.used + (place - from.place); place = place; index = index; codes = codes }

abbrev pub invariant-loop-index : goal.invariant-loop-index
invariant-loop-index l = record {
  frame : HasFrame l.frames l.end (reached_on l.fn.reached l.place l.index l.codes);
  moves : MovesOn l.end l.fn.reached (reached_on l.fn.reached l.place l.index l.codes);
  known : (ds : List ℤ) × IsLookahead l.scheme (known_from l.known l.place) ds;
  order : l.fn.reached.place ≤ l.place;
  fills : (ds : List ℤ) → FillsOn l.scheme ds l.known l.fn.frames l.fn.reached l.frames
      (reached_on l.fn.reached l.place l.index l.codes);
}

abbrev pub decreases-loop-index : goal.decreases-loop-index
decreases-loop-index l = l.end - l.index
