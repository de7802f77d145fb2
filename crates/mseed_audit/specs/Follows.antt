-- When a record of a channel continues the one before it, and when the channel is continuous.
use Rattle.std.specs.Prelude.{⊤, ◌≡◌, ◌≢◌, List, [], ◌∷◌, ℤ, Some, IsSome}
use Rattle.std.specs.List.{AllByRecursion}
use Rattle.mseed_time.specs.Join.{Joins}
use Rattle.mseed_time.specs.Rate.{Ratio, SameRate}
use Rattle.mseed_record.specs.declared.leap.Leap.TheVariants.{Both}
use Rattle.mseed_record.specs.View.{View, start_of, leap_of}
use Rattle.mseed_steim.specs.Reading.{count_of, IsReading, IsWhole}
use Rattle.mseed_audit.specs.Judging.{known_rate, step_in}

-- the times and rates of both are known, the rates are the same, the record before says which leap second it
-- carries, and the next one begins within half a sample period of its end
pub record FollowsAt (rate next : Ratio) (b v : View) : Type 0 where
  pub before_is : known_rate b ≡ Some rate
  pub next_is : known_rate v ≡ Some next
  pub same : SameRate rate next
  pub one_step : leap_of b.bytes ≢ Both
  pub joins : Joins (start_of b) (count_of b) rate (step_in (leap_of b.bytes)) (start_of v)

abbrev pub Follows : View → View → Type 0
Follows b v = (rate : Ratio) × ((next : Ratio) × FollowsAt rate next b v)

-- each member and its next stand in a relation
abbrev pub AllNeighbours : {X : Type 0} → (X → X → Type 0) → List X → Type 0
AllNeighbours R [] = ⊤
AllNeighbours R (x ∷ []) = ⊤
AllNeighbours R (x ∷ (y ∷ zs)) = R x y × AllNeighbours R (y ∷ zs)

-- the time and the rate are known, and the samples are the one and only reading, which ends on its constants
pub record IsSound (v : View) : Type 0 where
  pub timed : IsSome (known_rate v)
  pub samples : List ℤ
  pub whole : IsWhole v samples
  pub only : (others : List ℤ) → IsReading v others → others ≡ samples

-- the channel has records, each is sound, and each next one follows
pub record IsContinuous (vs : List View) : Type 0 where
  pub some : vs ≢ []
  pub each : AllByRecursion IsSound vs
  pub follow : AllNeighbours Follows vs
