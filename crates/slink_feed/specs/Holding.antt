-- What a client reports a station, over any links and whatever they bring.
use Rattle.std.specs.Prelude.{◌⊎◌, Bool, true, false, ◌<◌, ◌≤◌, IfSome, map}
use Rattle.std.specs.Prelude.{◌≡◌, ℕ, ◌+◌, ◌%◌, ◌^◌, ◌==◌, List, [], ◌∷◌, ◌++◌, Option, Some, None, if◌then◌else◌}
use Rattle.slink_feed.specs.declared.dialogue.Event.{Event}
use Rattle.slink_feed.specs.declared.dialogue.Event.TheVariants as events
use Rattle.slink_feed.specs.Dialogue.{Talk, Whole, ahead_of, read, requests_place}

-- a new link begins, or a link brings a whole
pub data Arrival : Type 0 where
  connects : Arrival
  brings : Whole → Arrival

abbrev pub arrived : Talk → Arrival → Talk × Event
arrived t connects = requests_place 0 t
arrived t (brings w) = read t w

-- the numbers of the records that are reported of a station
abbrev pub numbers_in : ℕ → Event → List ℕ
numbers_in k (events.Record j n bytes) = if j == k then n ∷ [] else []
numbers_in k event = []

abbrev pub numbers_of : ℕ → Talk → List Arrival → List ℕ
numbers_of k t [] = []
numbers_of k t (a ∷ more) = numbers_in k (arrived t a).1 ++ numbers_of k (arrived t a).0 more

-- what the client has come to once all arrived
abbrev pub talk_past : Talk → List Arrival → Talk
talk_past t [] = t
talk_past t (a ∷ more) = talk_past (arrived t a).0 more

-- A number is taken where one is wanted: it is that one; or, past holes, it is ahead of it by less than half of all
-- numbers.
abbrev pub IsNext : Bool → ℕ → ℕ → Type 0
IsNext false want number = number ≡ want
IsNext true want number = (number ≡ want) ⊎ ((0 < ahead_of want number) × (ahead_of want number < 2 ^ 23))

-- Each number is taken where one is wanted, if any is, and the next one is wanted after it.
abbrev pub GoBy : Bool → Option ℕ → List ℕ → Option ℕ → Type 0
GoBy holes want [] last = last ≡ want
GoBy holes None (n ∷ ns) last = GoBy holes (Some ((n + 1) % 2 ^ 24)) ns last
GoBy holes (Some want) (n ∷ ns) last = IsNext holes want n × GoBy holes (Some ((n + 1) % 2 ^ 24)) ns last

-- Each number is the one wanted, if any is: none is left out, and none comes twice.
abbrev pub GoOn : Option ℕ → List ℕ → Option ℕ → Type 0
GoOn want ns last = GoBy false want ns last

-- Positions go up, each one from the one after the last by less than half of all numbers: none comes twice.
abbrev pub Rise : ℕ → List ℕ → Type 0
Rise position [] = Unit {0}
Rise position (p ∷ ps) = (position ≤ p) × (p < position + 2 ^ 23) × Rise (p + 1) ps

-- Numbers are those of positions that go up, from a station's next one on where it wants one.
pub record AreRising (want : Option ℕ) (numbers : List ℕ) : Type 0 where
  pub first : ℕ
  pub positions : List ℕ
  pub wanted : IfSome want (λ n. first ≡ n)
  pub numbers_are : map (λ p. p % 2 ^ 24) positions ≡ map (λ n. n % 2 ^ 24) numbers
  pub rise : Rise first positions
