-- Whether a record has the codes of a station, by the test of its two fields.
use Rattle.std.proofs.Common.{◌≡◌, ◌∙◌, sym, Bool, true, false, ◌&&◌, bytes_eq, List, ℕ}
use Rattle.std.specs.Prelude.{slice_range}
use Rattle.std.proofs.lemmas.Slice.Eq.{bytes_eq-Decides}
use Rattle.std.proofs.lemmas.Bool.{false_from_ne_true}
use Rattle.std.proofs.lemmas.Bool.Decides.{Decides-and}
use Rattle.std.specs.Prelude.{Decides}
use Rattle.slink_wire.specs.Place.{Bears, Fields}

abbrev pub carries_test : Fields → List ℕ → Bool
carries_test p r = bytes_eq (slice_range r 8 13) p.station && bytes_eq (slice_range r 18 20) p.network

carries_decides : (p : Fields) (r : List ℕ) → Decides (carries_test p r) (Bears r p)
carries_decides p r = Decides-and _ _ (bytes_eq-Decides (slice_range r 8 13) p.station)
    (bytes_eq-Decides (slice_range r 18 20) p.network)

pub carries_passes : (p : Fields) (r : List ℕ) → Bears r p → carries_test p r ≡ true
carries_passes p r = (carries_decides p r).1

pub passes_carries : (p : Fields) (r : List ℕ) → carries_test p r ≡ true → Bears r p
passes_carries p r = (carries_decides p r).0

pub carries_fails : (p : Fields) (r : List ℕ) → ¬ (Bears r p) → carries_test p r ≡ false
carries_fails p r other = false_from_ne_true (carries_test p r) (λ h. other (passes_carries p r h))

-- a record has the codes of one station
pub one_place : (r : List ℕ) (p q : Fields) → Bears r p → Bears r q → p ≡ q
one_place r p q a b = λ i. record { station = (sym a.0 ∙ b.0) i; network = (sym a.1 ∙ b.1) i }
