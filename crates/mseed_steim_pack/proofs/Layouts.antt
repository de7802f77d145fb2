-- The layouts by the tables.
use Rattle.std.proofs.Common.{◌≡◌, ℕ, ◌<◌, ◌≤◌, get_or, Some, arith}
use Rattle.std.proofs.lemmas.Bool.Decides.{nat_tests}
use Rattle.mseed_steim.specs.declared.scheme.Scheme.TheVariants.{One, Two}
use Rattle.mseed_steim.proofs.Below.{eight}
use Rattle.mseed_steim_pack.specs.declared.row.WordFormat.{WordFormat}
use Rattle.mseed_steim_pack.specs.declared.layout.LayoutOne.{LayoutOne}
use Rattle.mseed_steim_pack.specs.declared.layout.LayoutTwo.{LayoutTwo}
use Rattle.mseed_steim_pack.specs.declared.layout.TheConstants.{LAYOUTS_ONE, LAYOUTS_TWO}
use Rattle.mseed_steim_pack.specs.private.Rows.{row_for}
use Rattle.mseed_steim_pack.specs.private.Ahead.{IsLayoutOne, IsLayoutTwo}
use Rattle.mseed_steim_pack.specs.Lookahead.{taken}

abbrev InTwo : LayoutTwo → ℕ → Type 0
InTwo none k = 2 ≤ k → IsLayoutTwo (get_or LAYOUTS_TWO k none)
    × ((r : WordFormat) → row_for Two k ≡ Some r → (get_or LAYOUTS_TWO k none).row ≡ r)

pub layouts_two : (none : LayoutTwo) (k : ℕ) → k < 8 → InTwo none k
layouts_two none = eight (InTwo none) (λ h. absurd (omega (arith, h))) (λ h. absurd (omega (arith, h)))
    (λ _. (assumption, λ r e. cc)) (λ _. (assumption, λ r e. cc)) (λ _. (assumption, λ r e. cc))
    (λ _. (assumption, λ r e. cc)) (λ _. (assumption, λ r e. cc)) (λ _. (assumption, λ r e. cc))

abbrev InOne : LayoutOne → ℕ → Type 0
InOne none k = (r : WordFormat) → row_for One (taken One k) ≡ Some r → ((get_or LAYOUTS_ONE k none).row ≡ r)
    × IsLayoutOne (get_or LAYOUTS_ONE k none)

pub layouts_one : (none : LayoutOne) (k : ℕ) → k < 8 → InOne none k
layouts_one none = grind (arith, nat_tests, eight)
