use Rattle.std.proofs.Common.{◌≡◌, ◌↔◌, ◌^◌, ◌-◌, ◌<◌, ◌≤◌, ℕ, ℤ, arith, refl, Some, w32}
use Rattle.std.proofs.lemmas.Bool.Decides.{nat_tests}
use Rattle.std.proofs.lemmas.Int.{to_z-of_z}
use Rattle.mseed_steim.specs.declared.scheme.Scheme.{Scheme}
use Rattle.mseed_steim.specs.declared.scheme.Scheme.TheVariants.{One, Two}
use Rattle.mseed_steim.specs.Spelling.{IsWithin}
use Rattle.mseed_steim_pack.specs.declared.row.WordFormat.{WordFormat}
use Rattle.mseed_steim_pack.specs.private.Rows.{row_with, row_for, size_limit, IsWide}
use Rattle.mseed_steim_pack.proofs.row.is_wide.Goals as goal

by_row : (s : Scheme) (d : ℤ) (size : ℕ) (pair : WordFormat) → row_for s 2 ≡ Some pair
    → ((size < 2 ^ (pair.width - 1)) ↔ IsWithin pair.width d) → (2 ^ (pair.width - 1) ≤ size) ↔ IsWide s d
by_row s d size pair found by = search (arith)

is_wide : (s : Scheme) (d : ℤ) (size : ℕ) → ((w : ℕ) → (size < 2 ^ (w - 1)) ↔ IsWithin w d)
    → (size_limit (row_for s 2) ≤ size) ↔ IsWide s d
is_wide One d size by = by_row One d size (row_with 2 0 2 16) refl (by 16)
is_wide Two d size by = by_row Two d size (row_with 2 2 2 15) refl (by 15)

pub returns : goal.returns
returns c =
    let wide = is_wide c.args.scheme c.args.difference c.size_of.result
    (rw (to_z-of_z w32 c.args.difference c.ranges.difference) at c.size_of.ensures) in
    grind (arith, nat_tests, wide)
