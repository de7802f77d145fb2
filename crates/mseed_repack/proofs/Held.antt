-- The numbers that an encoding holds.
use Rattle.std.proofs.Common.{arith}
use Rattle.std.proofs.Common.{◌≡◌, ◌↔◌, ℕ, ℤ, None, Some, subst}
use Rattle.mseed_steim.specs.Spelling.{IsWithin}
use Rattle.mseed_steim.specs.declared.encoding.Encoding.{Encoding}
use Rattle.mseed_pack.specs.Fitting.{IsDifferenceOf, IsSampleOf}
use Rattle.mseed_repack.specs.Misfits.{difference_bits, sample_bits}

pub samples_held : (e : Encoding) (z : ℤ) → IsSampleOf e z ↔ IsWithin (sample_bits e) z
samples_held e z = grind (arith)

-- numbers of as many bits
within_as : (bits other : ℕ) (z : ℤ) → bits ≡ other → (IsWithin bits z ↔ IsWithin other z)
within_as bits other z e = subst (λ (n : ℕ). IsWithin bits z ↔ IsWithin n z) e (λ h. h, λ h. h)

pub differences_held : (e : Encoding) (bits : ℕ) (z : ℤ) → difference_bits e ≡ Some bits
    → (IsDifferenceOf e z ↔ IsWithin bits z)
differences_held e bits z h = grind (arith, within_as)

pub any_held : (e : Encoding) (z : ℤ) → difference_bits e ≡ None → IsDifferenceOf e z
any_held e z h = grind (arith)
