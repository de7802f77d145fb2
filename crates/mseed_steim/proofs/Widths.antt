-- What a width holds, a wider one does.
use Rattle.std.proofs.Common.{ℕ, ◌≤◌, List, ℤ, arith, All}
use Rattle.std.proofs.Math.Nat.{pow-le-pow_right}
use Rattle.std.proofs.lemmas.List.Elements.{All-weaker}
use Rattle.mseed_steim.specs.Spelling.{IsWithin}

pub within_wider : (v w : ℕ) (d : ℤ) → v ≤ w → IsWithin v d → IsWithin w d
within_wider v w d l h = search (arith, pow-le-pow_right)

pub all_wider : (v w : ℕ) (ds : List ℤ) → v ≤ w → All (IsWithin v) ds → All (IsWithin w) ds
all_wider v w ds l h = All-weaker (IsWithin v) (IsWithin w) (λ d p. within_wider v w d l p) ds h
