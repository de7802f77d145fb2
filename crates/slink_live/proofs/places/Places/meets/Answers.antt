use Rattle.std.proofs.Common.{◌≡◌, ◌∙◌, ℕ, ap, arith, bit_and, inl, inr, nat_eq, not, sym, true, false}
use Rattle.std.specs.Int.{bit_at}
use Rattle.std.proofs.lemmas.Bool.{OnFalse_from}
use Rattle.std.proofs.lemmas.Bool.Decides.{eqb_tells}
use Rattle.std.proofs.lemmas.Nat.Bits.{bit_at-zero, bit_at_and}
use Rattle.slink_live.proofs.places.Places.meets.Goals as goal

-- numbers that share no bit
apart : (a b k : ℕ) → bit_and a b ≡ 0 → bit_at a k ≡ 1 → ¬ (bit_at b k ≡ 1)
apart a b k none x y =
    omega (arith, x, y, bit_at_and a b k, ap (λ n. bit_at n k) none, bit_at-zero k)

is_zero : (n : ℕ) → not (nat_eq n 0) ≡ false → n ≡ 0
is_zero n e = elim (eqb_tells n 0) [
  | inl same ↦ same.1
  | inr other ↦ absurd (let bad : true ≡ false = sym (ap not other.0) ∙ e in cc bad)
]

pub returns : goal.returns
returns c =
    OnFalse_from (not (nat_eq (bit_and c.args.self.bits c.args.others.bits) 0)) _
    (λ e k x. apart c.args.self.bits c.args.others.bits k
    (is_zero (bit_and c.args.self.bits c.args.others.bits) e) x)
