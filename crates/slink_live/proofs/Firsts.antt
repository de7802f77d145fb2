-- The first of some stations in a round.
use Rattle.std.proofs.Common.{◌≡◌, ℕ, ◌+◌, ◌-◌, ◌/◌, ◌%◌, ◌^◌, ◌<◌, ◌≤◌, ◌∙◌, ap, sym, arith, inl, inr, mod-lt}
use Rattle.std.specs.Int.{bit_at}
use Rattle.std.proofs.lemmas.Bool.Decides.{leb_tells}
use Rattle.std.proofs.lemmas.Nat.{div-add-mod', pow_pos}
use Rattle.std.proofs.lemmas.Nat.Bits.{bit_at-zero, bit_at_cat_high}
use Rattle.slink_live.specs.History.{IsEarlier}

not_both : (n : ℕ) → n ≡ 0 → ¬ (n ≡ 1)
not_both n zero_is one_is = omega (arith, zero_is, one_is)

shifted_from : (n p j : ℕ) → p ≤ j → bit_at n j ≡ bit_at (n / 2 ^ p) (j - p)
shifted_from n p j le = ap (λ x. bit_at x j) (sym (div-add-mod' n (2 ^ p)))
    ∙ bit_at_cat_high (n / 2 ^ p) p (n % 2 ^ p) j (mod-lt n (pow_pos p)) le

none_after : (n p j : ℕ) → n / 2 ^ p ≡ 0 → p ≤ j → bit_at n j ≡ 0
none_after n p j none le = shifted_from n p j le ∙ (ap (λ x. bit_at x (j - p)) none ∙ bit_at-zero (j - p))

pub few_after : (rest p k : ℕ) → (32 ≤ p → rest ≡ 0) → bit_at rest k ≡ 1 → p < 32
few_after rest p k none has = elim (leb_tells 32 p) [
  | inl le ↦ absurd (not_both (bit_at rest k) (ap (λ n. bit_at n k) (none le.1) ∙ bit_at-zero k) has)
  | inr few ↦ omega (arith, few.1)
]

module _ (n p k : ℕ) where
  pub has_after : bit_at (n / 2 ^ p) k ≡ 1 → bit_at n (p + k) ≡ 1
  has_after has = let same : p + k - p ≡ k = omega arith in shifted_from n p (p + k) (omega arith) ∙ rw same has

  pub first_beyond : ((i : ℕ) → i < k → bit_at (n / 2 ^ p) i ≡ 0) → (j : ℕ) → IsEarlier p j (p + k)
      → ¬ (bit_at n j ≡ 1)
  first_beyond none j (inl one) =
      not_both (bit_at n j) (shifted_from n p j one.0 ∙ none (j - p) (omega (arith, one.0, one.1)))
  first_beyond none j (inr (inl two)) = absurd (omega (arith, two.0))
  first_beyond none j (inr (inr three)) = absurd (omega (arith, three.0))

  pub first_before : n / 2 ^ p ≡ 0 → ((i : ℕ) → i < k → bit_at n i ≡ 0) → (j : ℕ) → IsEarlier p j k
      → ¬ (bit_at n j ≡ 1)
  first_before beyond none j (inl one) = not_both (bit_at n j) (none_after n p j beyond one.0)
  first_before beyond none j (inr (inl two)) = not_both (bit_at n j) (none_after n p j beyond two.1)
  first_before beyond none j (inr (inr three)) = not_both (bit_at n j) (none j three.1)
