-- What holds of each number below a bound.
use Rattle.std.proofs.Common.{◌≡◌, ℕ, zero, suc, ◌<◌, Bool, true, ◌&&◌, T, eqb, eqb→eq, below_none, below_more, arith}
use Rattle.std.proofs.Common.{inl, inr, subst}
use Rattle.std.proofs.lemmas.Bool.{cases_lt}
use mir.ValLaws.{and_both}

-- a test of each, and what it says of one
abbrev pub all_below : (ℕ → Bool) → ℕ → Bool
all_below p zero = true
all_below p (suc n) = p n && all_below p n

pub every_below : (p : ℕ → Bool) (n : ℕ) → T (all_below p n) → (i : ℕ) → i < n → T (p i)
every_below p zero h i l = absurd (omega arith)
every_below p (suc n) h i l =
    elim (cases_lt i n) [
      | inl less ↦ every_below p n (and_both (p n) (all_below p n) h).1 i less
      | inr more ↦ let e : n ≡ i = omega arith in subst (λ x. T (p x)) e (and_both (p n) (all_below p n) h).0
    ]

-- two numbers of each are one, if they are for each
pub same_below : (f g : ℕ → ℕ) (n : ℕ) → T (all_below (λ x. eqb (f x) (g x)) n) → (x : ℕ) → x < n → f x ≡ g x
same_below f g n h x less = eqb→eq (f x) (g x) (every_below (λ x. eqb (f x) (g x)) n h x less)

-- what holds of each holds of one
pub four : (P : ℕ → Type 0) → P 0 → P 1 → P 2 → P 3 → (i : ℕ) → i < 4 → P i
four P a b c d = below_more P 3 (below_more P 2 (below_more P 1 (below_more P 0 (below_none P) a) b) c) d

pub eight : (P : ℕ → Type 0) → P 0 → P 1 → P 2 → P 3 → P 4 → P 5 → P 6 → P 7 → (i : ℕ) → i < 8 → P i
eight P a b c d e f g h = below_more P 7 (below_more P 6 (below_more P 5 (below_more P 4 (four P a b c d) e) f) g) h

pub sixteen : (P : ℕ → Type 0) → P 0 → P 1 → P 2 → P 3 → P 4 → P 5 → P 6 → P 7 → P 8 → P 9 → P 10 → P 11 → P 12 → P 13
    → P 14 → P 15 → (i : ℕ) → i < 16 → P i
sixteen P a b c d e f g h i j k l m n o p = search (arith, eight)
