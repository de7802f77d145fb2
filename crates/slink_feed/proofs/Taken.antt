-- Which numbers are taken where one is wanted.
use Rattle.std.proofs.Common.{◌≡◌, ℕ, ◌^◌, inl, inr, Bool, true, false, ◌==◌, ◌&&◌}
use Rattle.std.proofs.Common.{nat_lt}
use Rattle.std.proofs.lemmas.Bool.{and_parts, eqb-true, ltb-true, or_cases}
use Rattle.slink_feed.specs.Dialogue.{ahead_of, is_ahead, is_taken}
use Rattle.slink_feed.specs.Holding.{IsNext}

next_same : (holes : Bool) (want n : ℕ) → n ≡ want → IsNext holes want n
next_same false want n same = same
next_same true want n same = inl same

next_ahead : (holes : Bool) (want n : ℕ) → (holes && is_ahead want n) ≡ true → IsNext holes want n
next_ahead false want n h = absurd (let bad : false ≡ true = h in cc bad)
next_ahead true want n h =
    let parts = and_parts (nat_lt 0 (ahead_of want n)) (nat_lt (ahead_of want n) (2 ^ 23)) h in
    inr (ltb-true 0 (ahead_of want n) parts.0, ltb-true (ahead_of want n) (2 ^ 23) parts.1)

pub taken_next : (holes : Bool) (want n : ℕ) → is_taken holes want n ≡ true → IsNext holes want n
taken_next holes want n h = elim (or_cases (n == want) (holes && is_ahead want n) h) [
  | inl same ↦ next_same holes want n (eqb-true n want same)
  | inr ahead ↦ next_ahead holes want n ahead
]
