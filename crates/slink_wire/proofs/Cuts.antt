-- Where a list is cut at the first element that passes a test.
use Rattle.std.proofs.Common.{◌≡◌, ℕ, ◌+◌, ◌<◌, refl, sym, ap, ◌∙◌, arith, Bool, true, false, not, cond, ◌&&◌}
use Rattle.std.proofs.Common.{List, [], ◌∷◌, ◌++◌, length, ◌≤◌, ◌==◌, take, drop}
use Rattle.std.proofs.Common.{get_or}
use Rattle.std.specs.List.{All, list_all, position_or_len, before_first, after_first, position}
use Rattle.std.proofs.Math.Numerals.{one-add}
use Rattle.std.proofs.lemmas.List.{append_cancel_left, take_at, take_all}
use Rattle.std.proofs.lemmas.List.Folds.{list_all_at}
use Rattle.std.proofs.lemmas.List.Sums.{passes_at_first, prefix_len-le-length, split_at_first}
use Rattle.std.proofs.lemmas.Bool.{and_parts, both_ways, eq-eqb, eqb-true, not-true}
use Rattle.std.proofs.lemmas.Bool.{true_from_ne_false}
use Rattle.std.specs.Option.{unwrap_or}
pub use Rattle.std.proofs.lemmas.Bool.{and_parts as both}

-- past elements that fail, the place is in what follows
pub place_after : (p : ℕ → Bool) (xs ys : List ℕ) → list_all (λ x. not (p x)) xs ≡ true
    → position_or_len p (xs ++ ys) ≡ length xs + position_or_len p ys
place_after p [] ys h = omega arith
place_after p (x ∷ xs) ys h =
    let fails = and_parts (not (p x)) (list_all (λ z. not (p z)) xs) h in
    rw (fails.0, place_after p xs ys fails.1) (omega arith)

-- the elements before it fail, and the next one passes
pub first_at : (p : ℕ → Bool) (xs : List ℕ) (y : ℕ) (ys : List ℕ) → list_all (λ x. not (p x)) xs ≡ true → p y ≡ true
    → position_or_len p (xs ++ y ∷ ys) ≡ length xs
first_at p xs y ys h t = place_after p xs (y ∷ ys) h ∙ rw t (omega arith)

-- the list is what stands before the first that passes, that one, and the rest
pub cut_at : (p : ℕ → Bool) (xs : List ℕ) → position_or_len p xs < length xs
    → xs ≡ before_first p xs ++ get_or xs (position_or_len p xs) 0 ∷ after_first p xs
cut_at p xs h = split_at_first p xs 0 h

pub place_bound : (p : ℕ → Bool) (xs : List ℕ) → position_or_len p xs ≤ length xs
place_bound p xs = prefix_len-le-length (λ x. not (p x)) xs

pub place_or_all : (p : ℕ → Bool) (xs : List ℕ) → unwrap_or (position p xs) (length xs) ≡ position_or_len p xs
place_or_all p xs = grind (arith, place_bound)

-- the elements before the first that passes fail
pub before_fails : (p : ℕ → Bool) (xs : List ℕ) → list_all (λ x. not (p x)) (take (position_or_len p xs) xs) ≡ true
before_fails p [] = refl
before_fails p (x ∷ xs) =
    elim (p x) as (λ t. p x ≡ t → list_all (λ z. not (p z)) (take (cond (not t) (1 + position_or_len p xs) 0) (x ∷ xs))
    ≡ true) [
      | true ↦ λ e. refl
      | false ↦ λ e. rw one-add (ap (λ t. not t && list_all (λ z. not (p z)) (take (position_or_len p xs) xs)) e
          ∙ before_fails p xs)
    ] refl

-- no such byte stands there
abbrev pub Lacks : ℕ → List ℕ → Type 0
Lacks byte bytes = list_all (λ b. not (b == byte)) bytes ≡ true

-- each byte there is another
pub each_other : (bytes : List ℕ) (byte : ℕ) → Lacks byte bytes → All (λ b. (b == byte) ≡ false) bytes
each_other bytes byte lacks = λ k d lt. not-true _ (true_from_ne_false _
    (λ same. both_ways _ (list_all_at (λ b. not (b == byte)) bytes k d lt same) lacks))

pub lacks_all : (bytes : List ℕ) (byte n : ℕ) → n ≡ position_or_len (λ b. b == byte) bytes → n ≡ length bytes
    → Lacks byte bytes
lacks_all bytes byte n at end =
    rw (← at, end, take_all (length bytes) bytes (omega arith)) at (before_fails (λ b. b == byte) bytes)

pub byte_at : (bytes : List ℕ) (byte n : ℕ) → n ≡ position_or_len (λ b. b == byte) bytes → n < length bytes
    → get_or bytes n 0 ≡ byte
byte_at bytes byte n at lt = eqb-true _ _ (rw (← at) at (passes_at_first (λ b. b == byte) bytes 0 (omega arith)))

pub parts_at : (bytes : List ℕ) (byte n : ℕ) → n ≡ position_or_len (λ b. b == byte) bytes → n < length bytes
    → (bytes ≡ take n bytes ++ byte ∷ drop (n + 1) bytes) × Lacks byte (take n bytes)
parts_at bytes byte n at lt = (
  rw (← at, byte_at bytes byte n at lt) at (cut_at (λ b. b == byte) bytes (omega arith)),
  rw (← at) at (before_fails (λ b. b == byte) bytes),
)

-- what stands before and after the first such byte is one pair
pub one_cut : (byte : ℕ) (xs ys xs' ys' : List ℕ) → Lacks byte xs → Lacks byte xs'
    → xs ++ byte ∷ ys ≡ xs' ++ byte ∷ ys' → (xs ≡ xs') × (ys ≡ ys')
one_cut byte xs ys xs' ys' h h' e =
    let yes : (byte == byte) ≡ true = eq-eqb byte byte refl in
    let here = first_at (λ b. b == byte) xs byte ys h yes in
    let there = first_at (λ b. b == byte) xs' byte ys' h' yes in
    let long : length xs ≡ length xs' = sym here ∙ rw e there in
    let prefix : xs ≡ xs' = sym (take_at xs (byte ∷ ys) (length xs) refl) ∙ rw e (take_at xs' _ _ (sym long)) in
    let back : byte ∷ ys ≡ byte ∷ ys' = append_cancel_left xs' _ _ (rw prefix at e) in
    (prefix, cc)
