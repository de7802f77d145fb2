-- Words that are written into frames.
use Rattle.std.proofs.Common.{◌⊎◌, inl, inr, ◌≢◌}
use Rattle.std.proofs.Common.{◌≡◌, ℕ, ◌+◌, ◌-◌, ◌*◌, ◌^◌, ◌<◌, ◌≤◌, List, [], ◌++◌, length, take, drop}
use Rattle.std.proofs.lemmas.Bool.Decides.{nat_tests}
use Rattle.std.proofs.Common.{get_or, arith, refl, ◌∙◌, ⊎_elim, cond, eqb}
use Rattle.std.proofs.Common.{ltb, replicate, zero, suc}
use borrow.Rule.Slice.PartMut.{put_mid, post_of}
use Rattle.std.proofs.lemmas.Bool.{cases_lt, cases_eq, ne_eqb, eq-eqb}
use Rattle.std.proofs.lemmas.List.{length-take-le, length-drop, drop_at, drop_all, get_or-drop, get_or-take}
use Rattle.std.proofs.lemmas.List.{get_or_append_left, get_or-append_right, append-nil, take_rest}
use Rattle.byteorder.specs.Endian.{big_number, big_bytes}
use Rattle.byteorder.specs.Numbers.{big_number-reads_back, length-bytes_high_first}
use Rattle.mseed_steim.specs.Frames.{word_at}

same_number : (xs ys : List ℕ) → ((i : ℕ) → i < 4 → get_or xs i 0 ≡ get_or ys i 0) → big_number 4 xs ≡ big_number 4 ys
same_number xs ys h = rw (h 0 (omega arith), h 1 (omega arith), h 2 (omega arith), h 3 (omega arith)) refl

-- where four bytes are written in the place of others, all others stay
other_byte : (p bytes : List ℕ) (a x : ℕ) → length bytes ≡ 4 → a + 4 ≤ length p → (x < a) ⊎ (a + 4 ≤ x)
    → get_or (put_mid a (length p - a) p (bytes ++ drop 4 (take (length p - a) (drop a p)))) x 0 ≡ get_or p x 0
other_byte p bytes a x four room apart =
    let long : length (take a p) ≡ a = length-take-le a p (omega (arith, room)) in
    let none : post_of a (length p - a) p ≡ [] = drop_all (length p - a) (drop a p) (omega (arith, length-drop a p)) in
    rw (none, take_rest p a, append-nil (bytes ++ drop 4 (drop a p))) (⊎_elim
    (λ (less : x < a). get_or_append_left (take a p) (bytes ++ drop 4 (drop a p)) 0 x (omega (arith, less, long))
    ∙ get_or-take a p x 0 less)
    (λ (more : a + 4 ≤ x).
    let at : a + (4 + (x - a - 4)) ≡ x = omega (arith, more) in
    get_or-append_right (take a p) (bytes ++ drop 4 (drop a p)) a x 0 long (omega (arith, more))
    ∙ get_or-append_right bytes (drop 4 (drop a p)) 4 (x - a) 0 four (omega (arith, more))
    ∙ rw (get_or-drop, get_or-drop, at) refl) apart)

pub word_written : (p buf : List ℕ) (n j k : ℕ) → 4 * (j + 1) ≤ length p → n < 2 ^ 32
    → buf ≡ big_bytes 4 n ++ drop 4 (take (length p - 4 * j) (drop (4 * j) p))
    → word_at (put_mid (4 * j) (length p - 4 * j) p buf) k ≡ cond (eqb k j) n (word_at p k)
word_written p buf n j k h small e =
    let rest = drop 4 (take (length p - 4 * j) (drop (4 * j) p)) in
    let long : length (take (4 * j) p) ≡ 4 * j = length-take-le (4 * j) p (omega (arith, h)) in
    ⊎_elim
    (λ (same : k ≡ j). rw (eq-eqb k j same, same, e, drop_at (take (4 * j) p) _ (4 * j) long)
    (big_number-reads_back 4 n (rest ++ post_of (4 * j) (length p - 4 * j) p) small))
    (λ (other : k ≢ j). rw (ne_eqb k j other, e)
    (same_number (drop (4 * k) (put_mid (4 * j) (length p - 4 * j) p (big_bytes 4 n ++ rest))) (drop (4 * k) p)
    (λ i less. rw (get_or-drop, get_or-drop) (other_byte p (big_bytes 4 n) (4 * j) (4 * k + i)
    (length-bytes_high_first 4 n) (omega (arith, h)) (⊎_elim (λ (before : k < j). inl (omega (arith, before, less)))
    (λ (after : j ≤ k). inr (omega (arith, after, other))) (cases_lt k j))))))
    (cases_eq k j)

-- zeros from a word on
get_zero : (n i : ℕ) → get_or {A = ℕ} (replicate n 0) i 0 ≡ 0
get_zero zero i = refl
get_zero (suc n) zero = refl
get_zero (suc n) (suc i) = get_zero n i

ruleset read_at = (append-nil, drop_all, get_or-append_right, get_or-drop, get_or-take, get_or_append_left)

pub word_cleared : (p buf : List ℕ) (n j k : ℕ) → 4 * j ≤ length p → buf ≡ replicate n 0
    → word_at (put_mid (4 * j) (length p - 4 * j) p buf) k ≡ cond (ltb k j) (word_at p k) 0
word_cleared p buf n j k h e =
    grind (arith, nat_tests, read_at, get_zero, length-drop, length-take-le, same_number)
