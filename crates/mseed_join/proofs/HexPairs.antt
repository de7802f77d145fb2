-- Bytes that are read four at a time, by eight digits.
use Rattle.std.proofs.Common.{◌≡◌, ◌∙◌, ◌+◌, ◌-◌, ◌*◌, ◌<◌, ◌≤◌, ℕ, zero, suc, List, [], ◌∷◌, ◌++◌}
use Rattle.std.proofs.Common.{Option, Some, None, length, map, get_or, take, drop, refl, sym, ap}
use Rattle.std.proofs.Common.{arith, append_assoc, length-take, mod-eq_of_lt, ◌%◌}
use Rattle.std.proofs.lemmas.List.{drop-drop, drop_more, get_or_append_left, get_or-map, get_or-take, length-map}
use Rattle.std.proofs.lemmas.List.{take_rest}
use Rattle.mseed_join.specs.private.Reading.{◌>>=◌, nibble_of, bytes_at}
use Rattle.mseed_join.proofs.Keys.{nibble_spelled}

-- a byte of two values, and the bytes after it
abbrev made : List ℕ → ℕ → ℕ → Option (ℕ × List ℕ)
made rest high low = Some (16 * high + low, rest)

-- what is read on, where the next two digits have these values
abbrev read_by : ℕ → List ℕ → List ℕ → Option ℕ → Option ℕ → Option (List ℕ × List ℕ)
read_by n done rest o p = (o >>= λ high. p >>= made rest high) >>= λ b. bytes_at n (done ++ b.0 ∷ []) b.1

module _ (bytes values : List ℕ) (room : 8 ≤ length bytes)
    (are : map nibble_of (take 8 bytes) ≡ map (λ n. Some n) values) where
  long : length values ≡ 8
  long = search (arith, length-map, length-take)

  value_at : (k : ℕ) → k < 8 → nibble_of (get_or bytes k 0) ≡ Some (get_or values k 0)
  value_at k l =
      let few : length (take 8 bytes) ≡ 8 = omega (arith, length-take 8 bytes, room) in
      ap nibble_of (sym (get_or-take 8 bytes k 0 l))
      ∙ sym (get_or-map nibble_of (take 8 bytes) k 0 None (omega (arith, few, l)))
      ∙ ap (λ (os : List (Option ℕ)). get_or os k None) are
      ∙ get_or-map (λ (n : ℕ). Some n) values k 0 None (omega (arith, long, l))

  pub values_small : (k : ℕ) → k < 8 → get_or values k 0 < 16
  values_small k l = (nibble_spelled (get_or bytes k 0) (get_or values k 0) (value_at k l)).small

  pair_at : (k : ℕ) → k + 2 ≤ 8 → (n : ℕ) (done : List ℕ)
      → bytes_at (suc n) done (drop k bytes)
      ≡ bytes_at n (done ++ (16 * get_or values k 0 + get_or values (k + 1) 0) ∷ []) (drop (k + 1 + 1) bytes)
  pair_at k l n done =
      let there = drop_more bytes k 0 (omega (arith, l, room))
      ∙ ap (λ (xs : List ℕ). get_or bytes k 0 ∷ xs) (drop_more bytes (k + 1) 0 (omega (arith, l, room))) in
      ap (λ (xs : List ℕ). bytes_at (suc n) done xs) there
      ∙ ap (λ (o : Option ℕ). read_by n done (drop (k + 1 + 1) bytes) o (nibble_of (get_or bytes (k + 1) 0)))
      (value_at k (omega (arith, l)))
      ∙ ap (λ (o : Option ℕ). read_by n done (drop (k + 1 + 1) bytes) (Some (get_or values k 0)) o)
      (value_at (k + 1) (omega (arith, l)))

  abbrev pair : ℕ → ℕ
  pair k = 16 * get_or values k 0 + get_or values (k + 1) 0

  pub four_read : (n : ℕ) (done : List ℕ)
      → bytes_at (suc (suc (suc (suc n)))) done bytes
      ≡ bytes_at n (done ++ pair 0 ∷ pair 2 ∷ pair 4 ∷ pair 6 ∷ []) (drop 8 bytes)
  four_read n done =
      let a : List ℕ = done ++ pair 0 ∷ [] in
      let b : List ℕ = a ++ pair 2 ∷ [] in
      let c : List ℕ = b ++ pair 4 ∷ [] in
      pair_at 0 (omega arith) (suc (suc (suc n))) done
      ∙ pair_at 2 (omega arith) (suc (suc n)) a
      ∙ pair_at 4 (omega arith) (suc n) b
      ∙ pair_at 6 (omega arith) n c
      ∙ ap (λ (xs : List ℕ). bytes_at n xs (drop 8 bytes))
      (append_assoc b (pair 4 ∷ []) (pair 6 ∷ [])
      ∙ append_assoc a (pair 2 ∷ []) (pair 4 ∷ pair 6 ∷ [])
      ∙ append_assoc done (pair 0 ∷ []) (pair 2 ∷ pair 4 ∷ pair 6 ∷ []))

-- two values make a byte, which fits
pub pair_fits : (values : List ℕ) (i : ℕ) → length values ≡ 8 → i + 1 < 8
    → ((k : ℕ) → k < 8 → get_or values k 0 < 16)
    → (16 * get_or (values ++ values) i 0 % 256 + get_or (values ++ values) (i + 1) 0) % 256
    ≡ 16 * get_or values i 0 + get_or values (i + 1) 0
pair_fits values i size within small =
    search (arith, get_or_append_left, mod-eq_of_lt)

-- ---- where a digit is none
none_high : (o : Option ℕ) (n : ℕ) (done rest : List ℕ) (p : Option ℕ) → o ≡ None
    → read_by n done rest o p ≡ None
none_high None n done rest p e = refl
none_high (Some m) n done rest p e = absurd (cc e)

none_low : (o : Option ℕ) (n : ℕ) (done rest : List ℕ) (p : Option ℕ) → p ≡ None
    → read_by n done rest o p ≡ None
none_low (Some m) n done rest (Some k) e = absurd (cc e)
none_low _ n done rest _ e = refl

none_later : (o : Option ℕ) (n : ℕ) (done rest : List ℕ) (p : Option ℕ)
    → ((more : List ℕ) → bytes_at n more rest ≡ None)
    → read_by n done rest o p ≡ None
none_later (Some m) n done rest (Some k) later = later (done ++ (16 * m + k) ∷ [])
none_later _ n done rest _ later = refl

pub no_digit : (n : ℕ) (done bytes : List ℕ) (k : ℕ) → k < n + n → k < length bytes
    → nibble_of (get_or bytes k 0) ≡ None → bytes_at n done bytes ≡ None
no_digit zero done bytes k l within e = absurd (omega (arith, l))
no_digit (suc n) done [] k l within e = absurd (omega (arith, within))
no_digit (suc n) done (h ∷ []) k l within e = refl
no_digit (suc n) done (h ∷ b ∷ rest) zero l within e = none_high (nibble_of h) n done rest (nibble_of b) e
no_digit (suc n) done (h ∷ b ∷ rest) (suc zero) l within e = none_low (nibble_of h) n done rest (nibble_of b) e
no_digit (suc n) done (h ∷ b ∷ rest) (suc (suc k)) l within e =
    none_later (nibble_of h) n done rest (nibble_of b)
    (λ more. no_digit n more rest k (omega (arith, l)) (omega (arith, within)) e)

-- too few bytes
pub too_few : (n : ℕ) (done bytes : List ℕ) → length bytes < n + n → bytes_at n done bytes ≡ None
too_few zero done bytes l = absurd (omega (arith, l))
too_few (suc n) done (h ∷ b ∷ rest) l =
    none_later (nibble_of h) n done rest (nibble_of b) (λ more. too_few n more rest (omega (arith, l)))
too_few (suc n) done _ l = refl

-- ---- a key, four bytes at a time
-- four more bytes are read
abbrev pub Reads : List ℕ → List ℕ → Type 0
Reads bytes x = (n : ℕ) (done : List ℕ)
    → bytes_at (suc (suc (suc (suc n)))) done bytes ≡ bytes_at n (done ++ x) (drop 8 bytes)

reads_after : (bytes x : List ℕ) (at : ℕ) → Reads (take (length bytes - at) (drop at bytes)) x → (n : ℕ)
    (done : List ℕ) → bytes_at (suc (suc (suc (suc n)))) done (drop at bytes)
    ≡ bytes_at n (done ++ x) (drop (at + 8) bytes)
reads_after bytes x at reads n done =
    ap (λ (xs : List ℕ). bytes_at (suc (suc (suc (suc n)))) done xs) (sym (take_rest bytes at))
    ∙ reads n done
    ∙ ap (λ (xs : List ℕ). bytes_at n (done ++ x) xs)
    (ap (λ (xs : List ℕ). drop 8 xs) (take_rest bytes at) ∙ drop-drop 8 at bytes)

pub eight_read : (bytes x y : List ℕ) → Reads bytes x → Reads (take (length bytes - 8) (drop 8 bytes)) y
    → bytes_at 12 [] bytes ≡ bytes_at 4 (x ++ y) (drop 16 bytes)
eight_read bytes x y first second = first 8 [] ∙ reads_after bytes y 8 second 4 x

pub key_read : (bytes x y z : List ℕ) → Reads bytes x → Reads (take (length bytes - 8) (drop 8 bytes)) y
    → Reads (take (length bytes - 16) (drop 16 bytes)) z
    → bytes_at 12 [] bytes ≡ Some ((x ++ y) ++ z, drop 24 bytes)
key_read bytes x y z first second third =
    eight_read bytes x y first second ∙ reads_after bytes z 16 third 0 (x ++ y)
