-- Keys: their digits.
use Rattle.std.proofs.Common.{◌≡◌, ℕ, zero, suc, ◌+◌, ◌*◌, ◌/◌, ◌%◌, ◌^◌, ◌<◌, nat_le, nat_lt, List, []}
use Rattle.std.proofs.Common.{◌∷◌, ◌++◌, Option, Some, None, length, get_or, take, refl}
use Rattle.std.proofs.Common.{sym, ap, ◌∙◌, subst, arith, append_assoc, append-nil}
use Rattle.std.specs.List.{AllByRecursion}
use Rattle.std.proofs.lemmas.Bool.Decides.{nat_tests}
use Rattle.std.proofs.lemmas.List.{take_more}
use Rattle.std.proofs.lemmas.Option.{same_Some}
use Rattle.mseed_join.specs.Lines.{hex_digit, key_text}
use Rattle.mseed_join.specs.private.Reading.{◌>>=◌, nibble_of, byte_at, bytes_at, key_at}

abbrev pub AreBytes : List ℕ → Type 0
AreBytes bs = AllByRecursion (λ b. b < 2 ^ 8) bs

nibble_back : (n : ℕ) → n < 16 → nibble_of (hex_digit n) ≡ Some n
nibble_back n l = search (arith, nat_lt, nat_tests, nat_le)

byte_back : (b : ℕ) (rest : List ℕ) → b < 2 ^ 8
    → byte_at (hex_digit (b / 16) ∷ hex_digit (b % 16) ∷ rest) ≡ Some (b, rest)
byte_back b rest l = search (arith, nibble_back)

bytes_back : (done key rest : List ℕ) → AreBytes key
    → bytes_at (length key) done (key_text key ++ rest) ≡ Some (done ++ key, rest)
bytes_back done [] rest small = ap (λ (xs : List ℕ). Some (xs, rest)) (sym (append-nil done))
bytes_back done (b ∷ bs) rest small =
    search (arith, byte_back, append_assoc, bytes_back (done ++ b ∷ []) bs rest small.1)

-- a key that is written reads back
pub key_back : (key rest : List ℕ) → length key ≡ 12 → AreBytes key → key_at (key_text key ++ rest) ≡ Some (key, rest)
key_back key rest long small =
    ap (λ (n : ℕ). bytes_at n [] (key_text key ++ rest)) (sym long) ∙ bytes_back [] key rest small

-- ---- what is read is what is written
pub record IsNibble (b n : ℕ) : Type 0 where
  pub is : b ≡ hex_digit n
  pub small : n < 16

pub nibble_spelled : (b n : ℕ) → nibble_of b ≡ Some n → IsNibble b n
nibble_spelled b n e = search (arith, nat_le, nat_lt, same_Some, nat_tests)

record IsByte (bytes : List ℕ) (x : ℕ × List ℕ) : Type 0 where
  is : bytes ≡ hex_digit (x.0 / 16) ∷ hex_digit (x.0 % 16) ∷ x.1
  small : x.0 < 2 ^ 8

byte_spelled : (bytes : List ℕ) (x : ℕ × List ℕ) → byte_at bytes ≡ Some x → IsByte bytes x
byte_spelled (h ∷ l ∷ rest) x e = by (nibble_of h) refl (nibble_of l) refl e
  where
    by : (a : Option ℕ) → nibble_of h ≡ a → (b : Option ℕ) → nibble_of l ≡ b
        → (a >>= λ high. b >>= λ low. Some (16 * high + low, rest)) ≡ Some x → IsByte (h ∷ l ∷ rest) x
    by None k b m given = absurd (cc given)
    by (Some high) k None m given = absurd (cc given)
    by (Some high) k (Some low) m given =
        let p : IsNibble h high = nibble_spelled h high k in
        let q : IsNibble l low = nibble_spelled l low m in
        let leading : (16 * high + low) / 16 ≡ high = omega (arith, q.small) in
        let back : (16 * high + low) % 16 ≡ low = omega (arith, q.small) in
        subst (λ (y : ℕ × List ℕ). IsByte (h ∷ l ∷ rest) y) (same_Some (16 * high + low, rest) x given) (record {
          is = (λ i. p.is i ∷ q.is i ∷ rest) ∙ (λ i. hex_digit (sym leading i) ∷ hex_digit (sym back i) ∷ rest);
          small = omega (arith, p.small, q.small);
        })
byte_spelled _ x e = absurd (cc e)

-- so many bytes after those that were there
record AreMore (n : ℕ) (done bytes : List ℕ) (x : List ℕ × List ℕ) : Type 0 where
  key : List ℕ
  all : x.0 ≡ done ++ key
  long : length key ≡ n
  is : bytes ≡ key_text key ++ x.1
  small : AreBytes key

bytes_spelled : (n : ℕ) (done bytes : List ℕ) (x : List ℕ × List ℕ) → bytes_at n done bytes ≡ Some x
    → AreMore n done bytes x
bytes_spelled zero done bytes x e = search (arith, same_Some, append-nil)
bytes_spelled (suc n) done bytes x e =
    by (byte_at bytes) refl e (λ b given. bytes_spelled n (done ++ b.0 ∷ []) b.1 x given)
  where
    by : (o : Option (ℕ × List ℕ)) → byte_at bytes ≡ o → (o >>= λ b. bytes_at n (done ++ b.0 ∷ []) b.1) ≡ Some x
        → ((b : ℕ × List ℕ) → bytes_at n (done ++ b.0 ∷ []) b.1 ≡ Some x → AreMore n (done ++ b.0 ∷ []) b.1 x)
        → AreMore (suc n) done bytes x
    by None k given more = absurd (cc given)
    by (Some b) k given more = search (arith, byte_spelled, append_assoc)

-- what is read as a key is the text of one
pub record IsKey (bytes : List ℕ) (x : List ℕ × List ℕ) : Type 0 where
  pub is : bytes ≡ key_text x.0 ++ x.1
  pub long : length x.0 ≡ 12
  pub small : AreBytes x.0

pub key_spelled : (bytes : List ℕ) (x : List ℕ × List ℕ) → key_at bytes ≡ Some x → IsKey bytes x
key_spelled bytes x e =
    let m : AreMore 12 [] bytes x = bytes_spelled 12 [] bytes x e in record {
      is = m.is ∙ ap (λ (k : List ℕ). key_text k ++ x.1) (sym m.all);
      long = ap (λ (k : List ℕ). length k) m.all ∙ m.long;
      small = subst AreBytes (sym m.all) m.small;
    }

-- ---- writing
key_snoc : (key : List ℕ) (b : ℕ)
    → key_text (key ++ b ∷ []) ≡ key_text key ++ hex_digit (b / 16) ∷ hex_digit (b % 16) ∷ []
key_snoc [] b = refl
key_snoc (k ∷ ks) b = ap (λ (z : List ℕ). hex_digit (k / 16) ∷ hex_digit (k % 16) ∷ z) (key_snoc ks b)

-- one byte more of a key is written
pub key_pushed : (key : List ℕ) (n d high low : ℕ) (old items new : List ℕ) → n < length key
    → high ≡ hex_digit (get_or key n d / 16) → low ≡ hex_digit (get_or key n d % 16)
    → items ≡ old ++ key_text (take n key) → new ≡ items ++ high ∷ low ∷ [] → new ≡ old ++ key_text (take (n + 1) key)
key_pushed key n d high low old items new l h k before one =
    one ∙ (λ i. before i ++ h i ∷ k i ∷ [])
    ∙ append_assoc old (key_text (take n key)) (hex_digit (get_or key n d / 16) ∷ hex_digit (get_or key n d % 16) ∷ [])
    ∙ ap (λ (z : List ℕ). old ++ z) (sym (ap key_text (take_more key n d l) ∙ key_snoc (take n key) (get_or key n d)))
