-- Keys compare as the numbers that their bytes spell.
use Rattle.std.proofs.Common.{◌≡◌, ◌<◌, ◌≤◌, ◌+◌, ◌*◌, ℕ, List, [], ◌∷◌, length, refl, sym, arith}
use Rattle.std.proofs.Common.{zero, suc, take, drop, length-drop, length-take}
use Rattle.std.proofs.lemmas.List.{get_or-drop}
use Rattle.std.specs.Cmp.{nat_cmp_is, ranks}
use Rattle.std.specs.Cmp.Lexicographic.{slice_cmp}
use Rattle.std.specs.Ordering.{MatchOrdering, nat_cmp, ordering_then}
use Rattle.std.specs.Slice.Scan.{big_endian}
use Rattle.std.specs.declared.cmp.Ordering.{Ordering}
use Rattle.std.specs.declared.cmp.Ordering.TheVariants.{Less, Equal, Greater}
use Rattle.mseed_record.specs.private.Words.{AreWords}
use Rattle.mseed_record.proofs.Prefixes.{Octets, octets_prefix}

-- three, one after another
then_then : (a b c : Ordering) → ordering_then (ordering_then a b) c ≡ ordering_then a (ordering_then b c)
then_then Less b c = refl
then_then Equal b c = refl
then_then Greater b c = refl

then_equal : (a : Ordering) → a ≡ ordering_then a Equal
then_equal Less = refl
then_equal Equal = refl
then_equal Greater = refl

-- a further byte counts where what is before it is the same
byte_rank : (m n x y : ℕ) (o p : Ordering) → x < 256 → y < 256 → MatchOrdering o (m < n) (m ≡ n) (n < m)
    → MatchOrdering p (x < y) (x ≡ y) (y < x)
    → MatchOrdering (ordering_then o p) (m * 256 + x < n * 256 + y) (m * 256 + x ≡ n * 256 + y)
    (n * 256 + y < m * 256 + x)
byte_rank m n x y Less p a b h k = omega arith
byte_rank m n x y Greater p a b h k = omega arith
byte_rank m n x y Equal Less a b h k = omega arith
byte_rank m n x y Equal Equal a b h k = omega arith
byte_rank m n x y Equal Greater a b h k = omega arith

byte_after : (m n x y : ℕ) → x < 256 → y < 256
    → nat_cmp (m * 256 + x) (n * 256 + y) ≡ ordering_then (nat_cmp m n) (nat_cmp x y)
byte_after m n x y a b =
    sym (nat_cmp_is (m * 256 + x) (n * 256 + y) (ordering_then (nat_cmp m n) (nat_cmp x y))
    (byte_rank m n x y (nat_cmp m n) (nat_cmp x y) a b (ranks m n) (ranks x y)))

-- lists of as many bytes compare as what they spell
spelled_cmp : (xs ys : List ℕ) (m n : ℕ) → length xs ≡ length ys → Octets xs → Octets ys
    → nat_cmp (big_endian m xs) (big_endian n ys) ≡ ordering_then (nat_cmp m n) (slice_cmp nat_cmp xs ys)
spelled_cmp [] [] m n l p q = then_equal (nat_cmp m n)
spelled_cmp [] (y ∷ ys) m n l p q = absurd (omega arith)
spelled_cmp (x ∷ xs) [] m n l p q = absurd (omega arith)
spelled_cmp (x ∷ xs) (y ∷ ys) m n l p q =
    let later = spelled_cmp xs ys (m * 256 + x) (n * 256 + y) (omega arith) (λ i. p (suc i)) (λ i. q (suc i)) in
    rw (later, byte_after m n x y (p 0) (q 0)) (then_then (nat_cmp m n) (nat_cmp x y) (slice_cmp nat_cmp xs ys))

-- what lies after the first n counts where those are the same
cmp_after : (n : ℕ) (xs ys : List ℕ) → n ≤ length xs → n ≤ length ys
    → slice_cmp nat_cmp xs ys
    ≡ ordering_then (slice_cmp nat_cmp (take n xs) (take n ys)) (slice_cmp nat_cmp (drop n xs) (drop n ys))
cmp_after zero xs ys h k = refl
cmp_after (suc n) [] ys h k = absurd (omega arith)
cmp_after (suc n) (x ∷ xs) [] h k = absurd (omega arith)
cmp_after (suc n) (x ∷ xs) (y ∷ ys) h k =
    rw (cmp_after n xs ys (omega arith) (omega arith)) (sym (then_then (nat_cmp x y)
    (slice_cmp nat_cmp (take n xs) (take n ys)) (slice_cmp nat_cmp (drop n xs) (drop n ys))))

octets_after : (n : ℕ) (b : List ℕ) → Octets b → Octets (drop n b)
octets_after n b octets i = rw (get_or-drop n b i 0) (octets (n + i))

-- keys compare as their words
pub words_cmp : (xs ys : List ℕ) (f g h k : ℕ) → AreWords xs f h → AreWords ys g k
    → ordering_then (nat_cmp f g) (nat_cmp h k) ≡ slice_cmp nat_cmp xs ys
words_cmp xs ys f g h k one other =
    let front = spelled_cmp (take 8 xs) (take 8 ys) 0 0
    (omega (arith, one.size, other.size, length-take 8 xs, length-take 8 ys)) (octets_prefix 8 xs one.octets)
    (octets_prefix 8 ys other.octets) in
    let back = spelled_cmp (drop 8 xs) (drop 8 ys) 0 0
    (omega (arith, one.size, other.size, length-drop 8 xs, length-drop 8 ys)) (octets_after 8 xs one.octets)
    (octets_after 8 ys other.octets) in
    rw (one.front_is, one.back_is, other.front_is, other.back_is, front, back)
    (sym (cmp_after 8 xs ys (omega (arith, one.size)) (omega (arith, other.size))))
