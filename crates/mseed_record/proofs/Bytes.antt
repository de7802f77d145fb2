-- Fields within slices.
use Rattle.std.proofs.Common.{◌≡◌, ℕ, zero, suc, [], ◌∷◌, ◌+◌, ◌<◌, ◌≤◌, List, take, drop, get_or, length, arith, lit<}
use Rattle.std.proofs.Common.{◌∙◌, ap, refl, sym}
use Rattle.std.proofs.lemmas.List.{get_or-take, get_or-drop, drop_more}
use Rattle.mseed_record.specs.Header.{key_at}
use Rattle.mseed_time.specs.declared.order.Order.{Order}
use Rattle.mseed_time.specs.declared.order.Order.TheVariants.{Big, Little}
use Rattle.mseed_time.specs.Btime.{parts_at}
use Rattle.mseed_time.specs.Fields.{number_at}

byte_at : (b : List ℕ) (i : ℕ) → i < 10 → get_or (take 10 (drop 20 b)) i 0 ≡ get_or b (20 + i) 0
byte_at b i h = get_or-take 10 (drop 20 b) i 0 h ∙ get_or-drop 20 b i 0

-- two bytes that are the same spell the same
number_by : (order : Order) (a b : List ℕ) (i j : ℕ) → get_or a i 0 ≡ get_or b j 0
    → get_or a (suc i) 0 ≡ get_or b (suc j) 0 → number_at order 2 i a ≡ number_at order 2 j b
number_by Big a b i j one two = cc (one, two)
number_by Little a b i j one two = cc (one, two)

-- a time that is read from its own ten bytes
pub parts_at-slice : (order : Order) (b : List ℕ) → parts_at order 0 (take 10 (drop 20 b)) ≡ parts_at order 20 b
parts_at-slice order b =
    let ten : List ℕ = take 10 (drop 20 b) in
    let at = λ (i : ℕ) (h : i < 10). byte_at b i h in
    cc (
      number_by order ten b 0 20 (at 0 (lit< tt)) (at 1 (lit< tt)),
      number_by order ten b 2 22 (at 2 (lit< tt)) (at 3 (lit< tt)),
      at 4 (lit< tt),
      at 5 (lit< tt),
      at 6 (lit< tt),
      number_by order ten b 8 28 (at 8 (lit< tt)) (at 9 (lit< tt)),
    )

-- n bytes from a place on, one by one
abbrev pub bytes_from : List ℕ → ℕ → ℕ → List ℕ
bytes_from b i zero = []
bytes_from b i (suc n) = get_or b i 0 ∷ bytes_from b (i + 1) n

pub take-drop-bytes : (b : List ℕ) (i n : ℕ) → i + n ≤ length b → take n (drop i b) ≡ bytes_from b i n
take-drop-bytes b i zero h = refl
take-drop-bytes b i (suc n) h =
    let here : i < length b = omega arith in
    let later = take-drop-bytes b (i + 1) n (omega arith) in
    rw (drop_more b i 0 here, later) refl

-- the key, byte by byte
pub key_at-bytes : (b : List ℕ) → 20 ≤ length b
    → (get_or b 18 0 ∷ get_or b 19 0 ∷ get_or b 8 0 ∷ get_or b 9 0 ∷ get_or b 10 0 ∷ get_or b 11 0 ∷ get_or b 12 0
    ∷ get_or b 13 0 ∷ get_or b 14 0 ∷ get_or b 15 0 ∷ get_or b 16 0 ∷ get_or b 17 0 ∷ []) ≡ key_at b
key_at-bytes b h =
    let network = take-drop-bytes b 18 2 (omega arith) in
    let station = take-drop-bytes b 8 5 (omega arith) in
    let location = take-drop-bytes b 13 2 (omega arith) in
    let channel = take-drop-bytes b 15 3 (omega arith) in
    rw (network, station, location, channel) refl

pub key_long : (b : List ℕ) → 20 ≤ length b → length (key_at b) ≡ 12
key_long b h = ap (λ (xs : List ℕ). length xs) (sym (key_at-bytes b h))
