-- Sums of differences, four at once and in whole turns.
use Rattle.std.proofs.Common.{◌≡◌, ℕ, ◌+◌, ◌-◌, ◌<◌, ◌≤◌, ◌^◌, suc, List, [], ◌∷◌, ◌++◌, map, take, drop, length}
use Rattle.std.proofs.lemmas.Bool.Decides.{nat_tests}
use Rattle.std.proofs.Common.{◌%◌, ℤ, pos, ◌+ℤ◌, nat_abs, w32, to_z, of_z, FitsSigned, arith, refl, ap, sym}
use Rattle.std.proofs.Common.{◌∙◌, append_assoc, get_or, zero}
use Rattle.std.specs.Prelude.{replicate}
use Rattle.std.proofs.Math.Seq.{take-append-add}
use Rattle.std.proofs.lemmas.List.{length-append, length-take-le, take-append-le, take-take, take_at}
use Rattle.std.proofs.lemmas.Simd.{chunk-drop, length-chunk, put_chunk_is}
use borrow.Rule.Slice.PartMut.{mid_of, post_of, put_mid}
use lib.Lanes.{put_chunk}
use Rattle.std.specs.Int.{int_wrap}
use Rattle.std.proofs.lemmas.Int.{int_wrap-add_left, int_wrap-add_right, int_wrap_fits, ints, to_z-of_z}
use Rattle.std.proofs.lemmas.Int.{wrapping_add-bits}
use Rattle.mseed_steim.specs.private.Lanes.{total, span}
use Rattle.mseed_steim.specs.private.Sums.{sums}
use Rattle.mseed_steim.proofs.Far.{abs_sum, near_signed, total_near}
use Rattle.mseed_steim.proofs.FrameItems.{span-append, total-append}

-- a list of four
pub record IsFour (xs : List ℤ) : Type 0 where
  pub a : ℤ
  pub b : ℤ
  pub c : ℤ
  pub d : ℤ
  pub same : xs ≡ a ∷ b ∷ c ∷ d ∷ []

pub four_of : (xs : List ℤ) → length xs ≡ 4 → IsFour xs
four_of (a ∷ b ∷ c ∷ d ∷ []) h = record { a = a; b = b; c = c; d = d; same = refl }
four_of _ h = absurd (omega (arith, h))

-- the last lane of four, held in 32 bits
pub top_held : (xs : List ℤ) → length xs ≡ 4 → nat_abs (get_or xs 3 (pos 0)) < 2 ^ 31
    → get_or (map (to_z w32) (map (of_z w32) xs)) 3 (pos 0) ≡ get_or xs 3 (pos 0)
top_held xs long near =
    let f = four_of xs long in
    rw f.same (to_z-of_z w32 f.d (near_signed f.d (rw f.same at near)))

-- the bits are those of a number, modulo 2^32
pub record Holds (bits : ℕ) (z : ℤ) : Type 0 where
  pub below : bits < 2 ^ 32
  pub is : to_z w32 bits ≡ int_wrap w32 z

pub holds : (z : ℤ) → nat_abs z < 2 ^ 31 → Holds (of_z w32 z) z
holds z near = search (arith, int_wrap_fits, near_signed, to_z-of_z)

abbrev pub added : ℕ → ℕ → ℕ
added m n = (m + n) % 2 ^ 32

pub holds_sum : {m n : ℕ} {y z : ℤ} → Holds m y → Holds n z → Holds (added m n) (y +ℤ z)
holds_sum {m} {n} {y} {z} h k = record {
  below = omega arith;
  is = wrapping_add-bits w32 m n h.below k.below
      ∙ rw (h.is, k.is) (int_wrap-add_left w32 y (int_wrap w32 z) ∙ int_wrap-add_right w32 y z);
}

pub held_in : {m : ℕ} {z : ℤ} (t : ℤ) → Holds m z → z ≡ t → nat_abs t < 2 ^ 31 → to_z w32 m ≡ t
held_in t h e near = h.is ∙ ap (int_wrap w32) e ∙ int_wrap_fits w32 t (near_signed t near)

-- sums of more differences
pub sums_more : (l : ℤ) (xs ys : List ℤ) → sums l (xs ++ ys) ≡ sums l xs ++ sums (l +ℤ total xs) ys
sums_more l [] ys = grind (arith, ints)
sums_more l (x ∷ xs) ys =
    let next : l +ℤ (x +ℤ total xs) ≡ (l +ℤ x) +ℤ total xs = omega (arith, ints) in
    ap (λ (zs : List ℤ). (l +ℤ x) ∷ zs)
    (sums_more (l +ℤ x) xs ys ∙ ap (λ (z : ℤ). sums (l +ℤ x) xs ++ sums z ys) (sym next))

pub length-sums : (l : ℤ) (xs : List ℤ) → length (sums l xs) ≡ length xs
length-sums l [] = refl
length-sums l (x ∷ xs) = ap suc (length-sums (l +ℤ x) xs)

-- numbers that are held in 32 bits
pub all_held : (xs : List ℤ) → span xs < 2 ^ 31 → map (to_z w32) (map (of_z w32) xs) ≡ xs
all_held [] near = refl
all_held (x ∷ xs) near = grind (arith, near_signed, to_z-of_z, all_held xs (omega (arith, near)))

pub sums_held : (l : ℤ) (xs : List ℤ) → nat_abs l + span xs < 2 ^ 31
    → map (to_z w32) (map (of_z w32) (sums l xs)) ≡ sums l xs
sums_held l [] near = refl
sums_held l (x ∷ xs) near =
    let sum = abs_sum l x in
    let fits : FitsSigned w32 (l +ℤ x) = near_signed (l +ℤ x) (omega (arith, near, sum)) in
    rw to_z-of_z (ap (λ (zs : List ℤ). (l +ℤ x) ∷ zs) (sums_held (l +ℤ x) xs (omega (arith, near, sum))))

-- the differences from a place on go as far as those of a turn and those after them
pub span_cut : (ds : List ℤ) (k n : ℕ) → span (drop k ds) ≡ span (take n (drop k ds)) + span (drop (k + n) ds)
span_cut ds k n = ap span (chunk-drop k n ds) ∙ span-append (take n (drop k ds)) (drop (k + n) ds)

-- the differences before a place are added up, and their sums put in their places
pub record Summed (ds : List ℤ) (begin : ℤ) (k : ℕ) (out : List ℤ) (last : ℤ) : Type 0 where
  pub near : nat_abs last + span (drop k ds) ≤ nat_abs begin + span ds
  pub kept : take k out ++ sums last (drop k ds) ≡ sums begin ds
  pub moved : last +ℤ total (drop k ds) ≡ begin +ℤ total ds

-- at the beginning none is added
pub begun : (ds : List ℤ) (begin : ℤ) (out : List ℤ) → Summed ds begin 0 out begin
begun ds begin out = record { near = omega arith; kept = refl; moved = refl }

pub next_some : (ds : List ℤ) (begin : ℤ) (k m n : ℕ) (out after : List ℤ) (last next : ℤ) → n ≡ k + m
    → Summed ds begin k out last → take n after ≡ take k out ++ sums last (take m (drop k ds))
    → next ≡ last +ℤ total (take m (drop k ds)) → Summed ds begin n after next
next_some ds begin k m n out after last next at s put moved =
    let some : List ℤ = take m (drop k ds) in
    let cut : drop k ds ≡ some ++ drop n ds = rw at (chunk-drop k m ds) in
    let spans : span (drop k ds) ≡ span some + span (drop n ds) = rw at (span_cut ds k m) in
    let totals : total (drop k ds) ≡ total some +ℤ total (drop n ds) = ap total cut ∙ total-append some (drop n ds) in
    let step = abs_sum last (total some) in
    record {
      near = rw moved (omega (arith, s.near, spans, step, total_near some));
      kept = search (arith, nat_tests, append_assoc, sums_more);
      moved = rw moved (omega (arith, ints, totals, s.moved));
    }

pub last_of_four : (l : ℤ) (xs : List ℤ) → length xs ≡ 4 → get_or (sums l xs) 3 (pos 0) ≡ l +ℤ total xs
last_of_four l xs long =
    let f = four_of xs long in
    let all : (((l +ℤ f.a) +ℤ f.b) +ℤ f.c) +ℤ f.d ≡ l +ℤ total (f.a ∷ f.b ∷ f.c ∷ f.d ∷ []) = omega (arith, ints) in
    rw f.same all

-- the differences, and zeros after them
span_zeros : (n : ℕ) → span (replicate n (pos 0)) ≡ 0
span_zeros zero = refl
span_zeros (suc n) = let later = span_zeros n in omega (arith, later)

total_zeros : (n : ℕ) → total (replicate n (pos 0)) ≡ pos 0
total_zeros zero = refl
total_zeros (suc n) = rw (total_zeros n) refl

take_zeros : (n m : ℕ) → n ≤ m → take n (replicate m (pos 0)) ≡ replicate n (pos 0)
take_zeros zero m h = refl
take_zeros (suc n) zero h = absurd (omega (arith, h))
take_zeros (suc n) (suc m) h = ap (λ (xs : List ℤ). pos 0 ∷ xs) (take_zeros n m (omega (arith, h)))

pub padded : (ds : List ℤ) (count whole : ℕ) → length ds ≡ 128 → count ≤ 120 → count ≤ whole → whole ≤ count + 8
    → take whole (put_mid count (128 - count) ds (put_chunk 0 (mid_of count (128 - count) ds) (replicate 8 (pos 0))))
    ≡ take count ds ++ replicate (whole - count) (pos 0)
padded ds count whole long few more less =
    let zeros : List ℤ = replicate 8 (pos 0) in
    let part : List ℤ = mid_of count (128 - count) ds in
    let behind : List ℤ = post_of count (128 - count) ds in
    let room : length part ≡ 128 - count = length-chunk count (128 - count) ds (omega (arith, long, few)) in
    let put : put_chunk 0 part zeros ≡ zeros ++ drop 8 part = put_chunk_is 0 part zeros (omega (arith, room, few)) in
    let first : length (take count ds) ≡ count = length-take-le count ds (omega (arith, long, few)) in
    let at : whole ≡ length (take count ds) + (whole - count) = omega (arith, first, more) in
    ap (λ (ys : List ℤ). take whole (take count ds ++ (ys ++ behind))) put
    ∙ ap (λ (k : ℕ). take k (take count ds ++ ((zeros ++ drop 8 part) ++ behind))) at
    ∙ take-append-add (take count ds) ((zeros ++ drop 8 part) ++ behind) (whole - count)
    ∙ ap (λ (ys : List ℤ). take count ds ++ take (whole - count) ys) (append_assoc zeros (drop 8 part) behind)
    ∙ ap (λ (ys : List ℤ). take count ds ++ ys)
    (take-append-le (whole - count) zeros (drop 8 part ++ behind) (omega (arith, less))
    ∙ take_zeros (whole - count) 8 (omega (arith, less)))

pub padded_span : (ds : List ℤ) (k : ℕ) → span (ds ++ replicate k (pos 0)) ≡ span ds
padded_span ds k = let more = span-append ds (replicate k (pos 0)) in omega (arith, more, span_zeros k)

pub padded_total : (ds : List ℤ) (k : ℕ) → total (ds ++ replicate k (pos 0)) ≡ total ds
padded_total ds k = search (arith, total-append, total_zeros)

-- what stands before a part that is put in its places
pub put_front : (k rest : ℕ) (out after : List ℤ) → k ≤ length out → take k (put_mid k rest out after) ≡ take k out
put_front k rest out after inside = search (arith, length-take-le, take_at)

-- what is put after what there is
pub put_next : (k rest m : ℕ) (out after : List ℤ) → k ≤ length out → m ≤ length after
    → take (k + m) (put_mid k rest out after) ≡ take k out ++ take m after
put_next k rest m out after inside filled = search (arith, length-take-le, take-append-add, take-append-le)

-- what is put by whole turns, as far as the differences go
pub whole_put : (count k : ℕ) (ds after : List ℤ) (l : ℤ) → length ds ≡ count
    → take (length (ds ++ replicate k (pos 0))) after ≡ sums l (ds ++ replicate k (pos 0))
    → take count after ≡ sums l ds
whole_put count k ds after l long put =
    let whole : List ℤ = ds ++ replicate k (pos 0) in
    let few : count ≤ length whole = omega (arith, long, length-append ds (replicate k (pos 0))) in
    sym (take-take count (length whole) after few) ∙ ap (take count) (put ∙ sums_more l ds (replicate k (pos 0)))
    ∙ take_at (sums l ds) (sums (l +ℤ total ds) (replicate k (pos 0))) count (length-sums l ds ∙ long)
