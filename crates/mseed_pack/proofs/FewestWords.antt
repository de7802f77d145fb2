-- Each record of a Steim-2 packing has as few words in use as its differences need.
use Rattle.std.proofs.Common.{◌≡◌, ◌≢◌, ℕ, suc, ◌+◌, ◌-◌, ◌<◌, ◌==◌, not, true, false, List, [], ◌∷◌, ◌++◌, length}
use Rattle.std.proofs.Common.{take, drop, refl, ap, arith, ℤ}
use Rattle.std.specs.List.{filter, AllByRecursion}
use Rattle.std.proofs.lemmas.Bool.{ne_eqb, eq-eqb}
use Rattle.std.proofs.lemmas.List.{length-take-le, take-append-drop, take-take}
use Rattle.mseed_steim.specs.declared.scheme.Scheme.{Scheme}
use Rattle.mseed_steim.specs.declared.scheme.Scheme.TheVariants.{Two}
use Rattle.mseed_steim.proofs.Table.{no_row}
use Rattle.mseed_steim.specs.Spelling.{Spells, empty, row}
use Rattle.mseed_steim.specs.Frames.{DataWord, data_words}
use Rattle.mseed_steim_pack.specs.Packing.{IsEmptyWord, IsFewest, PacksRun}
use Rattle.mseed_audit.specs.Series.{Trace}
use Rattle.mseed_steim.specs.declared.encoding.Encoding.TheVariants.{Steim2}
use Rattle.mseed_pack.specs.declared.options.Options.{Options}
use Rattle.mseed_pack.specs.FewestWords.{HasFewestWords}
use Rattle.mseed_pack.specs.Packing.{Piece, HoldsFrames, IsPacked}
use Rattle.mseed_pack.specs.Stretches.{differences, span_end, left_of}
use Rattle.mseed_pack.proofs.Viewed.{short}

-- in Steim-2, packed words are the fewest
abbrev pub PackedFewest : Type 0
PackedFewest = (ws : List DataWord) (ds : List ℤ) (used : ℕ) → PacksRun Two ws ds (drop used ds)
    → IsFewest (take used ds) (length ws)

abbrev in_use : List DataWord → List DataWord
in_use ws = filter (λ (w : DataWord). not (w.code == 0)) ws

-- a word that spells something has a code
coded : (s : Scheme) (code word : ℕ) (ds : List ℤ) → 0 < length ds → Spells s code word ds → code ≢ 0
coded s code word ds some (empty e none) z = let size : length ds ≡ 0 = ap (λ (xs : List ℤ). length xs) none in
    omega (arith, size, some)
coded s code word ds some (row g d found is) z = no_row s d g (rw z at found)

none_in_use : (vs : List DataWord) → AllByRecursion IsEmptyWord vs → length (in_use vs) ≡ 0
none_in_use [] h = refl
none_in_use (v ∷ vs) h = let code : (v.code == 0) ≡ true = eq-eqb v.code 0 h.0.0 in rw code (none_in_use vs h.1)

-- those are in use that accepted differences
all_in_use : (s : Scheme) (ws vs : List DataWord) (ds rest : List ℤ) → PacksRun s ws ds rest
    → AllByRecursion IsEmptyWord vs → length (in_use (ws ++ vs)) ≡ length ws
all_in_use s [] vs ds rest run h = none_in_use vs h
all_in_use s (w ∷ ws) vs ds rest run h =
    let full = run.1.0 in
    let size = length-take-le run.0 ds full.inside in
    let code : (w.code == 0) ≡ false =
    ne_eqb w.code 0 (coded s w.code w.bits (take run.0 ds) (omega (arith, size, full.some)) full.spelled) in
    rw code (ap suc (all_in_use s ws vs (drop run.0 ds) rest run.1.1 h))

pub record_fewest : PackedFewest → (s : Trace) (o : Options) (p : Piece) → o.encoding ≡ Steim2 → IsPacked s o p
    → HasFewestWords s p
record_fewest fewest s o p two k =
    let n = length p.samples in
    let left = left_of s p.first in
    let ws = data_words (drop 64 p.bytes) in
    let h : HoldsFrames Two left p.samples k.frames (drop 64 p.bytes) = rw two at k.payload in
    let used = all_in_use Two (take h.words ws) (drop h.words ws) left (drop n left) h.packed h.behind in
    let least = rw (← used, take-append-drop) at (fewest (take h.words ws) left n h.packed) in
    let count : p.first + n - p.first ≡ n = omega arith in
    rw count
    (rw (← take-take n (span_end s p.first - p.first) (drop p.first (differences s.samples))
    (short s p k.within)) least)
