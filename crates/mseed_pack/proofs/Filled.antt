-- Steim frames that hold the differences that are left, as far as there is room.
use Rattle.std.proofs.Common.{add-zero}
use Rattle.std.proofs.Common.{◌≡◌, ℕ, ◌+◌, ◌-◌, ◌*◌, ◌/◌, ◌<◌, ◌≤◌, List, length, take, drop}
use Rattle.std.proofs.Common.{get_or, sym, ap, ◌∙◌, arith, ℤ, pos, ◌⊎◌, inl, inr, Some, All, min}
use Rattle.std.specs.Prelude.{slice_range, slice_get}
use Rattle.std.proofs.lemmas.List.{length-drop, length-take-le, take-take, get_or-take, get_or-drop, ext_get_or}
use Rattle.std.proofs.lemmas.Option.{slice_get-get_or}
use Rattle.std.proofs.lemmas.List.Elements.{All-get_or}
use Rattle.std.proofs.lemmas.Bool.{cases_lt}
use Rattle.mseed_steim.specs.declared.scheme.Scheme.{Scheme}
use Rattle.mseed_steim.specs.declared.scheme.Scheme.TheVariants.{One, Two}
use Rattle.mseed_steim.specs.Spelling.{IsWithin}
use Rattle.mseed_steim.specs.Frames.{data_words, word_count}
use Rattle.mseed_steim.proofs.Widths.{all_wider}
use Rattle.mseed_steim.proofs.Walking.{length-words_from}
use Rattle.std.proofs.lemmas.List.Edits.{length-between}
use Rattle.mseed_steim_pack.specs.declared.pack.Packed.{Packed}
use Rattle.mseed_steim_pack.specs.Packing.{PacksRun}
use Rattle.mseed_steim_pack.proofs.Packs.{rest_shorter}
use Rattle.mseed_pack.specs.declared.payload.Remaining.{Remaining}
use Rattle.mseed_pack.specs.declared.window.Window.{Window}
use Rattle.mseed_pack.specs.private.Filling.{AreSet, AreTaken, HoldsDifferences}
use Rattle.mseed_pack.specs.private.Filling.{Fills, width_of}
use Rattle.mseed_pack.specs.Packing.{HoldsFrames}
use Rattle.mseed_pack.specs.Stretches.{differences}
use Rattle.mseed_pack.proofs.Differences.{length-differences}
use Rattle.mseed_pack.proofs.Room.{packs_on, run_few, words_fit}

-- a part of a list
pub part_at : (xs : List ℤ) (i j k : ℕ) → k < j - i → get_or (slice_range xs i j) k (pos 0) ≡ get_or xs (i + k) (pos 0)
part_at xs i j k h = get_or-take (j - i) (drop i xs) k (pos 0) h ∙ get_or-drop i xs k (pos 0)

-- what a window holds from a place on
pub held_part : (xs : List ℤ) (w : Window) (first end : ℕ) → HoldsDifferences xs w → w.first ≤ first → first ≤ end
    → end ≤ w.end → length w.differences ≡ 7056
    → slice_range w.differences (first - w.first) (end - w.first) ≡ slice_range (differences xs) first end
held_part xs w first end h low order high long =
    let at = first - w.first in
    let left = length-between w.differences at (end - w.first) (omega (arith, long, h.few, high)) in
    let right = length-between (differences xs) first end (omega (arith, h.inside, high, length-differences xs)) in
    ext_get_or (pos 0) (slice_range w.differences at (end - w.first)) (slice_range (differences xs) first end)
    (omega (arith, left, right, low, order))
    (λ k b. let here : k < end - first = omega (arith, b, left, low, order) in
    let place : w.first + (at + k) ≡ first + k = omega (arith, low) in
    part_at w.differences at (end - w.first) k (omega (arith, here, low))
    ∙ h.each (at + k) (omega (arith, here, low, high))
    ∙ ap (λ (m : ℕ). get_or (differences xs) m (pos 0)) place
    ∙ sym (part_at (differences xs) first end k here))

-- what was packed of the differences up to a place
module _ {s : Scheme} {xs : List ℤ} {l : Remaining} {until : ℕ} {r : Packed} {p : List ℕ} (f : Fills s xs l until r p)
  where
    part_long : (l.first < until) × (length (slice_range (differences xs) l.first until) ≡ until - l.first)
    part_long = (
      omega arith,
      length-between (differences xs) l.first until (omega (arith, length-differences xs)),
    )

    -- where seven for each word are packed, those are packed of all that are left
    run_left : PacksRun s (take r.words (data_words p)) (slice_range (differences xs) l.first l.end)
        (drop r.used (slice_range (differences xs) l.first l.end))
    run_left = elim f.enough [
      | inl e ↦ rw e at f.run.packed
      | inr b ↦
          let part : slice_range (differences xs) l.first until ≡ take (until - l.first)
          (slice_range (differences xs) l.first l.end) =
          sym (take-take (until - l.first) (l.end - l.first) (drop l.first (differences xs)) (omega (arith, f.most))) in
          packs_on s (take r.words (data_words p)) (slice_range (differences xs) l.first l.end) r.used (until - l.first)
          (omega (arith, length-take-le r.words (data_words p) f.run.inside.1, f.run.inside.1, words_fit p, b))
          (rw part at f.run.inside.0) (rw part at f.run.packed)
    ]

    pub some_used_of : (0 < r.used) × (l.first + r.used ≤ until)
    some_used_of =
        let part = slice_range (differences xs) l.first until in
        let sized = part_long in
        let count = length-take-le r.words (data_words p) f.run.inside.1 in
        let each = rest_shorter s (take r.words (data_words p)) part (drop r.used part) f.run.packed in
        let word = length-words_from p 3 (word_count p - 3) in
        let fits = f.run.inside.0 in
        (omega (arith, f.run.whole, length-drop r.used part), omega arith)

    -- each word takes seven at the most
    used_seven : r.used ≤ 7 * r.words
    used_seven =
        let part = slice_range (differences xs) l.first until in
        let run = run_few s (take r.words (data_words p)) part (drop r.used part) f.run.packed in
        let count = length-take-le r.words (data_words p) f.run.inside.1 in
        omega (arith, f.run.inside.0, length-drop r.used part)

    pub taken_of : AreTaken l r.used
    taken_of = record {
      some = some_used_of.0;
      within = omega (arith, some_used_of.1, f.most);
      few = omega (arith, used_seven, f.run.inside.1, f.frames.short, words_fit p);
    }

    pub holds : (q : List ℕ) → length q ≡ length p
        → AreSet p q (get_or xs l.first (pos 0)) (get_or xs (l.first + r.used - 1) (pos 0))
        → HoldsFrames s (slice_range (differences xs) l.first l.end) (slice_range xs l.first (l.first + r.used))
        ((r.words + 16) / 15) q
    holds q size set =
        let mine = slice_range xs l.first (l.first + r.used) in
        let some = some_used_of in
        let sized = part_long in
        let seven = used_seven in
        let long = length-between xs l.first (l.first + r.used) (omega (arith, some.1, f.most, f.are_left.inside)) in
        let count : length mine ≡ r.used = omega arith in
        let all = length-between (differences xs) l.first l.end (omega (arith, length-differences xs)) in
        let at : (k : ℕ) → k < r.used → get_or mine k (pos 0) ≡ get_or xs (l.first + k) (pos 0) =
        λ k h. part_at xs l.first (l.first + r.used) k (omega (arith, h)) in
        record {
          words = r.words;
          inside = rw set.words f.run.inside.1;
          packed = rw (set.words, count) run_left;
          full = elim f.run.whole [
            | inl e ↦ inl (omega (arith, f.run.inside.1, words_fit p))
            | inr e ↦ inr (rw set.words e)
          ];
          behind = rw set.words f.run.behind;
          codes = λ k h first_or_head. set.codes k ∙ f.run.codes k (omega (arith, h, size)) first_or_head;
          first_is = slice_get-get_or mine 0 (pos 0) (omega (arith, count, some.0))
              ∙ ap Some (at 0 some.0 ∙ rw add-zero (sym set.first_is));
          last_is = ap (λ (m : ℕ). slice_get mine (m - 1)) count
              ∙ slice_get-get_or mine (r.used - 1) (pos 0) (omega (arith, count, some.0))
              ∙ ap Some (at (r.used - 1) (omega (arith, some.0)) ∙ (
              let e : l.first + (r.used - 1) ≡ l.first + r.used - 1 = omega (arith, some.0) in rw e (sym set.last_is)
              ));
          frames_is = let e : r.words + 16 ≡ r.words + 2 + 14 = omega arith in rw e;
        }

-- a window holds enough of the samples that are left: all, or seven for each word of so many bytes
pub held_enough : (all held few : ℕ) → min all few ≤ held → (min all held ≡ all) ⊎ (few ≤ min all held)
held_enough all held few high = elim (cases_lt held all) [
  | inl less ↦ inr (omega (arith, less, high))
  | inr more ↦ inl (omega (arith, more))
]

-- no difference is too large where each fits the scheme
pub none_large : (s : Scheme) (ds : List ℤ) (i : ℕ) → All (IsWithin (width_of s)) ds
    → ¬ ((i < length ds) × (s ≡ Two) × ¬ (IsWithin 30 (get_or ds i (pos 0))))
none_large s ds i fit large =
    large.2 (rw large.1 at (All-get_or (IsWithin (width_of s)) ds i (pos 0) large.0 fit))

-- what fits a scheme has 32 bits at the most
pub scheme_fits : (s : Scheme) (ds : List ℤ) → All (IsWithin (width_of s)) ds → All (IsWithin 32) ds
scheme_fits One ds fit = fit
scheme_fits Two ds fit = all_wider 30 32 ds (omega arith) fit
