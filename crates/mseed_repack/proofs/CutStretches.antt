-- The first stretch of some records, while these come.
use Rattle.std.proofs.Common.{◌≡◌, ℕ, ◌<◌, List, [], ◌∷◌, ◌++◌, length, take, drop, sym, ap}
use Rattle.std.proofs.Common.{subst, ◌∙◌, arith, append_assoc, length-append}
use Rattle.std.proofs.lemmas.List.{drop_at, take_at}
use Rattle.mseed_record.specs.View.{View}
use Rattle.mseed_repack.specs.Clocks.{IsStretchOf}
use Rattle.mseed_repack.specs.Stretches.{EndsBefore, GoesOn, IsFirstStretch, IsStretch}
use Rattle.mseed_repack.specs.declared.stretch.Stretch.{Stretch}
use Rattle.mseed_repack.proofs.Passing.{stretch_on}
use Rattle.mseed_repack.specs.private.Planning.{IsBegunBy}

-- what is kept of the first of some records tells how it begins
pub begun : (s : Stretch) (vs rest : List View) (v : View) → vs ≡ v ∷ rest → IsStretchOf s (v ∷ []) → IsBegunBy s vs
begun s vs rest v e h = subst (λ (us : List View). IsBegunBy s us) (sym e) h

-- it has come so far, and these are left
pub record IsCutSo (all left : List View) (s : Stretch) : Type 0 where
  pub own : List View
  pub parts : all ≡ own ++ left
  pub stretch : IsStretch own
  pub kept : IsStretchOf s own

counted : (s : Stretch) (vs : List View) → IsStretchOf s vs → s.records ≡ length vs
counted s [] is = absurd is
counted s (v ∷ vs) is = is.records_is

pub cut_first : {all left : List View} {v : View} {s : Stretch} → all ≡ v ∷ left → IsStretchOf s (v ∷ [])
    → IsCutSo all left s
cut_first {v = v} e kept = record { own = v ∷ []; parts = e; stretch = tt; kept = kept }

-- there is room to count one more
pub few_more : {all left rest : List View} {s : Stretch} {v : View} → IsCutSo all left s → left ≡ v ∷ rest
    → s.records < length all
few_more h h2 = grind (arith, counted, length-append)

-- the next record goes on with it
pub cut_on : {all left rest : List View} {s new : Stretch} {v : View} → (h : IsCutSo all left s) → left ≡ v ∷ rest
    → GoesOn h.own v → IsStretchOf new (h.own ++ v ∷ []) → IsCutSo all rest new
cut_on {rest = rest} {v = v} h e go kept = record {
  own = h.own ++ v ∷ [];
  parts = h.parts ∙ ap (λ (vs : List View). h.own ++ vs) e ∙ sym (append_assoc h.own (v ∷ []) rest);
  stretch = stretch_on h.own v h.stretch go;
  kept = kept;
}

-- it has so many records
pub left_are : {all left : List View} {s : Stretch} → IsCutSo all left s → left ≡ drop s.records all
left_are h = grind (arith, drop_at, counted)

-- and ends there
pub cut_off : {all left : List View} {s : Stretch} → (h : IsCutSo all left s) → EndsBefore h.own left
    → IsFirstStretch all (take s.records all) (drop s.records all)
cut_off {all = all} {left = left} {s = s} h ends =
    let n : ℕ = s.records in
    let front : h.own ≡ take n all =
    sym (take_at h.own left n (sym (counted s h.own h.kept))) ∙ ap (λ (vs : List View). take n vs) (sym h.parts) in
    rw front at (subst (λ (us : List View). IsFirstStretch all h.own us) (left_are h)
    (record { stretch = h.stretch; parts = h.parts; ends = ends }))
