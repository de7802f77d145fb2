-- Differences of frames that are unpacked in their places, and the steps that they are.
use Rattle.mseed_steim.specs.Frames.{AreOctets}
use Rattle.std.proofs.Common.{◌≡◌, ℕ, ◌+◌, ◌*◌, ◌/◌, ◌<◌, ◌≤◌, List, [], ◌∷◌, ◌++◌, map, take, drop, length}
use Rattle.std.proofs.lemmas.Bool.Decides.{nat_tests}
use Rattle.std.proofs.Common.{zero, suc, pos, ℤ, ◌+ℤ◌, ◌-ℤ◌, arith, refl, ap, sym, ◌∙◌, subst, Result, Ok}
use Rattle.std.proofs.Common.{Bool, eqb, Option, Some, None, IfSome, min, ⊎_elim}
use Rattle.std.specs.Prelude.{IfOk}
use Rattle.std.specs.Bool.{OnTrue}
use Rattle.std.proofs.Math.ListN.{set}
use Rattle.std.proofs.Math.Seq.{take-length}
use Rattle.std.proofs.lemmas.Bool.{cases_eq, eq-eqb, ne_eqb}
use Rattle.std.proofs.lemmas.Int.{ints}
use Rattle.std.proofs.lemmas.List.{length-take-le, take-take}
use borrow.Rule.Slice.PartMut.{put_mid}
use Rattle.mseed_steim.specs.declared.fault.ReadFault.{ReadFault}
use Rattle.mseed_steim.specs.declared.scheme.Scheme.{Scheme}
use Rattle.mseed_steim.specs.declared.unpack.Widest.{Widest}
use Rattle.mseed_steim.specs.declared.sum.Sum.{Sum}
use Rattle.mseed_steim.specs.Frames.{data_words, first_constant}
use Rattle.mseed_steim.specs.Samples.{Adds, AreSums, StartsAndAdds, differences_from, steps_of}
use Rattle.mseed_steim.specs.private.Items.{Items, items_of}
use Rattle.mseed_steim.specs.private.Lanes.{Begins}
use Rattle.mseed_steim.specs.private.Sums.{Continues, kept_from, kept_on, met_in, the_difference}
use Rattle.mseed_steim.specs.private.Unpacked.{AreUnpacked, AreUpTo, data_in, left_from}
use Rattle.mseed_steim.proofs.Folded.{Folds, all_kept, done as done_folds, first_items, folds}
use Rattle.mseed_steim.proofs.Folded.{items_on, joined, steps_from, with_first_later}
use Rattle.mseed_steim.proofs.Folds.{fold_enough}
use Rattle.mseed_steim.proofs.Given.{IsWord, all_after, prefix_words, words_small}
use Rattle.mseed_steim.proofs.Summed.{put_next}
use Rattle.mseed_steim.proofs.Walking.{frame_items}
use Rattle.std.specs.List.{AllByRecursion}

-- the first of a frame's differences stand there, as many as there are places
abbrev pub Put : Scheme → List ℕ → List ℕ → ℕ → List ℤ → ℕ → Type 0
Put s begin frame places out k =
    (ds : List ℤ) × (AreUnpacked s begin frame ds (length ds) × (k ≡ min (length ds) places)
    × (take k out ≡ take k ds))

pub put_of : (s : Scheme) (begin frame : List ℕ) (room out : List ℤ) (count k places : ℕ)
    → AreUnpacked s begin frame (take count room) count → count ≤ length room → k ≡ min count places
    → take k out ≡ take k (take count room) → Put s begin frame places out k
put_of s begin frame room out count k places all inside least put = search (arith, length-take-le)

pub put_in_place : (w : Widest) (s : Scheme) (begin frame : List ℕ) (r : Option ℕ) (out : List ℤ) (places : ℕ)
    → length out ≡ places → 128 ≤ places → IfSome r (AreUpTo w s begin frame out)
    → IfSome r (λ count. Put s begin frame places out count)
put_in_place w s begin frame None out places e room h = tt
put_in_place w s begin frame (Some count) out places e room h =
    let few : count ≤ 120 = h.unpacked.few in
    put_of s begin frame out out count count places h.unpacked (omega (arith, e, room, few)) (omega (arith, few, room))
    (sym (take-take count count out (omega arith)))

-- a frame's differences, after those of the frames before it
pub next_items : (s : Scheme) (p begin frame : List ℕ) (i count : ℕ) (done ds : List ℤ) → i < length p / 64
    → Begins begin (data_in 0 i) → frame ≡ take 64 (drop (64 * i) p) → AreUnpacked s begin frame ds count
    → items_of s (data_words p) ≡ map Ok done ++ items_of s (left_from p 0 i)
    → items_of s (data_words p) ≡ map Ok (done ++ ds) ++ items_of s (left_from p 0 (i + 1))
next_items s p begin frame i count done ds inside begins e unpacked same =
    items_on _ _ _ done ds same (frame_items s p begin frame 0 0 i count ds inside begins unpacked e)

-- samples that differences add up to are that far apart
adds_steps : (x : ℤ) (ds es : List ℤ) (a b : Items) (ss : List ℤ) → map Ok ds ++ a ≡ map Ok es ++ b
    → length es ≡ length ss → Adds x ds ss → es ≡ differences_from x ss
adds_steps x ds [] a b [] e l h = refl
adds_steps x [] (z ∷ es) a b (s ∷ ss) e l h = absurd h
adds_steps x (d ∷ ds) (z ∷ es) a b (s ∷ ss) e l h =
    let one : d ≡ z = cc in
    let rest : map Ok ds ++ a ≡ map Ok es ++ b = cc in
    let sum : s ≡ x +ℤ d = h.0 in
    let step : z ≡ s -ℤ x = omega (arith, ints, sum, one) in
    let later : es ≡ differences_from s ss = adds_steps s ds es a b ss rest (omega arith) h.1 in
    cc
adds_steps x ds _ a b _ e l h = absurd (omega arith)

-- where a walk from a later sample on fills the places, it fills them with the differences
walked_items : (n m : ℕ) (l : ℤ) (items : Items) (mets : List ℤ) (r : Result Sum ReadFault) → 0 < m
    → Folds n m l items mets r → IfOk r (λ _. (more : Items) × (items ≡ map Ok (differences_from l mets) ++ more))
walked_items n m l items mets r some (done_folds next ds more e count same adds all met last) =
    let plain = rw (with_first_later m (pos 0) ds some) at adds in
    (more, e ∙ ap (λ (xs : List ℤ). map Ok xs ++ more) (adds_steps l ds ds more more mets refl (sym same) plain))
walked_items n m l items mets r some _ = tt

steps_later : (m : ℕ) (l : ℤ) (xs : List ℤ) → 0 < m → kept_on the_difference m l xs ≡ kept_from the_difference l xs
steps_later zero l xs some = absurd (omega (arith, some))
steps_later (suc m) l xs some = refl

pub walked_rest : (n : ℕ) (s next : Sum) (before after : List ℤ) (items behind : Items) → 0 < s.met
    → s.met ≤ n → Continues (Some the_difference) n s before items behind after next
    → OnTrue (eqb next.met n) ((more : Items)
    × (map Ok (take s.met before) ++ items ≡ map Ok after ++ more))
walked_rest n s next before after items behind some less c = ⊎_elim
    (λ (e : next.met ≡ n).
    let mets : List ℤ = met_in n s items in
    let first : List ℤ = take s.met before in
    let steps : List ℤ = differences_from s.last mets in
    let found = subst (λ (r : Result Sum ReadFault). IfOk r (λ _. (more : Items)
    × (items ≡ map Ok steps ++ more))) (c.folded ∙ fold_enough n next behind e)
    (walked_items n s.met s.last items mets _ some (folds n s items less)) in
    let kept : after ≡ first ++ steps = search (arith, nat_tests, all_kept, steps_later, steps_from) in
    rw (eq-eqb next.met n e) (
      found.0,
      ap (λ (xs : Items). map Ok first ++ xs) found.1
          ∙ joined first steps found.0
          ∙ ap (λ (xs : List ℤ). map Ok xs ++ found.0) (sym kept),
    ))
    (λ (other : next.met ≡ n → ⊥). rw (ne_eqb next.met n other) tt)
    (cases_eq next.met n)

-- what fills the places after those before it
pub rest_put : (r : Bool) (items left : Items) (first before after : List ℤ) → before ≡ first
    → items ≡ map Ok first ++ left
    → OnTrue r ((more : Items) × (map Ok before ++ left ≡ map Ok after ++ more))
    → OnTrue r ((more : Items) × (items ≡ map Ok after ++ more))
rest_put r items left first before after e same h = search arith

starts_steps : (x : ℤ) (ds es : List ℤ) (a b : Items) (ss : List ℤ)
    → map Ok ds ++ a ≡ map Ok es ++ b → length es ≡ length ss → 0 < length ss → StartsAndAdds x ds ss
    → set es 0 x ≡ steps_of ss
starts_steps x [] (z ∷ es) a b (s ∷ ss) e l some h = absurd h
starts_steps x (d ∷ ds) (z ∷ es) a b (s ∷ ss) e l some h = grind (arith, adds_steps)
starts_steps x ds _ a b _ e l some h = absurd (omega arith)

-- where as many differences are unpacked as there are samples, these samples' steps are they, after the constant
pub payload_steps : (s : Scheme) (p : List ℕ) (out : List ℤ) (first : ℤ) (more : Items)
    (ss : List ℤ) → AreOctets p → 0 < length out → first ≡ first_constant p
    → items_of s (data_words p) ≡ map Ok out ++ more → AreSums s p (length out) ss → set out 0 first ≡ steps_of ss
payload_steps s p out first more ss octets some constant unpacked sums =
    let small : AllByRecursion IsWord (sums.prefix ++ sums.rest) = search (arith, nat_tests, words_small) in
    let spelled = all_after s sums.prefix sums.differences (prefix_words IsWord sums.prefix sums.rest small)
    sums.spelled sums.rest in
    let same = sym spelled ∙ ap (items_of s) (sym sums.cut) ∙ unpacked in
    let long : length ss ≡ length out = sums.count in
    starts_steps first sums.differences out (items_of s sums.rest) more ss same (sym long) (omega (arith, long, some))
    (subst (λ (x : ℤ). StartsAndAdds x sums.differences ss) (sym constant) sums.sums)

-- a frame's differences, put after those before them
pub put_on : (s : Scheme) (p begin frame : List ℕ) (i met rest count places : ℕ) (out after : List ℤ)
    → i < length p / 64 → Begins begin (data_in 0 i) → frame ≡ take 64 (drop (64 * i) p)
    → Put s begin frame places after count → length after ≡ places → met + places ≡ length out
    → items_of s (data_words p) ≡ map Ok (take met out) ++ items_of s (left_from p 0 i)
    → (more : Items)
    × (items_of s (data_words p) ≡ map Ok (take (met + count) (put_mid met rest out after)) ++ more)
put_on s p begin frame i met rest count places out after inside begins e put all room same =
    let ds : List ℤ = put.0 in
    let behind : Items = items_of s (left_from p 0 (i + 1)) in
    let least : count ≤ places = omega (arith, put.1.1) in
    let there : take (met + count) (put_mid met rest out after) ≡ take met out ++ take count ds =
    search (arith, nat_tests, put_next) in
    let next = next_items s p begin frame i (length ds) (take met out) ds inside begins e put.1.0 same in
    (map Ok (drop count ds) ++ behind, rw there (first_items _ behind (take met out) ds count next))

-- and where there are more places, the later frames' differences come after it
pub goes_on : (s : Scheme) (p begin frame : List ℕ) (i met rest count places : ℕ) (out after : List ℤ)
    → i < length p / 64 → Begins begin (data_in 0 i) → frame ≡ take 64 (drop (64 * i) p)
    → Put s begin frame places after count → length after ≡ places → met + places ≡ length out → count < places
    → items_of s (data_words p) ≡ map Ok (take met out) ++ items_of s (left_from p 0 i)
    → items_of s (data_words p)
    ≡ map Ok (take (met + count) (put_mid met rest out after)) ++ items_of s (left_from p 0 (i + 1))
goes_on s p begin frame i met rest count places out after inside begins e put all room more same =
    let ds : List ℤ = put.0 in
    let whole : count ≡ length ds = omega (arith, put.1.1, more) in
    let there : take (met + count) (put_mid met rest out after) ≡ take met out ++ ds =
    search (arith, nat_tests, put_next, take-length) in
    rw there (next_items s p begin frame i (length ds) (take met out) ds inside begins e put.1.0 same)
