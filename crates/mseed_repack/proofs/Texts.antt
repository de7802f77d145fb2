-- Texts of things, one after another.
use Rattle.std.proofs.Common.{◌≡◌, ◌⊎◌, inl, inr, ℕ, List, [], ◌∷◌, ◌++◌}
use Rattle.std.proofs.Common.{refl, sym, ap, subst, ◌∙◌, arith, append_assoc, append-nil}
use Rattle.std.specs.List.{AllByRecursion}
use Rattle.mseed_stream.specs.Device.{BytesWritten, IsPrefixOf}
use Rattle.mseed_repack.specs.Repack.{AreTexts, IsTextUpTo, Wrote}

-- what is so of the text of each
pub texts_each : {X : Type 0} (Own Its : X → List ℕ → Type 0) (P : X → Type 0)
    → ((x : X) (t : List ℕ) → P x → Own x t → Its x t) → (xs : List X) (text : List ℕ) → AllByRecursion P xs
    → AreTexts Own xs text → AreTexts Its xs text
texts_each Own Its P each [] text all e = e
texts_each Own Its P each (x ∷ xs) text all (own, (rest, a)) =
    grind (arith, texts_each Own Its P each xs rest all.1 a.2)

-- where each thing has one text
abbrev pub HasOne : {X : Type 0} → (X → List ℕ → Type 0) → Type 0
HasOne {X} Own = (x : X) (t u : List ℕ) → Own x t → Own x u → t ≡ u

-- they have one
pub one_text : {X : Type 0} (Own : X → List ℕ → Type 0) → HasOne Own → (xs : List X) (t u : List ℕ)
    → AreTexts Own xs t → AreTexts Own xs u → t ≡ u
one_text Own one [] t u a b = a ∙ sym b
one_text Own one (x ∷ xs) t u (own, (rest, a)) (its, (left, b)) = grind (arith, one_text Own one xs rest left a.2 b.2)

-- A part of the text is a prefix of it, where a part of each is one of its own.
abbrev pub AreParts : {X : Type 0} → (X → List ℕ → Type 0) → (X → List ℕ → Type 0) → Type 0
AreParts {X} Own Part = (x : X) (part own : List ℕ) → Part x part → Own x own → IsPrefixOf part own

prefix_more : (part text tail : List ℕ) → IsPrefixOf part text → IsPrefixOf part (text ++ tail)
prefix_more part text tail (rest, e) =
    (rest ++ tail, ap (λ (t : List ℕ). t ++ tail) e ∙ append_assoc part rest tail)

prefix_after : (before part text : List ℕ) → IsPrefixOf part text → IsPrefixOf (before ++ part) (before ++ text)
prefix_after before part text h = grind (arith, append_assoc)

pub part_prefix : {X : Type 0} (Own Part : X → List ℕ → Type 0) → HasOne Own → AreParts Own Part → (xs : List X)
    (text part : List ℕ) → AreTexts Own xs text → IsTextUpTo Own Part xs part → IsPrefixOf part text
part_prefix Own Part one parts [] text part all p = absurd p
part_prefix Own Part one parts (x ∷ xs) text part (own, (rest, a)) (inl p) =
    subst (λ (t : List ℕ). IsPrefixOf part t) (sym a.0) (prefix_more part own rest (parts x part own p a.1))
part_prefix Own Part one parts (x ∷ xs) text part (own, (rest, a)) (inr (its, (left, b))) =
    let same : own ≡ its = one x own its a.1 b.1 in
    rw b.0 (subst (λ (t : List ℕ). IsPrefixOf (its ++ left) t) (sym (a.0 ∙ ap (λ (ys : List ℕ). ys ++ rest) same))
    (prefix_after its left rest (part_prefix Own Part one parts xs rest left a.2 b.2)))

-- Of two parts of the text one is a prefix of the other, where this is so of two of one thing's.
abbrev pub Either : List ℕ → List ℕ → Type 0
Either part other = IsPrefixOf part other ⊎ IsPrefixOf other part

abbrev pub AreEither : {X : Type 0} → (X → List ℕ → Type 0) → Type 0
AreEither {X} Part = (x : X) (part other : List ℕ) → Part x part → Part x other → Either part other

after_both : (before xs ys : List ℕ) → Either xs ys → Either (before ++ xs) (before ++ ys)
after_both before xs ys h = grind (arith, prefix_after)

pub either_part : {X : Type 0} (Own Part : X → List ℕ → Type 0) → HasOne Own → AreParts Own Part → AreEither Part
    → (xs : List X) (t u : List ℕ) → IsTextUpTo Own Part xs t → IsTextUpTo Own Part xs u → Either t u
either_part Own Part one parts either [] t u p q = absurd p
either_part Own Part one parts either (x ∷ xs) t u (inl p) (inl q) = either x t u p q
either_part Own Part one parts either (x ∷ xs) t u (inl p) (inr (own, (rest, a))) =
    inl (subst (λ (z : List ℕ). IsPrefixOf t z) (sym a.0) (prefix_more t own rest (parts x t own p a.1)))
either_part Own Part one parts either (x ∷ xs) t u (inr (own, (rest, a))) (inl q) =
    inr (subst (λ (z : List ℕ). IsPrefixOf u z) (sym a.0) (prefix_more u own rest (parts x u own q a.1)))
either_part Own Part one parts either (x ∷ xs) t u (inr (own, (rest, a))) (inr (its, (left, b))) =
    let same : own ≡ its = one x own its a.1 b.1 in
    rw (sym (a.0 ∙ ap (λ (ys : List ℕ). ys ++ rest) same)) at (subst (λ (z : List ℕ). Either (its ++ rest) z) (sym b.0)
    (after_both its rest left (either_part Own Part one parts either xs rest left a.2 b.2)))

-- What was written so far, thing by thing: with the texts of those that are left it is the texts of all, and with a
-- part
-- of those a part.
pub record IsWrittenSo {X : Type 0} (Own Part : X → List ℕ → Type 0) (all left : List X) (old new : BytesWritten) : Type
    0 where
  pub text : List ℕ
  pub whole : (tail : List ℕ) → AreTexts Own left tail → AreTexts Own all (text ++ tail)
  pub part : (tail : List ℕ) → IsTextUpTo Own Part left tail → IsTextUpTo Own Part all (text ++ tail)
  pub bytes : new.bytes ≡ old.bytes ++ text
  pub failed : new.failures ≡ old.failures

pub written_none : {X : Type 0} (Own Part : X → List ℕ → Type 0) (all : List X) (s : BytesWritten)
    → IsWrittenSo Own Part all all s s
written_none Own Part all s = grind (arith, append-nil)

both_bytes : {old new : List ℕ} (first text own : List ℕ) → old ≡ first ++ text → new ≡ old ++ own
    → new ≡ first ++ (text ++ own)
both_bytes first text own h h2 = grind (arith, append_assoc)

module _ {X : Type 0} {Own Part : X → List ℕ → Type 0} {all left : List X} {x : X} {first old new : BytesWritten}
    (h : IsWrittenSo Own Part all (x ∷ left) first old) where
  -- one more, or a part of it
  pub written_next : Wrote (Own x) 0 old new → IsWrittenSo Own Part all left first new
  written_next one = record {
    text = h.text ++ one.text;
    whole = λ tail is. rw append_assoc (h.whole (one.text ++ tail) (one.text, (tail, (refl, one.text_is, is))));
    part = λ tail is. rw append_assoc (h.part (one.text ++ tail) (inr (one.text, (tail, (refl, one.text_is, is)))));
    bytes = both_bytes first.bytes h.text one.text h.bytes one.bytes;
    failed = omega (arith, one.failed, h.failed);
  }

  pub written_part : Wrote (Part x) 1 old new → Wrote (IsTextUpTo Own Part all) 1 first new
  written_part one = record {
    text = h.text ++ one.text;
    text_is = h.part one.text (inl one.text_is);
    bytes = both_bytes first.bytes h.text one.text h.bytes one.bytes;
    failed = omega (arith, one.failed, h.failed);
  }

-- none is left
pub written_all : {X : Type 0} {Own Part : X → List ℕ → Type 0} {all : List X} {first new : BytesWritten}
    → IsWrittenSo Own Part all [] first new → Wrote (AreTexts Own all) 0 first new
written_all h = record {
  text = h.text;
  text_is = rw append-nil at (h.whole [] refl);
  bytes = h.bytes;
  failed = omega (arith, h.failed);
}
