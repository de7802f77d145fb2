-- The texts for words, with one more.
use Rattle.std.proofs.Common.{◌≡◌, ◌||◌, ◌+◌, ◌++◌, ◌∙◌, Bool, false, ℕ, List, [], ◌∷◌, map, length}
use Rattle.std.proofs.Common.{ap, arith, refl, subst, sym}
use Rattle.std.proofs.lemmas.List.{length-map, map_push}
use Rattle.mseed_words.specs.Texts.{AreTextsFrom, AreTextsOf, IsTextOf, ends_options}

-- whether the options have ended before some words or by one of them
abbrev pub has_ended : Bool → List (List ℕ) → Bool
has_ended ended [] = ended
has_ended ended (word ∷ words) = has_ended (ended || ends_options word) words

ended_more : (ended : Bool) (words : List (List ℕ)) (word : List ℕ)
    → has_ended ended (words ++ word ∷ []) ≡ (has_ended ended words || ends_options word)
ended_more ended [] word = refl
ended_more ended (w ∷ words) word = ended_more (ended || ends_options w) words word

texts_more : (index : ℕ) (ended : Bool) (words texts : List (List ℕ)) (word text : List ℕ)
    → AreTextsFrom index ended words texts → IsTextOf word (index + length words) (has_ended ended words) text
    → AreTextsFrom index ended (words ++ word ∷ []) (texts ++ text ∷ [])
texts_more index ended [] [] word text are one =
    let same : index + 0 ≡ index = omega arith in
    (subst (λ (n : ℕ). IsTextOf word n ended text) same one, tt)
texts_more index ended [] (t ∷ texts) word text are one = absurd are
texts_more index ended (w ∷ words) [] word text are one = absurd are
texts_more index ended (w ∷ words) (t ∷ texts) word text are one =
    let after : Bool = ended || ends_options w in
    let same : index + length (w ∷ words) ≡ index + 1 + length words = omega arith in (
      are.0,
      texts_more (index + 1) after words texts word text are.1
          (subst (λ (n : ℕ). IsTextOf word n (has_ended after words) text) same one),
    )

-- of the words up to one, the texts are there, and it is known whether the options have ended
pub record AreTexts (words texts : List (List ℕ)) (ended : Bool) : Type 0 where
  pub texts_are : AreTextsOf words texts
  pub ended_is : ended ≡ has_ended false words

-- with the text of one more word, by how words and texts are kept
pub texts_on : {W T : Type 0} (f : W → List ℕ) (h : T → List ℕ) (words words' : List W) (texts texts' : List T)
    (index : ℕ) (word : W) (text : T) (ended ends : Bool) → index ≡ length words → words' ≡ words ++ word ∷ []
    → texts' ≡ texts ++ text ∷ [] → AreTexts (map f words) (map h texts) ended → ends ≡ ends_options (f word)
    → IsTextOf (f word) index ended (h text) → AreTexts (map f words') (map h texts') (ended || ends)
texts_on f h words words' texts texts' index word text ended ends at pushed also are is one =
    let before : map f words' ≡ map f words ++ f word ∷ [] = ap (map f) pushed ∙ map_push f words word in
    let after : map h texts' ≡ map h texts ++ h text ∷ [] = ap (map h) also ∙ map_push h texts text in
    let count : index ≡ 0 + length (map f words) = omega (arith, at, length-map words f) in
    rw (before, after) (record {
      texts_are = texts_more 0 false (map f words) (map h texts) (f word) (h text) are.texts_are
          (rw (← are.ended_is, ← count) one);
      ended_is = rw (are.ended_is, is) (sym (ended_more false (map f words) (f word)));
    })
