use Rattle.std.proofs.Common.{◌≡◌, ℕ, ◌+◌, ◌-◌, ◌<◌, List, drop, get_or, length, length-drop, map}
use Rattle.std.proofs.Common.{arith, refl, sym, take, Option, None, Some, ◌∙◌}
use Rattle.std.specs.Borrow.{Bor}
use Rattle.std.specs.Option.{option_or}
use Rattle.std.proofs.lemmas.List.{drop_more, take_all}
use Rattle.clap.specs.Walk.{Text}
use Rattle.mseed_words.specs.Files.{file_mistake, unfit}
use Rattle.mseed_words.specs.declared.mistake.Mistake.{Mistake}
use Rattle.mseed_words.proofs.files.file_mistake.Goals as goal

-- the words from a place on are those of a slice up to their end
slice_on : (words : List (Bor Text)) (i : ℕ) → take (length words - i) (drop i words) ≡ drop i words
slice_on words i = take_all (length words - i) (drop i words) (omega (arith, length-drop i words))

-- the next word and those after it
next : (words : List (Bor Text)) (i : ℕ) (d : Bor Text) (found : Option Mistake) → i < length words
    → found ≡ unfit (get_or words i d).now
    (map (λ (w : Bor Text). w.now) (take (length words - (i + 1)) (drop (i + 1) words)))
    → file_mistake (map (λ (w : Bor Text). w.now) (drop i words))
    ≡ option_or found (file_mistake (map (λ (w : Bor Text). w.now) (drop (i + 1) words)))
next words i d found less is =
    rw (drop_more words i d less, is, slice_on words (i + 1)) refl

pub returns-in-Some : goal.returns-in-Some
returns-in-Some c = sym (sym c.loop-index.invariant
    ∙ next c.args.words.now c.loop-index.index _ (Some c.in-Some.mistake) c.loop-index-test.true c.in-Some.ensures)

pub loop-index-preserved : goal.loop-index-preserved
loop-index-preserved c =
    sym (next c.args.words.now c.loop-index.index _ None c.loop-index-test.true c.in_default.ensures)
    ∙ c.loop-index.invariant
