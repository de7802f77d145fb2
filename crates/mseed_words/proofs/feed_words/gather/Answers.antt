use Rattle.std.proofs.Common.{◌≡◌, ◌==◌, ℕ, false, ◌+◌, ◌<◌, ◌^◌, ◌∷◌, [], ◌++◌, Some, Option, List}
use Rattle.std.proofs.Common.{map, drop}
use Rattle.std.proofs.Common.{get_or, length, ap, sym, refl, ◌∙◌, arith, IfSome, length-append}
use Rattle.std.proofs.lemmas.Bool.{ne_eqb}
use Rattle.std.specs.Borrow.{Bor}
use Rattle.std.proofs.lemmas.List.{drop_more}
use Rattle.std.proofs.lemmas.List.Elements.{All-push}
use Rattle.clap.specs.Walk.{Text}
use Rattle.mseed_words.specs.FeedWords.{called_in, gathered, next_place}
use Rattle.mseed_words.specs.Mistakes.{and_then}
use Rattle.mseed_words.specs.Places.{Called, has_place}
use Rattle.mseed_words.specs.declared.feed_words.Naming.{Naming}
use Rattle.mseed_words.proofs.Different.{different_more}
use Rattle.mseed_words.proofs.feed_words.gather.Goals as goal

abbrev texts : List (Bor Text) → List Text
texts words = map (λ (w : Bor Text). w.now) words

-- the next word, and those behind it
next : (naming : Naming) (taken : List Called) (words : List (Bor Text)) (i : ℕ) (d : Bor Text) (p : Option Called)
    → i < length words → p ≡ called_in naming (get_or words i d).now
    → gathered naming taken (texts (drop i words))
    ≡ and_then (next_place naming taken p) (λ places. gathered naming places (texts (drop (i + 1) words)))
next naming taken words i d p lt is =
    rw (drop_more words i d lt, is) refl

pub loop-word-preserved : goal.loop-word-preserved
loop-word-preserved c =
    let places : List Called = c.loop-word.places in
    let p : Called = c.in-Some.place in
    let lacks : has_place p.0 places ≡ false = sym c.has.ensures ∙ c.if-has.false in
    let room : (length places == 16) ≡ false =
    ne_eqb (length places) 16 (λ full. c.if-len-eq16.false (c.len-in-loop-word.ensures.value ∙ full)) in
    let step = rw (room, lacks) at (next c.args.naming places c.args.words.now c.loop-word.word-index _ (Some p)
    c.loop-word-test.true c.in-Some.ensures.value) in
    let count : length (places ++ p ∷ []) ≡ length places + 1 = length-append places (p ∷ []) in
    let size : length c.push.new.self ≡ length (places ++ p ∷ []) = ap length c.push.ensures in (
      rw c.push.ensures (sym step ∙ c.loop-word.invariant.0),
      rw c.push.ensures (different_more places p c.loop-word.invariant.1 lacks),
      rw c.push.ensures (All-push (λ (q : Called). IfSome q.1 (λ n. n < 2 ^ 24)) places p c.loop-word.invariant.2
          c.in-Some.ensures.range),
      omega arith,
      omega arith,
    )
