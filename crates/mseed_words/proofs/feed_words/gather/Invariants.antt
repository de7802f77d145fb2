use Rattle.std.proofs.Common.{◌≡◌, ◌≤◌, ◌∷◌, [], true, drop, length, map}
use Rattle.slink_wire.specs.Place.{AreNumbers}
use Rattle.mseed_words.specs.FeedWords.{gathered}
use Rattle.mseed_words.specs.Places.{are_different}
use Rattle.mseed_words.proofs.feed_words.gather.Given as goal

abbrev pub invariant-loop-word : goal.invariant-loop-word
invariant-loop-word l = (gathered l.naming l.places (map (λ w. w.now) (drop l.word-index l.words))
    ≡ gathered l.naming (l.fn.first ∷ []) (map (λ w. w.now) l.words))
    × (are_different l.places ≡ true) × AreNumbers l.places × (1 ≤ length l.places) × (length l.places ≤ 16)
