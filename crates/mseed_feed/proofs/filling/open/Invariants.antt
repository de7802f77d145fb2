use Rattle.std.proofs.Common.{◌≡◌, [], map, take}
use Rattle.mseed_words.specs.Places.{Called}
use Rattle.mseed_feed.specs.Filling.{ring_of}
use Rattle.mseed_feed.proofs.filling.open.Given as goal

abbrev pub invariant-loop-place : goal.invariant-loop-place
invariant-loop-place g l =
    (l.feed ≡ map (ring_of l.serving []) (map (λ (p : Called). p.0) (take l.place-index l.serving.places)))
