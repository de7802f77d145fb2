use Rattle.std.proofs.Common.{[], ◌++◌, List, ap, refl}
use Rattle.mseed_steim.specs.Frames.{DataWord}
use Rattle.mseed_steim.specs.private.Items.{items_of}
use Rattle.mseed_steim.proofs.Continuing.{walks_on}
use Rattle.mseed_steim.proofs.walk.keep_words.Goals as goal

pub loop-word-preserved : goal.loop-word-preserved
loop-word-preserved g c =
    let walked = λ (rest : List DataWord). walks_on (c.loop-word.invariant.walked rest)
    (ap (λ (ws : List DataWord). items_of c.args.scheme (ws ++ rest)) c.in-Some.ensures.steps) refl
    (c.in_ok-sum.ensures (c.next.new.self ++ rest)) in
    record { places = (walked []).places; met = (walked []).met; walked = walked }
