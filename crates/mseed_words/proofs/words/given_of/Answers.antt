use Rattle.std.proofs.Common.{◌∙◌, [], List, ap, slice_get, unwrap_or}
use Rattle.clap.specs.Walk.{Text}
use Rattle.mseed_words.proofs.Further.{word_there}
use Rattle.mseed_words.proofs.words.given_of.Goals as goal

pub returns-in-Place : goal.returns-in-Place
returns-in-Place c =
    rw c.in-Place.is (word_there c.further_in.result.now c.in-Place.index c.get.result c.copied.result
    c.unwrap_or_default.result c.get.ensures.lookup c.copied.ensures c.unwrap_or_default.ensures
    ∙ ap (λ (words : List Text). unwrap_or (slice_get words c.in-Place.index) []) c.further_in.ensures)
