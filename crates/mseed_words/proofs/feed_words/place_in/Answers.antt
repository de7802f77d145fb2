use Rattle.std.proofs.Common.{◌∙◌, ap}
use Rattle.mseed_words.specs.FeedWords.{place_in}
use Rattle.mseed_words.proofs.PlaceWords.{read_is}
use Rattle.mseed_words.proofs.feed_words.place_in.Goals as goal

pub returns : goal.returns
returns c = c.ok.ensures.value
    ∙ (read_is c.as_bytes.result.now c.read.result c.read.ensures.place c.read.ensures.refused
    ∙ ap place_in c.as_bytes.ensures.value)
