use Rattle.std.proofs.Common.{◌∙◌, ◌∷◌, [], List, Result, ap}
use Rattle.clap.specs.Matches.{found_of}
use Rattle.clap.specs.Walk.{Row, rows_of}
use Rattle.mseed_words.specs.FeedWords.{gathered}
use Rattle.mseed_words.specs.Found.{further_in}
use Rattle.mseed_words.specs.Mistakes.{and_then}
use Rattle.mseed_words.specs.Places.{Called}
use Rattle.mseed_words.specs.declared.mistake.Mistake.{Mistake}
use Rattle.mseed_words.proofs.feed_words.places_in.Goals as goal

pub returns-clause-value : goal.returns-clause-value
returns-clause-value c =
    let rows : List Row = rows_of (found_of c.args.matches.now) in
    c.gather.ensures.value ∙ (ap (gathered c.args.naming (c.in_ok-first.first ∷ [])) c.further_in.ensures
    ∙ ap (λ (r : Result Called Mistake). and_then r (λ first. gathered c.args.naming (first ∷ []) (further_in rows)))
    c.in_ok-first.ensures.value)
