use Rattle.std.proofs.Common.{◌∙◌, [], List, Option, ap, codes, unwrap_or}
use Rattle.clap.proofs.WalkLemmas.{raw_values-rows}
use Rattle.clap.specs.Matches.{found_of}
use Rattle.clap.specs.Walk.{Text}
use Rattle.mseed_words.proofs.Further.{further_is}
use Rattle.mseed_words.proofs.found.further_in.Goals as goal

pub returns : goal.returns
returns c =
    further_is c.get_raw.result c.unwrap_or_default.result c.unwrap_or_default.ensures
    ∙ ap (λ (o : Option (List Text)). unwrap_or o [])
    (c.get_raw.ensures ∙ raw_values-rows (found_of c.args.matches.now) (codes "place"))
