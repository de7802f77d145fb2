use Rattle.std.proofs.Common.{◌≡◌, ◌∙◌, List, Option, Err, ap, codes, false, ok_or, sym, true}
use Rattle.clap.specs.Matches.{found_of}
use Rattle.clap.specs.Walk.{Row, Text, rows_of}
use Rattle.slink_wire.specs.Place.{Fields, IsCode}
use Rattle.mseed_words.specs.FeedWords.{code_mistake, place_named}
use Rattle.mseed_words.specs.Found.{text_or}
use Rattle.mseed_words.proofs.PlaceWords.{not_by}
use Rattle.mseed_words.proofs.feed_words.place_of.Goals as goal

pub returns-in-Err : goal.returns-in-Err
returns-in-Err c =
    let rows : List Row = rows_of (found_of c.args.matches.now) in
    let sta : Text = c.text_or-station.result.now in
    let net : Text = c.text_or-network.result.now in
    let never : ¬ (IsCode 5 sta × IsCode 2 net) = λ are. let bad : false ≡ true =
    c.in-Err.ensures.accepted.1 (rw c.as_bytes.ensures.value are.0, rw c.as_bytes-2.ensures.value are.1) in cc bad in
    ap Err c.code_mistake.ensures
    ∙ (ap (λ (o : Option Fields). ok_or o (code_mistake sta)) (sym (not_by sta net never))
    ∙ (ap (λ (s : Text). place_named s net) c.text_or-station.ensures
    ∙ ap (place_named (text_or (codes "station") (codes "") rows)) c.text_or-network.ensures))
