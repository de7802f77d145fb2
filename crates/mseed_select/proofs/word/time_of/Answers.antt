use Rattle.std.proofs.Common.{ℕ, eqb}
use Rattle.std.specs.List.{slice_split}
use Rattle.mseed_select.specs.Word.{without_zone}
use Rattle.mseed_select.proofs.Wording.{date_alone}
use Rattle.mseed_select.proofs.word.time_of.Goals as goal

pub returns-in_ok-date-in-One : goal.returns-in_ok-date-in-One
returns-in_ok-date-in-One c =
    let alone = rw c.without_zone.ensures at c.in-One.ensures in
    date_alone (slice_split (λ (x : ℕ). eqb x 84) (without_zone c.args.word.now)) c.in-One.date.now
    c.in_ok-date-in-One.date c.clock_at.result c.instant_at.result alone c.in_ok-date-in-One.ensures.value
    c.clock_at.ensures c.instant_at.ensures
