use Rattle.std.proofs.Common.{◌≡◌, ◌+◌, rules}
use Rattle.mseed_record.specs.Viewing.{view_of}
use Rattle.mseed_steim.specs.Reading.{count_of}
use Rattle.mseed_c.proofs.MoreRows.{counted_on}
use Rattle.mseed_c.proofs.heads.UnreadPlaces.take.Goals as goal

pub returns-in-Some-clause-taken : goal.returns-in-Some-clause-taken
returns-in-Some-clause-taken c =
    let more : c.in-Some.counted ≡ c.args.filled + count_of (view_of c.args.view.now) = search rules in
    counted_on (view_of c.args.view.now) c.args.filled c.in-Some.counted c.args.out.now c.args.out.now more
