use Rattle.mseed_record.specs.Viewing.{view_of}
use Rattle.mseed_c.proofs.MoreRows.{written_on}
use Rattle.mseed_c.proofs.reading.WrittenPlaces.take.Goals as goal

pub returns-in-Ok-clause-taken : goal.returns-in-Ok-clause-taken
returns-in-Ok-clause-taken c =
    written_on (view_of c.args.view.now) c.args.filled c.in-Ok.samples c.in-Ok.code c.args.out.now c.fill_row.new.out
    c.fill_row.ensures.prefix c.in-Ok.ensures.row
