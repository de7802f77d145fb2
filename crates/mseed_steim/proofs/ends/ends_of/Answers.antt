use Rattle.mseed_record.specs.Viewing.{view_of}
use Rattle.mseed_steim.proofs.Constants.{whole_fault}
use Rattle.mseed_steim.proofs.ends.ends_of.Goals as goal

pub unreachable-requires : goal.unreachable-requires
unreachable-requires c =
    whole_fault (view_of c.args.view.now) c.requires.0 c.in-Err.field-0 c.requires.1 c.in-Err.ensures.fault
