use Rattle.mseed_record.specs.Viewing.{view_of}
use Rattle.mseed_steim.specs.Samples.{AreEnds}
use Rattle.mseed_steim.proofs.Laws.{answers_only}
use Rattle.mseed_steim.proofs.check.check_samples.Goals as goal

pub returns-clause-only : goal.returns-clause-only
returns-clause-only c = λ s reading ends.
    answers_only (view_of c.args.view.now) AreEnds c.check_record.result c.requires c.check_record.ensures s
    (reading, ends)
