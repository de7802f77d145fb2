use Rattle.mseed_record.specs.Viewing.{view_of}
use Rattle.mseed_steim.proofs.Laws.{answers_done, answers_only}
use Rattle.mseed_steim.proofs.read.fill_samples.Goals as goal

pub returns-clause-only : goal.returns-clause-only
returns-clause-only c = λ s whole. answers_done c.fill_record.result _ (answers_only (view_of c.args.view.now) _
    c.fill_record.result c.requires.some c.fill_record.ensures s whole)
