use Rattle.mseed_record.proofs.OneView.{view_kept}
use Rattle.mseed_record.proofs.view.RecordView.bytes.Goals as goal

pub returns-clause-view : goal.returns-clause-view
returns-clause-view c = view_kept c.args.self.now.is_view
