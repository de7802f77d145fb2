use Rattle.std.proofs.Common.{IsTrue, arith}
use Rattle.mseed_record.specs.Header.{has_fixed_bytes}
use Rattle.mseed_record.proofs.OneView.{view_kept}
use Rattle.mseed_record.proofs.view.RecordView.quality.Goals as goal

pub returns-clause-range : goal.returns-clause-range
returns-clause-range c =
    let fixed : IsTrue (has_fixed_bytes c.args.self.now.bytes.now) =
    (view_kept c.args.self.now.is_view).1.1.1.record_is.fixed in
    grind (arith, fixed)
