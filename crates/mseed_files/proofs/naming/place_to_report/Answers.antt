use Rattle.std.proofs.Common.{refl}
use Rattle.mseed_files.proofs.naming.place_to_report.Goals as goal

pub returns-in_err-own : goal.returns-in_err-own
returns-in_err-own g c = rw c.from_residual.ensures (c.in_err-own.ensures.none refl)

pub returns-in_err-before : goal.returns-in_err-before
returns-in_err-before g c = rw c.from_residual-in_err-before.ensures (c.in_err-before.ensures.none refl)

pub returns-in_err-end : goal.returns-in_err-end
returns-in_err-end g c = rw c.from_residual-in_err-end.ensures (c.in_err-end.ensures.none refl)
