use Rattle.std.proofs.Common.{inr}
use Rattle.mseed_files.proofs.naming.report_named.Goals as goal

pub returns-in-Err : goal.returns-in-Err
returns-in-Err g c = inr c.report_no_memory.ensures
