use Rattle.std.proofs.Common.{arith}
use Rattle.jiff_core.proofs.SignedLemmas.{signed_arith}
use Rattle.mseed_time.specs.Parts.{parts_of}
use Rattle.mseed_time.proofs.Days.{microsecond_of-natural}
use Rattle.mseed_time.proofs.btime.Btime.since_1900.Goals as goal

pub returns-clause-value : goal.returns-clause-value
returns-clause-value c =
    let counted = microsecond_of-natural (parts_of c.args.self.now) c.days_since_1900.result (omega arith)
    c.days_since_1900.ensures in
    omega (arith, signed_arith, counted)
