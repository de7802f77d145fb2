use Rattle.std.proofs.Common.{◌≡◌, true, false, None, sym}
use Rattle.mseed_record.specs.Viewing.{view_of}
use Rattle.mseed_audit.specs.Judging.{time, rate}
use Rattle.mseed_audit.proofs.Judged.{none_unless, unknown_timed, known_timed}
use Rattle.mseed_audit.proofs.tail.Tail.of.Goals as goal

pub returns-in-Err-clause-unknown : goal.returns-in-Err-clause-unknown
returns-in-Err-clause-unknown c =
    unknown_timed (view_of c.args.view.now) c.in-Err.fault (sym c.in-Err.ensures.fault)

pub returns-in-Err-clause-why : goal.returns-in-Err-clause-why
returns-in-Err-clause-why c = λ before. time c.in-Err.fault (sym c.in-Err.ensures.fault)

pub returns-in-Err-rate-clause-unknown : goal.returns-in-Err-rate-clause-unknown
returns-in-Err-rate-clause-unknown c =
    known_timed (view_of c.args.view.now) None (sym c.in-Ok.ensures.fault)
    (none_unless _ (λ some. let no : false ≡ true = c.in-Err-rate.ensures.ok.1 some in cc))

pub returns-in-Err-rate-clause-why : goal.returns-in-Err-rate-clause-why
returns-in-Err-rate-clause-why c = λ before.
    rate (sym c.in-Ok.ensures.fault)
    (none_unless _ (λ some. let no : false ≡ true = c.in-Err-rate.ensures.ok.1 some in cc))
