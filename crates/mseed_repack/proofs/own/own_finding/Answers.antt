use Rattle.mseed_repack.proofs.Joining.{rate_there}
use Rattle.std.proofs.Common.{◌≡◌, Some, false, true, refl, sym}
use Rattle.mseed_record.specs.View.{View}
use Rattle.mseed_record.specs.Viewing.{view_of}
use Rattle.mseed_audit.specs.Judging.{after, rate, rate_in, read, time}
use Rattle.mseed_audit.proofs.Judged.{known_timed, none_unless}
use Rattle.mseed_repack.proofs.own.own_finding.Goals as goal

pub returns-in-Err : goal.returns-in-Err
returns-in-Err c = time c.in-Err.fault (sym c.in-Err.ensures.fault)

pub returns-in-Err-rate : goal.returns-in-Err-rate
returns-in-Err-rate c =
    let v : View = view_of c.args.view.now in
    rate (sym c.in_default.ensures.fault)
    (none_unless (rate_in v) (λ some. let no : false ≡ true = c.in-Err-rate.ensures.ok.1 some in cc))

pub returns-in-Ok : goal.returns-in-Ok
returns-in-Ok c =
    let v : View = view_of c.args.view.now in
    let next = rate_there (rate_in v) (c.in_default-rate.ensures.ok.0 refl) in
    let ends = c.in-Ok.ensures.ends in
    after next.0 (known_timed v (Some next.0) (sym c.in_default.ensures.fault) next.1) ends.0 (ends.1.0, ends.1.1)

pub returns-in-Err-check_samples : goal.returns-in-Err-check_samples
returns-in-Err-check_samples c =
    let v : View = view_of c.args.view.now in
    let next = rate_there (rate_in v) (c.in_default-rate.ensures.ok.0 refl) in
    let fault = c.in-Err-check_samples.fault in
    read next.0 (known_timed v (Some next.0) (sym c.in_default.ensures.fault) next.1) fault
    ((c.in-Err-check_samples.ensures.fault fault).0 refl)
