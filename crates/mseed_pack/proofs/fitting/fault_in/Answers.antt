use Rattle.mseed_time.specs.Ratios.{ratio_of}
use Rattle.mseed_pack.specs.Fitting.{time_outside}
use Rattle.mseed_pack.proofs.Times.{first_of_span, first_is_instant, reading_in}
use Rattle.mseed_pack.proofs.fitting.fault_in.Goals as goal

pub moment_at-instant-requires-clause-known : goal.moment_at-instant-requires-clause-known
moment_at-instant-requires-clause-known c =
    let head = c.args.head.now in
    let found = c.first_outside-index.ensures in
    let i = c.first_outside-index.result in
    rw (reading_in head.start (ratio_of head.rate) i c.requires.outside.standing found.begin found.end)
    (first_is_instant head.start (ratio_of head.rate) head.steps.now head.count i c.start_is_an_instant.ensures
    c.rate_is_a_ratio.ensures c.requires.steps
    (first_of_span i c.requires.outside found.begin found.end found.outside found.before))

pub returns : goal.returns
returns c = λ xs o size some slow.
    let found = c.first_outside-index.ensures in
    let i = c.first_outside-index.result in
    let start = c.args.head.now.start in
    let at = reading_in start (ratio_of c.args.head.now.rate) i c.requires.outside.standing found.begin found.end in
    rw (c.moment_at-instant.ensures, at)
    (time_outside some slow i
    (rw size (first_of_span i c.requires.outside found.begin found.end found.outside found.before)))
