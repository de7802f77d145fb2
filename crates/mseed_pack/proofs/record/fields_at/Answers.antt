use Rattle.std.proofs.Common.{◌<◌, refl, sym, arith, rules, w8}
use Rattle.std.proofs.lemmas.Int.{to_z-of_z}
use Rattle.mseed_time.specs.Ratios.{ratio_of}
use Rattle.mseed_pack.proofs.Times.{reading_in}
use Rattle.mseed_pack.proofs.record.fields_at.Goals as goal

pub unreachable-requires : goal.unreachable-requires
unreachable-requires c =
    let h = c.args.job.now.head.now in
    let place = c.args.place in
    let timed = c.requires.timed in
    let before : place.first < place.span.end = omega (arith, c.requires.some, c.requires.within) in
    let out = rw (reading_in h.start (ratio_of h.rate) place.first c.requires.standing c.requires.begin before) at
    (c.time_at.ensures.none.0 c.in_default.is) in
    timed.1.1 (place.first, (omega (arith, before, c.requires.standing.most, timed.1.0), out))

pub returns : goal.returns
returns c = λ xs samples bytes count e.
    let h = c.args.job.now.head.now in
    let place = c.args.place in
    let before : place.first < place.span.end = omega (arith, c.requires.some, c.requires.within) in
    let at = reading_in h.start (ratio_of h.rate) place.first c.requires.standing c.requires.begin before in
    record {
      sequence = c.after.ensures.sequence;
      key = refl;
      start = rw (to_z-of_z w8 c.in-Some.usec (search rules)) (rw at at c.in-Some.ensures.names);
      samples = sym e;
      factor = refl;
      multiplier = refl;
      encoding = c.code.ensures;
      exponent = refl;
      frames_is = refl;
      activity = rw e (c.flags_at-activity.ensures xs count);
    }
