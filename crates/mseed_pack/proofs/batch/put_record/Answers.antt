use Rattle.std.proofs.Common.{◌+◌, refl, arith}
use Rattle.mseed_pack.specs.Traces.{headed}
use Rattle.mseed_pack.proofs.Begun.{go_on}
use Rattle.mseed_pack.proofs.Growing.{on_one}
use Rattle.mseed_pack.proofs.Recorded.{lengths_of}
use Rattle.mseed_pack.specs.declared.batch.PackedSoFar.{PackedSoFar}
use Rattle.mseed_pack.proofs.batch.put_record.Goals as goal

pub write_record-count-requires-clause-long : goal.write_record-count-requires-clause-long
write_record-count-requires-clause-long g c = (lengths_of c.args.job.now.options.now _ c.requires.size).0

pub write_record-count-requires-clause-short : goal.write_record-count-requires-clause-short
write_record-count-requires-clause-short g c = (lengths_of c.args.job.now.options.now _ c.requires.size).1

pub write_record-count-requires-clause-whole : goal.write_record-count-requires-clause-whole
write_record-count-requires-clause-whole g c = (lengths_of c.args.job.now.options.now _ c.requires.size).2

pub returns-clause-standing : goal.returns-clause-standing
returns-clause-standing g c =
    let at = c.span_at-span.ensures in
    let within = c.write_record-count.ensures.within in
    record {
      span = at.standing;
      begun = omega (arith, at.begun);
      ends = within;
      inside = omega (arith, within, at.most);
      counted = omega (arith, c.requires.on.1.standing.counted, c.write_record-count.ensures.some);
    }

pub returns-clause-to : goal.returns-clause-to
returns-clause-to g c = λ xs on.
    let at = c.span_at-span in
    let one = c.write_record-count.ensures.recorded xs (go_on on.count on.fits (record {
      span = at.ensures.standing;
      begun = at.ensures.begun;
      ends = omega (arith, at.ensures.inside);
      inside = on.standing.inside;
      counted = on.standing.counted;
    }) on.more on.stands_there) in
    let next : PackedSoFar = record {
      span = at.result;
      number = c.args.place.number + 1;
      first = c.args.place.first + c.write_record-count.result;
    } in
    record {
      on = record {
        after = on_one (headed c.args.job.now.head.now xs) c.args.job.now.options.now c.args.place next
            c.write_record-count.result c.write_record-count.new.out refl refl (omega (arith, on.count)) one.packed;
      };
      stands_next = one.stands_after;
    }
