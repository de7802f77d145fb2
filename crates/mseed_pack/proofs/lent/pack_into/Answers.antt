use Rattle.std.proofs.Common.{◌≤◌, ◌++◌, length, refl, sym, arith}
use Rattle.std.proofs.Common.{[], length-append}
use Rattle.std.proofs.lemmas.List.{drop_all}
use Rattle.mseed_pack.specs.Traces.{headed}
use Rattle.mseed_pack.proofs.Begun.{go_on, list_begun}
use Rattle.mseed_pack.proofs.Growing.{packs_none}
use Rattle.mseed_pack.proofs.Overwritten.{over_none, over_more}
use Rattle.mseed_pack.proofs.lent.pack_into.Goals as goal

pub loop-place-init : goal.loop-place-init
loop-place-init c =
    let xs = c.args.series.now.samples.now in
    let begins = list_begun c.new-payloads.result c.args.options.now.encoding xs c.new-payloads.ensures
    c.requires.fits.samples c.requires.fits.differences_fit in
    record {
      standing = c.first_place-place.ensures.standing;
      listed = refl;
      goes_on = rw c.first_place-place.ensures.first begins;
      bytes = [];
      packs = packs_none (headed c.head-head.result xs) c.args.options.now c.first_place-place.result
          c.first_place-place.ensures.number c.first_place-place.ensures.first;
      room_is = over_none c.args.room.now;
      filled_is = omega arith;
    }

pub fill_on-batch-requires-clause-on : goal.fill_on-batch-requires-clause-on
fill_on-batch-requires-clause-on c =
    let l = c.loop-place.invariant in (
      c.args.series.now.samples.now,
      go_on (sym c.head-head.ensures.count) (rw c.head-head.ensures.trace c.requires.fits) l.standing
          c.loop-place-test.true (l.listed, l.goes_on),
    )

pub loop-place-preserved : goal.loop-place-preserved
loop-place-preserved c =
    let l = c.loop-place.invariant in
    let on = c.fill_on-batch.ensures.to c.args.series.now.samples.now (go_on (sym c.head-head.ensures.count)
    (rw c.head-head.ensures.trace c.requires.fits) l.standing c.loop-place-test.true (l.listed, l.goes_on)) in
    record {
      standing = c.fill_on-batch.ensures.standing;
      listed = on.to.stands_next.0;
      goes_on = on.to.stands_next.1;
      bytes = l.bytes ++ on.bytes;
      packs = on.to.on.after l.bytes l.packs;
      room_is = over_more l.bytes on.bytes c.args.room.now c.loop-place.room c.fill_on-batch.new.room
          c.loop-place.filled l.filled_is l.room_is on.room;
      filled_is = omega (arith, l.filled_is, on.count, length-append l.bytes on.bytes, c.min-filled.ensures);
    }

pub returns : goal.returns
returns c =
    let done = c.loop-place.invariant in
    let end : length c.args.series.now.samples.now ≤ c.loop-place.place.first = omega arith in
    record {
      records = done.packs.records;
      packing = rw (drop_all, c.head-head.ensures.trace) at done.packs.packing;
      count_is = done.packs.count_is;
      bytes = rw done.packs.bytes_are done.room_is;
    }
