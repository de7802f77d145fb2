use Rattle.std.proofs.Common.{◌<◌, ap, arith, length, rules}
use Rattle.mseed_feed.proofs.Fills.{opened_all, opened_few, opened_more, opened_other}
use Rattle.mseed_feed.proofs.filling.open.Goals as goal

pub add_other-requires : goal.add_other-requires
add_other-requires g c =
    let within : c.loop-place.place-index < length c.args.serving.now.places =
    omega (arith, ap length c.as_slice-place-items.ensures) in (
      search rules,
      (
        opened_few c.args.serving.now c.loop-place.place-index _ within c.requires.places.most
            c.loop-place.invariant,
        opened_other c.args.serving.now c.loop-place.place-index c.loop-place-item.result c.loop-place.feed
            c.in-Ok.ring c.requires.places.different within
            (rw c.as_slice-place-items.ensures at c.loop-place-item.is) c.in-Ok.ensures.empty c.loop-place.invariant,
      ),
    )

pub loop-place-preserved : goal.loop-place-preserved
loop-place-preserved g c =
    opened_more c.args.serving.now c.loop-place.place-index c.loop-place-item.result c.loop-place.feed
    c.add_other.new.self c.in-Ok.ring
    (omega (arith, ap length c.as_slice-place-items.ensures))
    (rw c.as_slice-place-items.ensures at c.loop-place-item.is) c.in-Ok.ensures.empty c.loop-place.invariant
    c.add_other.ensures

pub returns-clause-ok : goal.returns-clause-ok
returns-clause-ok g c =
    opened_all c.args.serving.now c.loop-place.place-index c.loop-place.feed
    (omega (arith, ap length c.as_slice-place-items.ensures)) c.loop-place.invariant
