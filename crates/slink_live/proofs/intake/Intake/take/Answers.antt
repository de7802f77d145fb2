use Rattle.std.proofs.Common.{[], append-nil, ◌∙◌, ap, refl, arith, length-take, take-append-drop, ◌+◌, slice_get}
use Rattle.std.proofs.lemmas.Result.{err_from_is_err_and}
use Rattle.slink_live.specs.Served.{IntakeState}
use Rattle.slink_live.proofs.Cuts.{cut_below, cut_few, cuts_kept, look_off, look_on}
use Rattle.slink_live.proofs.intake.Intake.take.Goals as goal

pub loop-start-init : goal.loop-start-init
loop-start-init c = record {
  within = omega arith;
  cuts = record {
    records = [];
    joined = append-nil c.args.self.now.kept;
    each = tt;
    feed_is = refl;
    counted = omega arith;
  };
  short = c.requires.short;
  begins = c.requires.begins;
  stays = λ k none. refl;
}

pub look-requires : goal.look-requires
look-requires c =
    let cuts = cuts_kept c.args.self.now c.loop-start.self c.keep.new.self c.args.bytes.now c.loop-start.start
    c.wanted-count.result c.loop-start.invariant.cuts c.keep.ensures.kept in
    let size = length-take (c.loop-start.start + c.wanted-count.result) c.args.bytes.now in
    record {
      size = c.keep.ensures.few;
      below = λ k w there. omega (
        arith,
        cut_below _ _ _ _ c.requires.short cuts 4629700416936869888 c.requires.below k w there,
        size,
        c.requires.size,
      );
      few = omega (arith, cuts.counted, cut_few _ _ _ _ c.requires.short cuts, size, c.requires.size, c.requires.few);
    }

pub loop-start-preserved : goal.loop-start-preserved
loop-start-preserved c =
    let looked = look_on (cuts_kept c.args.self.now c.loop-start.self c.keep.new.self c.args.bytes.now
    c.loop-start.start c.wanted-count.result c.loop-start.invariant.cuts c.keep.ensures.kept) c.look.new.self
    c.in_ok-places.ensures.ok in
    record {
      within = omega (arith, c.wanted-count.ensures.within, c.loop-start-test.true);
      cuts = looked.0;
      short = looked.1;
      begins = looked.2;
      stays = λ k none.
          let beside = c.in_ok-places.ensures.others k none in
          beside.1 ∙ (ap (λ (s : IntakeState). slice_get s.feed k) c.keep.ensures.kept
          ∙ c.loop-start.invariant.stays k beside.0);
    }

pub returns-in_err-places-clause-err : goal.returns-in_err-places-clause-err
returns-in_err-places-clause-err c =
    let off = look_off (cuts_kept c.args.self.now c.loop-start.self c.keep.new.self c.args.bytes.now
    c.loop-start.start c.wanted-count.result c.loop-start.invariant.cuts c.keep.ensures.kept) c.look.new.self
    c.in_err-places.field-0.0 _ _ c.in_err-places.ensures.stays c.in_err-places.ensures.err
    (take-append-drop (c.loop-start.start + c.wanted-count.result) c.args.bytes.now) in
    let p = err_from_is_err_and c.from_residual.result c.from_residual.ensures.1 in
    rw (p.1, p.2) off
