use Rattle.std.proofs.Common.{◌-◌, refl}
use Rattle.std.specs.Prelude.{slice_range}
use Rattle.mseed_pack.proofs.Filled.{none_large}
use Rattle.mseed_pack.proofs.frames.pack_part.Goals as goal

pub unreachable-requires : goal.unreachable-requires
unreachable-requires c =
    let w = c.args.window.now in
    let large = (c.in-Err.ensures.packed.refused c.in-Err.field-0.index).0 refl in
    none_large c.args.scheme (slice_range w.differences (c.args.first - w.first) (c.args.end - w.first))
    c.in-Err.field-0.index c.requires.fit large.0.0
