use Rattle.std.proofs.Common.{ap, arith, length, ℕ, List}
use Rattle.mseed_stream.specs.CutterState.{CutterState}
use Rattle.mseed_stream.proofs.Filled.{held_is}
use Rattle.mseed_stream.proofs.cutter.Cutter.note_held.Goals as goal

pub note_record-requires : goal.note_record-requires
note_record-requires g c =
    let held = held_is c.args.self.now c.requires.not_lent in
    let at = ap (λ (s : CutterState). s.offset) c.self.view_is in
    let size = ap (λ (xs : List ℕ). length xs) held in
    record {
      inside = omega (arith, at, size, c.requires.read.reported, c.requires.inside);
      is_record = rw (at, c.requires.read.held, held) c.requires.is_record;
    }
