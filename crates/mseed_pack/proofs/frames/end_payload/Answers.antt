use Rattle.std.proofs.Common.{arith, rules, w32}
use Rattle.std.proofs.lemmas.Int.{to_z-of_z}
use Rattle.mseed_pack.proofs.Filled.{holds}
use Rattle.mseed_pack.proofs.Room.{words_fit}
use Rattle.mseed_pack.proofs.frames.end_payload.Goals as goal

pub frames_of-requires : goal.frames_of-requires
frames_of-requires c =
    let f = c.requires.1.1.1.1 in
    omega (arith, f.run.inside.1, words_fit c.args.payload.now, f.frames.short)

pub returns-clause-filled : goal.returns-clause-filled
returns-clause-filled c = λ s xs l until f ends.
    rw c.frames_of.ensures (holds f c.put_constants.new.frames (search rules) (rw (
      to_z-of_z w32 c.args.ends.first (search rules),
      to_z-of_z w32 c.args.ends.last (search rules),
      ends.first_is,
      ends.last_is,
    ) at c.put_constants.ensures))
