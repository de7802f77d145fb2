use Rattle.std.proofs.Common.{◌∙◌, rules, w32}
use Rattle.std.proofs.lemmas.Int.{to_z-of_z}
use Rattle.mseed_pack.proofs.Constants.{are_set}
use Rattle.mseed_pack.proofs.frames.put_constants.Goals as goal

pub returns : goal.returns
returns c =
    are_set c.args.frames.now c.write_word-2.new.frames c.args.first c.args.last (search rules) c.ranges.first
    c.ranges.last (λ k. c.write_word-2.ensures k ∙ rw (c.write_word.ensures k, c.cast_unsigned.ensures)
    (rw (c.cast_unsigned-2.ensures, to_z-of_z w32 c.args.first c.ranges.first)
    (rw (to_z-of_z w32 c.args.last c.ranges.last))))
