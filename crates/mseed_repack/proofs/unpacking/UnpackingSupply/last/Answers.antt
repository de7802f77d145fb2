use Rattle.std.proofs.Common.{rules, w32, ◌∙◌}
use Rattle.std.proofs.lemmas.Int.{to_z-of_z}
use Rattle.mseed_repack.proofs.Supplied.{last_given}
use Rattle.mseed_repack.proofs.unpacking.UnpackingSupply.last.Goals as goal

pub returns : goal.returns
returns g c = λ samples given h some.
    to_z-of_z w32 _ (search rules) ∙ last_given h.1 c.if-self.false some
