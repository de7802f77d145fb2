use Rattle.mseed_steim_pack.proofs.pack.look_on.Goals as goal

pub look-requires : goal.look-requires
look-requires g c = c.requires.reached.1.1.pushing.inside

pub returns-clause-reached : goal.returns-clause-reached
returns-clause-reached g c = λ p head is. record { pushing = is.pushing; ahead = c.look.ensures }
