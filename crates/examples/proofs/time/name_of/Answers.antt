use Rattle.examples.proofs.time.name_of.Goals as goal

-- What a law says is known where it was called.
pub returns : goal.returns
returns c = c.one_name.ensures c.args.instant
