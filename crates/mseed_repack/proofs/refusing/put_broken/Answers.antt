use Rattle.mseed_repack.proofs.refusing.put_broken.Goals as goal

pub returns-clause-text : goal.returns-clause-text
returns-clause-text c = simp (c.put-2.ensures.text, c.put_name.ensures.text, c.put.ensures.text, c.requires)
