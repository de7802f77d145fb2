use Rattle.mseed_pack.proofs.law.a_packing_exists.Goals as goal

pub returns : goal.returns
returns c = (c.pack_into.ensures.records, c.pack_into.ensures.packing)
