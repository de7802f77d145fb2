use Rattle.std.proofs.Common.{rules, w32}
use Rattle.std.proofs.lemmas.Int.{to_z-of_z}
use Rattle.mseed_pack.proofs.payloads.fill_listed.Goals as goal

pub end_payload-requires : goal.end_payload-requires
end_payload-requires c = (c.args.scheme, (c.args.samples.now, (c.args.left, (_, c.pack_left-packed.ensures.packed))))

pub returns-clause-filled : goal.returns-clause-filled
returns-clause-filled c =
    c.end_payload.ensures.filled c.args.scheme c.args.samples.now c.args.left _ c.pack_left-packed.ensures.packed
    (record { first_is = to_z-of_z w32 _ (search rules); last_is = to_z-of_z w32 _ (search rules) })
