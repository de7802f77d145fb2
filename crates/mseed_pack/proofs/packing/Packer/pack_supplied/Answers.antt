use Rattle.std.proofs.Common.{rules}
use Rattle.mseed_pack.proofs.Begun.{err_each, ok_each, supply_begins}
use Rattle.mseed_pack.proofs.packing.Packer.pack_supplied.Goals as goal

pub write_records-requires-clause-begins : goal.write_records-requires-clause-begins
write_records-requires-clause-begins g c = (
  c.requires.supplied.0,
  supply_begins g.S.Supply.supplies _ c.args.supply.now _ c.requires.supplied.0 c.requires.steim c.requires.supplied.1
      c.count_has_64_bits.ensures (search rules) c.begin.ensures,
)

pub returns-clause-ok : goal.returns-clause-ok
returns-clause-ok g c = ok_each _ _ _ (λ xs fitting. c.write_records.ensures.ok xs (supply_begins g.S.Supply.supplies _
    c.args.supply.now _ xs c.requires.steim fitting c.count_has_64_bits.ensures (search rules) c.begin.ensures))

pub returns-clause-err : goal.returns-clause-err
returns-clause-err g c = err_each _ _ _ (λ xs fitting. c.write_records.ensures.err xs (supply_begins
    g.S.Supply.supplies _ c.args.supply.now _ xs c.requires.steim fitting c.count_has_64_bits.ensures
    (search rules) c.begin.ensures))
