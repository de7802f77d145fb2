use Rattle.std.proofs.Common.{refl}
use Rattle.mseed_pack.proofs.Begun.{series_begins}
use Rattle.mseed_pack.proofs.packing.Packer.pack_fitting.Goals as goal

pub write_records-requires-clause-begins : goal.write_records-requires-clause-begins
write_records-requires-clause-begins g c = (
  c.args.series.now.samples.now,
  series_begins _ _ _ c.args.series.now c.head-head.ensures.trace c.head-head.ensures.count c.requires.fits refl
      c.new-payloads.ensures,
)

pub returns-clause-ok : goal.returns-clause-ok
returns-clause-ok g c =
    rw c.head-head.ensures.trace at (c.write_records.ensures.ok c.args.series.now.samples.now (series_begins _ _ _
    c.args.series.now c.head-head.ensures.trace c.head-head.ensures.count c.requires.fits refl c.new-payloads.ensures))

pub returns-clause-err : goal.returns-clause-err
returns-clause-err g c =
    rw c.head-head.ensures.trace at (c.write_records.ensures.err c.args.series.now.samples.now (series_begins _ _ _
    c.args.series.now c.head-head.ensures.trace c.head-head.ensures.count c.requires.fits refl c.new-payloads.ensures))
