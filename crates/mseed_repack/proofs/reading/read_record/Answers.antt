use Rattle.std.proofs.Common.{◌≡◌, ◌+◌, ◌-◌, arith, length}
use Rattle.std.proofs.lemmas.Bool.{false≢true}
use Rattle.std.proofs.lemmas.Slice.{take-put_mid}
use Rattle.mseed_record.specs.Viewing.{view_of}
use Rattle.mseed_steim.specs.Reading.{count_of}
use Rattle.mseed_audit.proofs.Joined.{count_is}
use Rattle.mseed_repack.proofs.reading.read_record.Goals as goal

pub unreachable-requires : goal.unreachable-requires
unreachable-requires c = false≢true (c.in-Err.ensures.only c.requires.sound.samples c.requires.sound.whole).0

pub returns-clause-samples : goal.returns-clause-samples
returns-clause-samples c =
    let xs = c.fill_samples.new.out in
    let whole = c.in-Ok.ensures.reading in
    let long : length xs ≡ count_of (view_of c.args.view.now) = count_is (view_of c.args.view.now) xs whole in
    let same : c.from.result ≡ count_of (view_of c.args.view.now) = omega (arith, c.from.ensures, c.samples.ensures) in
    let fits = c.requires.samples_fit in (
      xs,
      (
        whole,
        take-put_mid c.args.before.samples (c.args.before.samples + c.from.result - c.args.before.samples)
            c.args.samples.now xs (c.args.before.samples + c.from.result) (omega (arith, long, same))
            (omega (arith, fits)),
      ),
    )
