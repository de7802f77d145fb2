use Rattle.std.proofs.Common.{◌≡◌, sym, subst, arith}
use Rattle.mseed_audit.specs.Series.{Trace}
use Rattle.mseed_pack.specs.Fitting.{Fits}
use Rattle.examples.proofs.pack.pack_in_pieces.Goals as goal

pub pack_supplied-requires-clause-supplied : goal.pack_supplied-requires-clause-supplied
pack_supplied-requires-clause-supplied g c = (
  c.args.series.now.samples.now,
  record {
    supplied = (
      omega arith,
      c.of-rest.ensures.supplies c.args.options.now.encoding c.requires.steim c.requires.fits.differences_fit,
    );
    count = sym c.head.ensures.count;
    first = sym c.head.ensures.first;
    fits = subst (λ (s : Trace). Fits s c.args.options.now) (sym c.head.ensures.trace) c.requires.fits;
  },
)
