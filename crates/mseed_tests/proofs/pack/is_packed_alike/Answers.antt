use Rattle.std.proofs.Common.{◌≡◌, sym, subst}
use Rattle.mseed_audit.specs.Series.{Trace}
use Rattle.mseed_pack.specs.Fitting.{Fits}
use Rattle.mseed_tests.proofs.pack.is_packed_alike.Goals as goal

pub pack_supplied-answer-requires-clause-supplied : goal.pack_supplied-answer-requires-clause-supplied
pack_supplied-answer-requires-clause-supplied c = (
  c.args.view.now.samples.now,
  record {
    supplied = c.of-rest.ensures.supplies c.args.options.now.encoding c.requires.steim
        c.in-Ok.ensures.fits.differences_fit;
    count = sym c.head.ensures.count;
    first = sym c.head.ensures.first;
    fits = subst (λ (s : Trace). Fits s c.args.options.now) (sym c.head.ensures.trace) c.in-Ok.ensures.fits;
  },
)
