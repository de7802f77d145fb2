use Rattle.std.proofs.Common.{ℕ, ap, refl}
use Rattle.mseed_audit.specs.Series.{Trace}
use Rattle.mseed_pack.specs.Fitting.{IsMisfit, no_sample, too_fast, time_outside, large_sample, large_difference}
use Rattle.mseed_pack.specs.Traces.{trace_of}
use Rattle.mseed_pack.specs.declared.fault.PackFault.{PackFault}
use Rattle.mseed_pack.specs.declared.options.Options.{Options}
use Rattle.mseed_c.specs.Codes.{IsOfSeries}
use Rattle.mseed_c.specs.Packed.{packed, misfit}
use Rattle.mseed_c.specs.declared.packing.Packed.{Packed}
use Rattle.mseed_c.proofs.packing.pack_series.Goals as goal

misfit_of_series : (s : Trace) (o : Options) (f : PackFault) → IsMisfit s o f → IsOfSeries f
misfit_of_series s o f (no_sample e) = tt
misfit_of_series s o f (too_fast some fast) = tt
misfit_of_series s o f (time_outside some slow i h) = tt
misfit_of_series s o f (large_sample some slow timed i h) = tt
misfit_of_series s o f (large_difference some slow timed all i h) = tt

pub code_of_misfit-requires : goal.code_of_misfit-requires
code_of_misfit-requires c =
    misfit_of_series (trace_of c.args.series.now) c.args.options.now c.in-Err.fault c.in-Err.ensures.fault

pub returns-in-Err : goal.returns-in-Err
returns-in-Err c =
    let counted : ℕ → Packed = λ k. record { records = 0; index = k } in
    rw c.code_of_misfit.ensures (misfit c.in-Err.fault c.in-Err.ensures.fault refl (ap counted c.index_of.ensures))

pub returns : goal.returns
returns c =
    let filled = c.pack_into-records.ensures in
    let counted : ℕ → Packed = λ k. record { records = k; index = 0 } in
    packed filled.records c.in_default.ensures.fits filled.packing filled.bytes (ap counted filled.count_is)
