use Rattle.std.proofs.Common.{◌≡◌, ◌+◌, ℤ, ◌-ℤ◌, List, w32}
use Rattle.std.specs.Int.{int_wrap}
use Rattle.mseed_pack.specs.private.Filling.{HoldsDifferences}
use Rattle.mseed_pack.specs.private.KnownSamples.{sample_before}
use Rattle.mseed_pack.proofs.window.Window.moved.Given as goal

abbrev pub invariant-loop-difference : goal.invariant-loop-difference
invariant-loop-difference l =
    (samples : List ℤ) → HoldsDifferences samples l.self
    → l.moved ≡ int_wrap w32 (sample_before samples (l.first + l.difference-index) -ℤ sample_before samples l.first)
