-- A series has one reason at most why it isn't packed, and none where it fits.
use Rattle.std.proofs.Common.{◌≡◌, ℕ, List, refl, ap, arith, ℤ, pos, All, get_or}
use Rattle.std.proofs.Common.{Err, length}
use Rattle.mseed_stream.specs.Device.{BytesWritten}
use Rattle.mseed_audit.specs.Series.{Trace}
use Rattle.mseed_pack.specs.declared.options.Options.{Options}
use Rattle.mseed_pack.specs.declared.fault.PackFault.{PackFault}
use Rattle.mseed_pack.specs.declared.fault.PackFault.TheVariants.{TimeOutOfRange, SampleTooLarge, DifferenceTooLarge}
use Rattle.mseed_pack.specs.Clock.{instant_at}
use Rattle.mseed_pack.specs.Fitting.{IsFirstNot, IsFirstOutside}
use Rattle.mseed_pack.specs.Fitting.{Fits, IsMisfit, no_sample, too_fast, time_outside, large_sample}
use Rattle.mseed_pack.specs.Fitting.{large_difference}
use Rattle.mseed_pack.specs.Outcome.{IsOutcome}
use Rattle.mseed_pack.specs.Stretches.{differences}

one_first : (P : ℤ → Type 0) (xs : List ℤ) (i j : ℕ) → IsFirstNot P xs i → IsFirstNot P xs j → i ≡ j
one_first P xs i j h k = search (arith)

one_outside : (instant : ℕ → ℤ) (size i j : ℕ) → IsFirstOutside instant size i → IsFirstOutside instant size j → i ≡ j
one_outside instant size i j h k = search (arith)

none_first : (P : ℤ → Type 0) (xs : List ℤ) (i : ℕ) → All P xs → IsFirstNot P xs i → ⊥
none_first P xs i all h = h.not_it (all i (pos 0) h.inside)

pub one_misfit : (s : Trace) (o : Options) (f g : PackFault) → IsMisfit s o f → IsMisfit s o g → f ≡ g
one_misfit s o f g (no_sample e) (no_sample d) = refl
one_misfit s o f g (no_sample e) (too_fast some fast) = absurd (some e)
one_misfit s o f g (no_sample e) (time_outside some slow i h) = absurd (some e)
one_misfit s o f g (no_sample e) (large_sample some slow timed i h) = absurd (some e)
one_misfit s o f g (no_sample e) (large_difference some slow timed all i h) = absurd (some e)
one_misfit s o f g (too_fast some fast) (no_sample e) = absurd (some e)
one_misfit s o f g (too_fast some fast) (too_fast there again) = refl
one_misfit s o f g (too_fast some fast) (time_outside there slow i h) = absurd (slow fast)
one_misfit s o f g (too_fast some fast) (large_sample there slow timed i h) = absurd (slow fast)
one_misfit s o f g (too_fast some fast) (large_difference there slow timed all i h) = absurd (slow fast)
one_misfit s o f g (time_outside some slow i h) (no_sample e) = absurd (some e)
one_misfit s o f g (time_outside some slow i h) (too_fast there fast) = absurd (slow fast)
one_misfit s o f g (time_outside some slow i h) (time_outside there again j k) =
    ap (λ (n : ℕ). TimeOutOfRange n (instant_at s n))
    (one_outside (λ (n : ℕ). instant_at s n) (length s.samples) i j h k)
one_misfit s o f g (time_outside some slow i h) (large_sample there again timed j k) =
    absurd (timed (i, (h.inside, h.outside)))
one_misfit s o f g (time_outside some slow i h) (large_difference there again timed all j k) =
    absurd (timed (i, (h.inside, h.outside)))
one_misfit s o f g (large_sample some slow timed i h) (no_sample e) = absurd (some e)
one_misfit s o f g (large_sample some slow timed i h) (too_fast there fast) = absurd (slow fast)
one_misfit s o f g (large_sample some slow timed i h) (time_outside there again j k) =
    absurd (timed (j, (k.inside, k.outside)))
one_misfit s o f g (large_sample some slow timed i h) (large_sample there again later j k) =
    ap (λ (n : ℕ). SampleTooLarge n (get_or s.samples n (pos 0))) (one_first _ s.samples i j h k)
one_misfit s o f g (large_sample some slow timed i h) (large_difference there again later all j k) =
    absurd (none_first _ s.samples i all h)
one_misfit s o f g (large_difference some slow timed all i h) (no_sample e) = absurd (some e)
one_misfit s o f g (large_difference some slow timed all i h) (too_fast there fast) = absurd (slow fast)
one_misfit s o f g (large_difference some slow timed all i h) (time_outside there again j k) =
    absurd (timed (j, (k.inside, k.outside)))
one_misfit s o f g (large_difference some slow timed all i h) (large_sample there again later j k) =
    absurd (none_first _ s.samples j all k)
one_misfit s o f g (large_difference some slow timed all i h) (large_difference there again later every j k) =
    ap (λ (n : ℕ). DifferenceTooLarge n (get_or (differences s.samples) n (pos 0))) (one_first _ _ i j h k)

pub no_misfit : (s : Trace) (o : Options) (f : PackFault) → Fits s o → ¬ (IsMisfit s o f)
no_misfit s o f fits (no_sample e) = fits.some e
no_misfit s o f fits (too_fast some fast) = fits.slow fast
no_misfit s o f fits (time_outside some slow i h) = fits.timed (i, (h.inside, h.outside))
no_misfit s o f fits (large_sample some slow timed i h) = none_first _ s.samples i fits.samples h
no_misfit s o f fits (large_difference some slow timed all i h) = none_first _ _ i fits.differences_fit h

-- and nothing is written of one that doesn't fit
pub refused : (s : Trace) (o : Options) (f : PackFault) (written : BytesWritten) → IsMisfit s o f
    → IsOutcome (Err f) s o written written
refused s o f written (no_sample e) = (no_sample e, refl)
refused s o f written h = (h, refl)
