-- What is kept of a stretch, with one more record.
use Rattle.mseed_repack.proofs.Joining.{added_one}
use Rattle.std.proofs.Common.{◌≡◌, ◌↔◌, ◌+◌, List, [], ◌∷◌, ◌++◌, false, IsTrue}
use Rattle.std.proofs.Common.{Some, ℤ, ◌+ℤ◌, arith, sym, ap, subst, ◌∙◌}
use Rattle.std.proofs.lemmas.Bool.{false≢true}
use Rattle.std.proofs.lemmas.Int.{ints}
use Rattle.std.proofs.lemmas.List.{length-append}
use Rattle.std.proofs.lemmas.Option.{same_Some}
use Rattle.mseed_time.specs.Join.{step_of}
use Rattle.mseed_time.specs.Rate.{Ratio}
use Rattle.mseed_time.specs.declared.rate.Rate.{Rate}
use Rattle.mseed_time.specs.Ratios.{ratio_of}
use Rattle.mseed_record.specs.declared.leap.Leap.TheVariants.{Both}
use Rattle.mseed_record.specs.View.{View, leap_of, start_of, step_in}
use Rattle.mseed_steim.specs.Reading.{count_of}
use Rattle.mseed_audit.specs.Judging.{known_rate}
use Rattle.mseed_repack.specs.Clocks.{IsStretchOf}
use Rattle.mseed_repack.specs.Stretches.{GoesOn, last_of}
use Rattle.mseed_repack.specs.private.Nexts.{IsNext}
use Rattle.mseed_repack.specs.declared.stretch.Stretch.{Stretch}
use Rattle.mseed_repack.proofs.Runs.{last_snoc, samples_append}

-- what one more record changes of what is kept
pub record IsOneMore (s new : Stretch) (v : View) : Type 0 where
  pub codes_is : new.codes ≡ s.codes
  pub start_is : new.start ≡ s.start
  pub rate_is : new.rate ≡ s.rate
  pub records_is : new.records ≡ s.records + 1
  pub samples_is : new.samples ≡ s.samples + count_of v
  pub added_is : new.added ≡ s.added +ℤ step_of (step_in (leap_of v.bytes))
  pub closed_is : IsTrue new.closed ↔ (leap_of v.bytes ≡ Both)

pub stretch_more : (s new : Stretch) (vs : List View) (v : View) → IsStretchOf s vs → IsOneMore s new v
    → IsStretchOf new (vs ++ v ∷ [])
stretch_more s new [] v is more = absurd is
stretch_more s new (first ∷ rest) v is more =
    let size = length-append (first ∷ rest) (v ∷ []) in
    let count = samples_append (first ∷ rest) (v ∷ []) in
    let last : last_of first (rest ++ v ∷ []) ≡ v = last_snoc first rest v in
    record {
      codes_is = more.codes_is ∙ is.codes_is;
      start_is = more.start_is ∙ is.start_is;
      rate_is = is.rate_is ∙ ap (λ (r : Rate). Some (ratio_of r)) (sym more.rate_is);
      factor_is = ap (λ (r : Rate). r.factor) more.rate_is ∙ is.factor_is;
      multiplier_is = ap (λ (r : Rate). r.multiplier) more.rate_is ∙ is.multiplier_is;
      records_is = omega (arith, more.records_is, is.records_is, size);
      samples_is = omega (arith, more.samples_is, is.samples_is, count);
      added_is = omega (arith, ints, more.added_is, is.added_is, added_one (first ∷ rest) v);
      closed_is = subst (λ (w : View). IsTrue new.closed ↔ (leap_of w.bytes ≡ Both)) (sym last) more.closed_is;
    }

-- else its rate and its start decide

pub next_goes : (s : Stretch) (vs : List View) (v : View) (next : Ratio) (start : ℤ) → s.closed ≡ false
    → known_rate v ≡ Some next → start ≡ start_of v → IsStretchOf s vs → IsNext s next start → GoesOn vs v
next_goes s vs v next start h h2 h3 h4 h5 = grind (arith, false≢true)

pub goes_next : (s : Stretch) (vs : List View) (v : View) (next : Ratio) (start : ℤ)
    → known_rate v ≡ Some next → start ≡ start_of v → IsStretchOf s vs → GoesOn vs v → IsNext s next start
goes_next s vs v next start h h2 h3 h4 = grind (arith, same_Some)
