-- Before the first sample of a series is packed.
use Rattle.std.specs.Prelude.{Result, Ok, Err, IfOk, IfErr}
use Rattle.std.proofs.Common.{◌≡◌, ℕ, ◌<◌, ◌^◌, ℤ, pos, List, length, get_or, arith, refl, sym, All}
use Rattle.std.proofs.Common.{Bor, FitsSigned, w32, to_z, of_z}
use Rattle.std.proofs.lemmas.Int.{to_z-of_z}
use Rattle.mseed_steim.specs.declared.scheme.Scheme.{Scheme}
use Rattle.mseed_steim.specs.declared.scheme.Scheme.TheVariants.{One, Two}
use Rattle.mseed_steim.specs.Spelling.{IsWithin}
use Rattle.mseed_steim_pack.specs.Lookahead.{IsLookahead}
use Rattle.mseed_pack.specs.declared.batch.Job.{Job}
use Rattle.mseed_pack.specs.declared.frames.Frames.{Frames}
use Rattle.mseed_steim.specs.declared.encoding.Encoding.{Encoding}
use Rattle.mseed_steim.specs.declared.encoding.Encoding.TheVariants.{Steim1, Steim2}
use Rattle.mseed_pack.specs.declared.payloads.Payloads.{Payloads}
use Rattle.mseed_pack.specs.declared.series_view.SeriesView.{SeriesView}
use Rattle.mseed_pack.specs.Fitting.{Fits, IsDifferenceOf, IsSampleOf}
use Rattle.mseed_pack.specs.Options.{IsSteim}
use Rattle.mseed_pack.specs.Stretches.{differences}
use Rattle.mseed_pack.specs.Supplies.{SuppliesFitting}
use Rattle.mseed_pack.specs.Traces.{headed, trace_of}
use Rattle.mseed_pack.specs.private.Filling.{AreBegun, GoOnAt, GoesOn, GoesOnIn, StandsInList, width_of}
use Rattle.mseed_pack.specs.declared.batch.PackedSoFar.{PackedSoFar}
use Rattle.mseed_pack.specs.private.Spans.{CanBegin, CanGoOn, StandsAt}
use Rattle.mseed_pack.proofs.Filled.{scheme_fits}

begun : {S : Type 0} (supplies : S → List ℤ → ℕ → Type 0) (f : Frames) (supply : S) (scheme : Scheme) (xs : List ℤ)
    → supplies supply xs 0 → length xs < 2 ^ 64 → AreBegun f (get_or xs 0 (pos 0)) → All (IsWithin 32) xs
    → All (IsWithin (width_of scheme)) (differences xs) → GoesOn supplies f supply scheme xs 0
begun supplies f supply scheme xs supplied few begins fit differences_fit =
    record {
      draws = record {
        held = begins.held xs refl;
        supplied = rw begins.high supplied;
        low = omega (arith, begins.low);
        high = omega (arith, begins.high);
      };
      before = begins.before;
      ahead = record { fit = fit; differences_fit = differences_fit; known = begins.known scheme (differences xs) };
      few = few;
    }

pub frames_begun : {S : Type 0} (supplies : S → List ℤ → ℕ → Type 0) (f : Frames) (supply : S) (e : Encoding)
    (xs : List ℤ) → IsSteim e → supplies supply xs 0 → length xs < 2 ^ 64 → AreBegun f (get_or xs 0 (pos 0))
    → All (IsSampleOf e) xs → All (IsDifferenceOf e) (differences xs) → GoesOnIn supplies f supply e xs 0
frames_begun supplies f supply Steim1 xs steim = begun supplies f supply One xs
frames_begun supplies f supply Steim2 xs steim = begun supplies f supply Two xs
frames_begun supplies f supply e xs steim = absurd steim

-- differences that either Steim holds have 32 bits
pub steim_fits : (e : Encoding) (ds : List ℤ) → IsSteim e → All (IsDifferenceOf e) ds → All (IsWithin 32) ds
steim_fits Steim1 ds steim fits = fits
steim_fits Steim2 ds steim fits = scheme_fits Two ds fits
steim_fits e ds steim fits = absurd steim

-- whatever comes, payloads go on at its first sample
pub list_begun : (p : Payloads) (e : Encoding) (xs : List ℤ)
    → ((scheme : Scheme) (ds : List ℤ) → IsLookahead scheme p.known ds) → All (IsSampleOf e) xs
    → All (IsDifferenceOf e) (differences xs) → GoOnAt p e xs 0
list_begun p Steim1 xs new fit differences_fit =
    record { fit = fit; differences_fit = differences_fit; known = new One (differences xs) }
list_begun p Steim2 xs new fit differences_fit =
    record { fit = fit; differences_fit = differences_fit; known = new Two (differences xs) }
list_begun p e xs new fit differences_fit = fit

-- one that was begun goes on
pub go_on : {F S : Type 0} {stands : F → S → Encoding → List ℤ → ℕ → Type 0} {job : Job} {filler : F} {supply : S}
    {place : PackedSoFar} {xs : List ℤ} → length xs ≡ job.head.now.count → Fits (headed job.head.now xs) job.options.now
    → StandsAt job.head.now.steps.now job.head.now.count place → place.first < job.head.now.count
    → stands filler supply job.options.now.encoding xs place.first → CanGoOn stands job filler supply place xs
go_on count fits standing more there =
    record { count = count; fits = fits; standing = standing; more = more; stands_there = there }

-- a series where it lies
pub series_begins : (p : Payloads) (list : Bor (List ℤ)) (job : Job) (view : SeriesView)
    → headed job.head.now view.samples.now ≡ trace_of view → job.head.now.count ≡ length view.samples.now
    → Fits (trace_of view) job.options.now → list.now ≡ view.samples.now
    → ((scheme : Scheme) (ds : List ℤ) → IsLookahead scheme p.known ds)
    → CanBegin StandsInList job p list view.samples.now
series_begins p list job view trace count fits same new = record {
  count = sym count;
  fits = rw trace fits;
  stands_first = (same, list_begun p job.options.now.encoding view.samples.now new fits.samples fits.differences_fit);
}

-- one that comes from a supply
pub supply_begins : {S : Type 0} (supplies : S → List ℤ → ℕ → Type 0) (f : Frames) (supply : S) (job : Job)
    (xs : List ℤ) → IsSteim job.options.now.encoding
    → SuppliesFitting supplies supply job.head.now job.options.now xs → job.head.now.count < 2 ^ 64
    → FitsSigned w32 job.head.now.first → AreBegun f (to_z w32 (of_z w32 job.head.now.first))
    → CanBegin (λ g s e ys n. GoesOnIn supplies g s e ys n) job f supply xs
supply_begins supplies f supply job xs steim h few signed begins =
    record {
      count = h.count;
      fits = h.fits;
      stands_first = frames_begun supplies f supply job.options.now.encoding xs steim h.supplied
          (omega (arith, h.count, few)) (rw h.first (rw (to_z-of_z w32 job.head.now.first signed) at begins))
          h.fits.samples h.fits.differences_fit;
    }

-- what is so of an answer for each list of samples
pub ok_each : {T E X : Type 0} (r : Result T E) (A : X → Type 0) (P : T → X → Type 0)
    → ((x : X) → A x → IfOk r (λ t. P t x)) → IfOk r (λ t. (x : X) → A x → P t x)
ok_each (Ok t) A P h = h
ok_each (Err e) A P h = tt

pub err_each : {T E X : Type 0} (r : Result T E) (A : X → Type 0) (P : E → X → Type 0)
    → ((x : X) → A x → IfErr r (λ e. P e x)) → IfErr r (λ e. (x : X) → A x → P e x)
err_each (Ok t) A P h = tt
err_each (Err e) A P h = h
