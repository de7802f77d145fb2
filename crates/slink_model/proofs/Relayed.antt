-- What comes of a packing that is sent through a schedule.
use Rattle.slink_model.proofs.Pushed.{by_index, in_turn, one_at_most, pushes}
use Rattle.std.proofs.Common.{◌≡◌, All, ◌≢◌, ℕ, ◌-◌, ◌*◌, ◌/◌, ◌^◌, ◌<◌, ◌≤◌, inl, inr, zero, suc, refl, sym, ap}
use Rattle.std.proofs.Common.{subst, ◌∙◌, arith, List, [], ◌∷◌, ◌++◌, append_assoc, append-nil, length, length-append}
use Rattle.std.proofs.Common.{map, take, drop, get_or, true, false, Option, Some, None, Result, Ok, Err, IfOk}
use Rattle.std.proofs.Common.{IfErr, slice_get, slice_range, ◌==◌}
use Rattle.std.specs.List.{AllByRecursion, concat}
use Rattle.std.specs.Simd.{first_chunks}
use Rattle.std.proofs.Math.Nat.{mul-div_cancel_left}
use Rattle.std.proofs.lemmas.List.{drop_at, take_at}
use Rattle.std.proofs.lemmas.List.{length-drop, length-take-le, nil_from_length}
use Rattle.std.proofs.lemmas.Bool.Decides.{eqb_tells}
use Rattle.mseed_record.specs.Header.{key_at}
use Rattle.mseed_record.specs.Record.{IsRecord}
use Rattle.mseed_record.specs.View.{View, IsView}
use Rattle.mseed_audit.specs.declared.assembly.NotContinuous.{NotContinuous}
use Rattle.mseed_audit.specs.declared.assembly.NotContinuous.TheVariants.{Memory}
use Rattle.mseed_audit.specs.Channels.{added_from, records_of}
use Rattle.mseed_audit.specs.Series.{Trace, IsSeries, IsSeriesOf}
use Rattle.mseed_pack.specs.ReadBack.{AreViewsOf, IsAssembled, IsPartOf, ReadsAs}
use Rattle.slink_wire.specs.Place.{Bears, Fields}
use Rattle.slink_model.specs.declared.world.Setup.{Setup}
use Rattle.slink_model.specs.declared.world.Step.{Step}
use Rattle.slink_model.specs.declared.world.Step.TheVariants.{Append, Send}
use Rattle.slink_model.specs.Pushed.{appended, appended_by}
use Rattle.slink_model.specs.Ties.{Holds}
use Rattle.slink_feed.specs.Dialogue.{next_at}
use Rattle.slink_model.specs.Slice.{HoldsSlices}
use Rattle.slink_model.specs.World.{AllHappen, IsOf, WorldState, number_at, opening}
use Rattle.slink_model.specs.Relay.{ComesThrough, IsHeldAs, IsOfChannel, IsOfOne, IsRelay, IsRelayable, fed}
use Rattle.mseed_pack.specs.declared.options.Options.{Options}
use Rattle.mseed_pack.specs.Fitting.{Fits}
use Rattle.mseed_pack.specs.Packing.{IsPacking}
use Rattle.slink_model.specs.declared.relaying.RelayFault.{RelayFault}
use Rattle.slink_model.specs.declared.relaying.RelayFault.TheVariants as faults
use Rattle.slink_model.specs.private.Relaying.{IsAmong, IsOfRecords, IsPackedAs}

-- records of one length, cut out of their bytes
long_as : (rs : List (List ℕ)) → AllByRecursion (λ (r : List ℕ). length r ≡ 512) rs
    → length (concat rs) ≡ 512 * length rs
long_as [] h = refl
long_as (r ∷ rs) h =
    let first : length r ≡ 512 = h.0 in
    omega (arith, first, long_as rs h.1, length-append r (concat rs))

cut_at : (rs : List (List ℕ)) → AllByRecursion (λ (r : List ℕ). length r ≡ 512) rs
    → first_chunks 512 (length rs) (concat rs) ≡ rs
cut_at [] h = refl
cut_at (r ∷ rs) h = rw (take_at r (concat rs) 512 h.0, drop_at r (concat rs) 512 h.0, cut_at rs h.1) refl

pub cut : (rs : List (List ℕ)) (bytes : List ℕ) → AllByRecursion (λ (r : List ℕ). length r ≡ 512) rs
    → bytes ≡ concat rs → first_chunks 512 (length bytes / 512) bytes ≡ rs
cut rs bytes h e =
    let count : length bytes / 512 ≡ length rs = ap (λ (n : ℕ). n / 512) (ap length e ∙ long_as rs h)
    ∙ mul-div_cancel_left (length rs) (omega arith) in
    ap (λ (n : ℕ). first_chunks 512 n bytes) count ∙ (ap (first_chunks 512 (length rs)) e ∙ cut_at rs h)

part_long : (xs : List ℕ) (i j : ℕ) → i ≤ j → j ≤ length xs → length (slice_range xs i j) ≡ j - i
part_long xs i j low high = length-take-le (j - i) (drop i xs) (omega (arith, low, high, length-drop i xs))

-- A key's first bytes are the network's, and the next the station's.
carries_key : (b codes : List ℕ) (place : Fields) → length b ≡ 512 → key_at b ≡ codes
    → place.network ≡ slice_range codes 0 2 → place.station ≡ slice_range codes 2 7 → Bears b place
carries_key b codes place long key network station =
    let net : List ℕ = slice_range b 18 20 in
    let sta : List ℕ = slice_range b 8 13 in
    let rest : List ℕ = slice_range b 13 15 ++ slice_range b 15 18 in
    let two : length net ≡ 2 = part_long b 18 20 (omega arith) (omega (arith, long)) in
    let five : length sta ≡ 5 = part_long b 8 13 (omega arith) (omega (arith, long)) in
    let nested : codes ≡ net ++ (sta ++ rest) = sym key
    ∙ (append_assoc (net ++ sta) (slice_range b 13 15) (slice_range b 15 18) ∙ append_assoc net sta rest) in
    let after : slice_range (net ++ (sta ++ rest)) 2 7 ≡ sta =
    ap (take 5) (drop_at net (sta ++ rest) 2 two) ∙ take_at sta rest 5 five in (
      sym (station ∙ (ap (λ (k : List ℕ). slice_range k 2 7) nested ∙ after)),
      sym (network ∙ (ap (λ (k : List ℕ). slice_range k 0 2) nested ∙ take_at net (sta ++ rest) 2 two)),
    )

-- each record of the packing carries the schedule's station
abbrev pub AllBear : Fields → List (List ℕ) → Type 0
AllBear place rs = AllByRecursion (λ (r : List ℕ). Bears r place) rs

carried_of : (s : Trace) (setup : Setup) (of : IsOfChannel setup s.codes) (vs : List View)
    → AllByRecursion (λ (r : List ℕ). length r ≡ 512) (map (λ (v : View). v.bytes) vs)
    → AllByRecursion (λ (v : View). key_at v.bytes ≡ s.codes) vs → AllBear of.place (map (λ (v : View). v.bytes) vs)
carried_of s setup of [] long keys = tt
carried_of s setup of (v ∷ vs) long keys =
    (carries_key v.bytes s.codes of.place long.0 keys.0 of.network of.station, carried_of s setup of vs long.1 keys.1)

pub bear : (s : Trace) (setup : Setup) (of : IsOfChannel setup s.codes) (rs : List (List ℕ)) (vs : List View)
    → AreViewsOf rs vs → AllByRecursion (λ (r : List ℕ). length r ≡ 512) rs
    → AllByRecursion (λ (v : View). key_at v.bytes ≡ s.codes) vs → AllBear of.place rs
bear s setup of rs vs are long keys =
    subst (AllBear of.place) are.bytes
    (carried_of s setup of vs (rw (← are.bytes) at long) keys)

-- The steps that are fed are of the station.
is_at : (place : Fields) (first : Option ℕ) (k : ℕ) → k < 1
    → slice_get {X = Fields × Option ℕ} ((place, first) ∷ []) k ≡ Some (place, first)
is_at place first zero lt = refl
is_at place first (suc k) lt = absurd (omega (arith, lt))

fed_of : (place : Fields) (first : Option ℕ) (steps : List Step) (rs : List (List ℕ)) → AllByRecursion IsOfOne steps
    → AllBear place rs → AllByRecursion (IsOf ((place, first) ∷ [])) (fed steps rs)
fed_of place first [] rs of bears = tt
fed_of place first (Append k b ∷ steps) [] of bears = fed_of place first steps [] of.1 tt
fed_of place first (Append k b ∷ steps) (r ∷ rs) of bears =
    (((place, first), is_at place first k of.0, bears.0), fed_of place first steps rs of.1 bears.1)
fed_of place first (Send k ∷ steps) rs of bears = (of.0, fed_of place first steps rs of.1 bears)
fed_of place first (step ∷ steps) rs of bears = (tt, fed_of place first steps rs of.1 bears)

pub all_of : (setup : Setup) (codes : List ℕ) (of : IsOfChannel setup codes) (steps : List Step) (rs : List (List ℕ))
    → All IsOfOne steps → AllBear of.place rs → All (IsOf setup.places.items) (fed steps rs)
all_of setup codes of steps rs one bears =
    by_index (IsOf setup.places.items) (fed steps rs)
    (rw (← of.places) at (fed_of of.place of.first steps rs (in_turn IsOfOne steps one) bears))

pub fewer : (steps : List Step) (rs : List (List ℕ)) → length (fed steps rs) ≤ length steps
fewer [] rs = omega arith
fewer (Append k b ∷ steps) [] = omega (arith, fewer steps [])
fewer (Append k b ∷ steps) (r ∷ rs) = omega (arith, fewer steps rs)
fewer (step ∷ steps) rs = omega (arith, fewer steps rs)

-- what is pushed are the first of the records
here : (k : ℕ) (b : List ℕ) → k < 1 → appended_by 0 (Append k b) ≡ b ∷ []
here zero b lt = refl
here (suc k) b lt = absurd (omega (arith, lt))

pub prefix : (steps : List Step) (rs : List (List ℕ)) → AllByRecursion IsOfOne steps
    → (rest : List (List ℕ)) × (rs ≡ appended 0 (fed steps rs) ++ rest)
prefix [] rs of = (rs, refl)
prefix (Append k b ∷ steps) [] of = prefix steps [] of.1
prefix (Append k b ∷ steps) (r ∷ rs) of =
    let more = prefix steps rs of.1 in (
      more.0,
      ap (λ (qs : List (List ℕ)). r ∷ qs) more.1
          ∙ ap (λ (qs : List (List ℕ)). (qs ++ appended 0 (fed steps rs)) ++ more.0) (sym (here k r of.0)),
    )
prefix (step ∷ steps) rs of = prefix steps rs of.1

-- what is held are some of them, one after another
pub record Between (rs held : List (List ℕ)) : Type 0 where
  pub before : List (List ℕ)
  pub after : List (List ℕ)
  pub is : rs ≡ before ++ (held ++ after)

slice : (first : ℕ) (pushed held : List (List ℕ)) (next start : Option ℕ) → Holds first pushed next held start
    → Between pushed held
slice first pushed held next None h =
    record { before = []; after = pushed; is = ap (λ (hs : List (List ℕ)). hs ++ pushed) (sym h) }
slice first pushed held next (Some n) h = record { before = h.0; after = h.1; is = h.2 }

pub between : (rs pushed held : List (List ℕ)) (steps : List Step) (first : ℕ) (next start : Option ℕ)
    → AllByRecursion IsOfOne steps → pushed ≡ appended 0 (fed steps rs) → Holds first pushed next held start
    → Between rs held
between rs pushed held steps first next start of is h =
    let part = slice first pushed held next start h in
    let whole = prefix steps rs of in
    record {
      before = part.before;
      after = part.after ++ whole.0;
      is = whole.1 ∙ (ap (λ (qs : List (List ℕ)). qs ++ whole.0) (sym is ∙ part.is)
          ∙ (append_assoc part.before (held ++ part.after) whole.0
          ∙ ap (λ (qs : List (List ℕ)). part.before ++ qs) (append_assoc held part.after whole.0)));
    }

-- they are no more than the steps
appended_few : (steps : List Step) → length (appended 0 steps) ≤ length steps
appended_few [] = omega arith
appended_few (Append k b ∷ steps) = omega (
  arith,
  appended_few steps,
  one_at_most 0 (Append k b),
  length-append (appended_by 0 (Append k b)) (appended 0 steps),
)
appended_few (step ∷ steps) = omega (arith, appended_few steps)

pub held_few : (pushed held : List (List ℕ)) (steps : List Step) (first : ℕ) (next start : Option ℕ)
    → pushed ≡ appended 0 steps → Holds first pushed next held start → length held ≤ length steps
held_few pushed held steps first next start is h =
    let part = slice first pushed held next start h in
    omega (
      arith,
      appended_few steps,
      ap length is,
      ap length part.is,
      length-append part.before (held ++ part.after),
      length-append held part.after,
    )

-- records that have views are records
pub are_records : (rs : List (List ℕ)) (vs : List View) → AreViewsOf rs vs → All IsRecord rs
are_records rs vs are = by_index IsRecord rs (subst (AllByRecursion IsRecord) are.bytes (each vs are.each))
  where
    each : (us : List View) → AllByRecursion IsView us → AllByRecursion IsRecord (map (λ (v : View). v.bytes) us)
    each [] h = tt
    each (u ∷ us) h = ((u.order, (h.0.0, (h.0.1.0, h.0.1.1.1.record_is))), each us h.1)

-- what the laws of packing say of a slice
abbrev pub HaveViews : Type 0
HaveViews = (s : Trace) (before held after : List (List ℕ)) → ReadsAs s (before ++ (held ++ after))
    → (views : List View) × AreViewsOf held views

abbrev pub AreAssembled : Type 0
AreAssembled = (s : Trace) (before held after : List (List ℕ)) (views : List View)
    (answer : Result Trace NotContinuous) → ReadsAs s (before ++ (held ++ after)) → AreViewsOf held views
    → held ≢ [] → IsSeries answer (records_of s.codes (added_from 0 views)) → IsAssembled answer views

abbrev pub AreParts : Type 0
AreParts = (s part : Trace) (before held after : List (List ℕ)) (views : List View)
    → ReadsAs s (before ++ (held ++ after)) → AreViewsOf held views → IsSeriesOf part views
    → IsPartOf s before after part

reads_parts : (s : Trace) (records held : List (List ℕ)) (among : IsAmong s records held)
    → ReadsAs s (among.0 ++ (held ++ among.1))
reads_parts s records held among = subst (ReadsAs s) among.2 among.3

pub records_among : HaveViews → (s : Trace) (records held : List (List ℕ)) → IsAmong s records held → All IsRecord held
records_among have s records held among =
    let viewed = have s among.0 held among.1 (reads_parts s records held among) in
    are_records held viewed.0 viewed.1

pub part_held : AreAssembled → AreParts → (s t : Trace) (records held : List (List ℕ)) → held ≢ []
    → IsAmong s records held → IsOfRecords (Ok t) s.codes held → IsHeldAs (Some t) s records held
part_held assembled parts s t records held some among (inl e) =
    absurd (let bad : ◌≡◌ {A = Result Trace NotContinuous} (Ok t) (Err Memory) = e in cc bad)
part_held assembled parts s t records held some among (inr is) =
    let reads = reads_parts s records held among in
    let both = assembled s among.0 held among.1 is.views (Ok t) reads is.are_views some is.series in
    record {
      before = among.0;
      after = among.1;
      records_are = among.2;
      some = some;
      views = is.views;
      are_views = is.are_views;
      continuous = both.0;
      series = both.1;
      part = parts s t among.0 held among.1 is.views reads is.are_views both.1;
    }

pub empty_is : (xs : List (List ℕ)) → true ≡ (length xs == 0) → xs ≡ []
empty_is xs h = elim (eqb_tells (length xs) 0) [
  | inl same ↦ nil_from_length xs same.1
  | inr other ↦ absurd (let bad : true ≡ false = h ∙ other.0 in cc bad)
]

pub some_are : (xs : List (List ℕ)) → false ≡ (length xs == 0) → xs ≢ []
some_are xs h none =
    absurd (let bad : false ≡ true = h ∙ ap (λ (ys : List (List ℕ)). length ys == 0) none in cc bad)

-- the steps that are fed
long_reported : (rs : List (List ℕ)) → ((i : ℕ) → i < length rs → length (get_or rs i []) ≡ 512)
    → AllByRecursion (λ (r : List ℕ). length r ≡ 512) rs
long_reported [] reported = tt
long_reported (r ∷ rs) reported = (
  reported 0 (omega arith),
  long_reported rs
      (λ i lt. reported (suc i) (omega (arith, lt))),
)

abbrev pub SayKeys : Type 0
SayKeys = (s : Trace) (before held after : List (List ℕ)) (views : List View) → ReadsAs s (before ++ (held ++ after))
    → AreViewsOf held views
    → AllByRecursion (λ (v : View). key_at v.bytes ≡ s.codes) views

-- the steps that are fed are of the station, and few
pub record IsFed (setup : Setup) (all : List Step) : Type 0 where
  pub few : length all < 2 ^ 24
  pub of_places : All (IsOf setup.places.items) all

pub fed_is : SayKeys → (s : Trace) (setup : Setup) (steps : List Step) (rs : List (List ℕ)) (all : List Step)
    → IsRelayable setup s.codes steps → ReadsAs s rs → ((i : ℕ) → i < length rs → length (get_or rs i []) ≡ 512)
    → all ≡ fed steps rs → IsFed setup all
fed_is say s setup steps rs all relayable reads reported is =
    let long = long_reported rs reported in
    let keys = say s [] rs [] reads.views (subst (ReadsAs s) (sym (append-nil rs)) reads) reads.are_views in
    let few : length (fed steps rs) ≤ length steps = fewer steps rs in
    record {
      few = omega (arith, relayable.few, few, ap length is);
      of_places = subst (All (IsOf setup.places.items)) (sym is)
          (all_of setup s.codes relayable.channel steps rs relayable.each
          (bear s setup relayable.channel rs reads.views reads.are_views long keys));
    }

-- what is held of the one station
holds_first : (setup : Setup) (codes : List ℕ) → IsOfChannel setup codes → (w : WorldState)
    → HoldsSlices setup.places.items setup.first w
    → Holds setup.first (get_or w.pushed 0 []) (next_at w.client.talk.wants 0) (get_or w.held 0 [])
    (number_at w.start 0)
holds_first setup codes of w holds = holds.slice 0 (let e : length setup.places.items ≡ 1 = ap length of.places in
    omega (arith, e))

-- Some of the records are held, and few.
pub held_is : SayKeys → (s : Trace) (setup : Setup) (steps : List Step) (rs : List (List ℕ)) (all : List Step)
    (w : WorldState) (held : List (List ℕ)) → IsRelayable setup s.codes steps → ReadsAs s rs
    → ((i : ℕ) → i < length rs → length (get_or rs i []) ≡ 512) → all ≡ fed steps rs → AllHappen (opening setup) all w
    → (AllHappen (opening setup) all w → length all < 2 ^ 24 → HoldsSlices setup.places.items setup.first w)
    → held ≡ get_or w.held 0 [] → IsAmong s rs held × (length held < 2 ^ 24)
held_is say s setup steps rs all w held relayable reads reported is run brief same =
    let known = fed_is say s setup steps rs all relayable reads reported is in
    let pushed : get_or w.pushed 0 [] ≡ appended 0 all = pushes setup all w run known.of_places 0 in
    let first = holds_first setup s.codes relayable.channel w (brief run known.few) in
    let cut = between rs _ _ _ _ _ _ (in_turn IsOfOne steps relayable.each) (pushed ∙ ap (appended 0) is) first in
    let few : length (get_or w.held 0 []) ≤ length all = held_few _ _ all _ _ _ pushed first in (
      (cut.before, cut.after, cut.is ∙ ap (λ (hs : List (List ℕ)). cut.before ++ (hs ++ cut.after)) (sym same), reads),
      omega (arith, known.few, few, ap length same),
    )

pub came : (s : Trace) (setup : Setup) (steps : List Step) (rs : List (List ℕ)) (all : List Step) (w : WorldState)
    (held : List (List ℕ)) (t : Option Trace) → all ≡ fed steps rs → AllHappen (opening setup) all w
    → held ≡ get_or w.held 0 []
    → IsHeldAs t s rs held → ComesThrough t s setup steps rs
came s setup steps rs all w held t is run same h = (
  w,
  subst (λ (ss : List Step). AllHappen (opening setup) ss w) is run,
  subst (λ (hs : List (List ℕ)). IsHeldAs t s rs hs) same h,
)

-- the packed bytes, cut into records
abbrev pub AreOfOneLength : Type 0
AreOfOneLength = (s : Trace) (o : Options) (records : List (List ℕ)) → IsPacking s o records
    → AllByRecursion (λ (r : List ℕ). length r ≡ 2 ^ o.exponent) records

pub cut_out : AreOfOneLength → (s : Trace) (o : Options) (bytes : List ℕ) (rs : List (List ℕ)) → o.exponent ≡ 9
    → (packed : IsPackedAs s o bytes) → rs ≡ first_chunks 512 (length bytes / 512) bytes → rs ≡ packed.records
cut_out one s o bytes rs nine packed is =
    let long = rw nine at (one s o packed.records packed.packing) in
    is ∙ cut packed.records bytes long packed.bytes_are

-- by the answer of the schedule
pub relayed : (s : Trace) (o : Options) (setup : Setup) (steps : List Step) (rs : List (List ℕ))
    (answer : Result (Option Trace) RelayFault) → Fits s o → IsPacking s o rs
    → IfOk answer (λ t. ComesThrough t s setup steps rs) → IfErr answer (λ fault. fault ≡ faults.Memory)
    → IsRelay answer s o setup steps
relayed s o setup steps rs (Ok t) fits packing ok err = (rs, packing, ok)
relayed s o setup steps rs (Err faults.Memory) fits packing ok err = fits
relayed s o setup steps rs (Err (faults.Pack fault)) fits packing ok err =
    absurd (let bad : faults.Pack fault ≡ faults.Memory = err in cc bad)
