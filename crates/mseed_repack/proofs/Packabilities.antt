-- What is found of the channels of an archive, one after another.
use Rattle.std.proofs.Common.{◌≡◌, ℕ, zero, suc, ◌+◌, ◌<◌, ◌≤◌, List, [], ◌∷◌, ◌++◌, length, take, get_or}
use Rattle.std.proofs.Common.{refl, sym, ap, subst, ◌∙◌, arith, append_assoc, append-nil, All, Bool, true, false}
use Rattle.std.specs.List.{AllByRecursion}
use Rattle.std.proofs.lemmas.List.{get_or_default, take_all}
use Rattle.std.proofs.lemmas.List.Elements.{All-from_recursion, recursion_from_All}
use Rattle.mseed_record.specs.View.{View}
use Rattle.mseed_stream.specs.Device.{BytesWritten}
use Rattle.mseed_stream.specs.LineWritten.{WritesLine}
use Rattle.mseed_audit.specs.Channels.{Placed, added_from, channel_in as placed_in}
use Rattle.mseed_audit.specs.Follows.{IsSound}
use Rattle.mseed_audit.specs.Verdict.{AreVerdicts, says_continuous}
use Rattle.mseed_audit.specs.declared.finding.Finding.{Finding}
use Rattle.mseed_audit.proofs.Following.{views_are}
use Rattle.mseed_steim.specs.declared.encoding.Encoding.{Encoding}
use Rattle.mseed_pack.specs.declared.options.Options.{Options}
use Rattle.mseed_pack.specs.declared.fault.PackFault.{PackFault}
use Rattle.mseed_repack.specs.Repack.{Channel, IsFirst, Wrote, records_in}
use Rattle.mseed_repack.specs.ByStretches.{AreFound, ArePackabilities, IsFit, ReportsEach}
use Rattle.mseed_repack.specs.ByStretches.{AreReported, AreReportsOf, IsFirstOwn, IsReportOf, WroteKept}
use Rattle.mseed_repack.specs.ByStretches.{also, kept_of, silent}
use Rattle.mseed_repack.specs.private.Planning.{IsPackabilityAs}
use Rattle.mseed_repack.specs.private.Reading.{channel_in, steps_of}
use Rattle.mseed_repack.specs.private.Restretching.{IsFirstRefused, IsUnbroken}
use Rattle.mseed_repack.specs.declared.packability.Packability.{Packability}
use Rattle.mseed_repack.specs.declared.packability.Packability.TheVariants.{Fit, Broken, Misfit}
use Rattle.mseed_repack.specs.declared.stretching.Cutting.{Cutting}
use Rattle.mseed_repack.specs.declared.fault.RepackFault.TheVariants.{Broken as BrokenChannel}
use Rattle.mseed_repack.specs.declared.fault.RepackFault.TheVariants.{Misfit as MisfitStretch}
use Rattle.mseed_repack.proofs.ReadChannels.{steps_in}
use Rattle.mseed_repack.proofs.Repacks.{first_at, says_of}

pub as_many : (Is : List View → Packability → Type 0) (views : List View) (cs : List Channel) (ss : List Packability)
    → AreFound Is views cs ss → length ss ≡ length cs
as_many Is views [] [] all = refl
as_many Is views (d ∷ ds) (t ∷ ts) all = ap suc (as_many Is views ds ts all.1)
as_many Is views cs ss all = absurd all

pub stands_at : (Is : List View → Packability → Type 0) (views : List View) (cs : List Channel) (ss : List Packability)
    (k : ℕ) (c : Channel) (s : Packability) → AreFound Is views cs ss → k < length cs → c ≡ get_or cs k c
    → s ≡ get_or ss k s → Is (records_in views c.0) s
stands_at Is views [] ss k c s all lt at is = absurd (omega (arith, lt))
stands_at Is views (d ∷ ds) [] k c s all lt at is = absurd all
stands_at Is views (d ∷ ds) (t ∷ ts) zero c s all lt at is = grind (arith)
stands_at Is views (d ∷ ds) (t ∷ ts) (suc k) c s all lt at is =
    stands_at Is views ds ts k c s all.1 (omega (arith, lt)) at is

-- the first of them
found_take : (Is : List View → Packability → Type 0) (views : List View) (cs : List Channel) (ss : List Packability)
    (k : ℕ) → AreFound Is views cs ss → AreFound Is views (take k cs) (take k ss)
found_take Is views cs ss zero all = tt
found_take Is views [] [] (suc k) all = tt
found_take Is views (c ∷ cs) (s ∷ ss) (suc k) all = (all.0, found_take Is views cs ss k all.1)
found_take Is views cs ss (suc k) all = absurd all

-- what is so of the records of a channel of which such is found is so of those of each channel
pub each_found : (Is : List View → Packability → Type 0) (Such : Packability → Type 0) (So : List View → Type 0)
    → ((vs : List View) (s : Packability) → Is vs s → Such s → So vs) → (views : List View) (cs : List Channel)
    (ss : List Packability) → AreFound Is views cs ss → AllByRecursion Such ss
    → AllByRecursion (λ (c : Channel). So (records_in views c.0)) cs
each_found Is Such So one views [] ss all such = tt
each_found Is Such So one views (c ∷ cs) [] all such = absurd all
each_found Is Such So one views (c ∷ cs) (s ∷ ss) all such =
    grind (arith, each_found Is Such So one views cs ss all.1 such.1)

pub first_found : (Is : List View → Packability → Type 0) (Such : Packability → Type 0) (So : List View → Type 0)
    → ((vs : List View) (s : Packability) → Is vs s → Such s → So vs) → (views : List View) (cs : List Channel)
    (ss : List Packability) (k : ℕ) → AreFound Is views cs ss → All Such (take k ss)
    → All (λ (c : Channel). So (records_in views c.0)) (take k cs)
first_found Is Such So one views cs ss k all such =
    All-from_recursion (λ (c : Channel). So (records_in views c.0)) (take k cs)
    (each_found Is Such So one views (take k cs) (take k ss) (found_take Is views cs ss k all)
    (recursion_from_All Such (take k ss) such))

-- room

-- the records of a continuous channel are sound, and a channel bears no more leap seconds than all records

pub sound_by : (views : List View) (cs : List Channel) (i : ℕ) (c : Channel) (b : Bool) (vs : List View)
    → AreVerdicts (added_from 0 views) cs → i < length cs → c ≡ get_or cs i c → b ≡ says_continuous c.1
    → vs ≡ channel_in c.0 views → b ≡ true → AllByRecursion IsSound vs
sound_by views cs i c b vs are lt is of e sound =
    subst (λ (us : List View). AllByRecursion IsSound us)
    (sym (e ∙ sym (views_are c.0 views) ∙ ap (λ (d : Channel). records_in views d.0) is))
    ((says_of views cs i c b are lt is of).0 sound).each

pub steps_gathered : (key : List ℕ) (vs views : List View) (room : ℕ) → vs ≡ channel_in key views
    → steps_of views ≤ room → steps_of vs ≤ room
steps_gathered key vs views room h h2 = grind (arith, steps_in)

-- what was written of the channels that fit, and reported of the others
pub wrote_kept : {P : List Channel → List ℕ → Type 0} {failures : ℕ} {o : Options} {leave : Bool}
    {views : List View} {cs : List Channel} {ss : List Packability} {old new reported_old reported_new : BytesWritten}
    → ArePackabilities o views cs ss → (leave ≡ false → AllByRecursion IsFit ss)
    → AreReported o.encoding cs ss reported_old reported_new → Wrote (P (kept_of cs ss)) failures old new
    → WroteKept P failures o leave views cs ss old new reported_old reported_new
wrote_kept are whole reported wrote = record { are = are; whole = whole; reported = reported; wrote = wrote }

-- channels of which none is broken, and of which each fits

sound_by_packability : (cutting : Cutting) (o : Options) (vs : List View) (s : Packability)
    → IsPackabilityAs cutting o vs s → IsUnbroken s → AllByRecursion IsSound vs
sound_by_packability cutting o vs s h h2 = grind (arith)

pub fits_by_packability : (Is : List View → Packability → Type 0) (vs : List View) (s : Packability) → Is vs s → IsFit s
    → Is vs Fit
fits_by_packability Is vs s is fit = subst (Is vs) fit is

-- a channel that isn't broken, and has no stretch that doesn't fit, fits
pub fits_else : (s : Packability) → IsUnbroken s → ((n : ℕ) (f : PackFault) → s ≡ Misfit n f → ⊥) → IsFit s
fits_else s h h2 = grind (arith)

-- what is said of each channel that is broken
unsound_by : (cutting : Cutting) (o : Options) (vs : List View) (s : Packability) → IsPackabilityAs cutting o vs s
    → s ≡ Broken → ¬ (AllByRecursion IsSound vs)
unsound_by cutting o vs s h h2 = grind (arith)

pub unsound_at : (cutting : Cutting) (o : Options) (views : List View) (cs : List Channel) (ss : List Packability)
    (k : ℕ) (c : Channel) → AreFound (IsPackabilityAs cutting o) views cs ss → k < length cs → length ss ≡ length cs
    → c ≡ get_or cs k c → get_or ss k Fit ≡ Broken → ¬ (AllByRecursion IsSound (records_in views c.0))
unsound_at cutting o views cs ss k c all lt size at broken =
    let inside : k < length ss = omega (arith, lt, size) in
    unsound_by cutting o _ Broken (stands_at (IsPackabilityAs cutting o) views cs ss k c Broken all lt at
    (sym broken ∙ get_or_default ss k Fit Broken inside)) refl

-- the first channel of which such is found, behind others of which other things are
first_kind : (Is : List View → Packability → Type 0) (Such : Packability → Type 0) (So At : List View → Type 0)
    (s : Packability) → ((vs : List View) (t : Packability) → Is vs t → Such t → So vs)
    → ((vs : List View) → Is vs s → At vs) → (views : List View) (cs : List Channel) (ss : List Packability) (k : ℕ)
    (c : Channel) → k < length ss → length ss ≡ length cs → c ≡ get_or cs k c → get_or ss k Fit ≡ s
    → All Such (take k ss) → AreFound Is views cs ss
    → IsFirst (λ key. So (records_in views key)) (λ key. At (records_in views key)) c.0 cs
first_kind Is Such So At s so kind views cs ss k c lt size at is before all =
    let less : k < length cs = omega (arith, lt, size) in
    let here = kind (records_in views c.0) (stands_at Is views cs ss k c s all less at
    (sym is ∙ get_or_default ss k Fit s lt)) in
    rw (sym (ap (λ (d : Channel). d.0) at)) at (first_at (λ key. So (records_in views key))
    (λ key. At (records_in views key)) cs k c less (first_found Is Such So so views cs ss k all before)
    (subst (λ (d : Channel). At (records_in views d.0)) at here))

-- the first broken channel is why an archive is refused
pub refused_broken : (cutting : Cutting) (o : Options) (ps : List Placed) (views : List View) (cs : List Channel)
    (ss : List Packability)
    (k : ℕ) (c : Channel) (first : Finding) → k < length ss → length ss ≡ length cs → c ≡ get_or cs k c
    → get_or ss k Fit ≡ Broken → All IsUnbroken (take k ss) → AreFound (IsPackabilityAs cutting o) views cs ss
    → IsFirstOwn (placed_in c.0 ps) first → IsFirstRefused cutting o ps views cs (BrokenChannel c.0 first)
refused_broken cutting o ps views cs ss k c first lt size at is before all own = (
  first_kind (IsPackabilityAs cutting o) IsUnbroken (AllByRecursion IsSound) (λ vs. ¬ (AllByRecursion IsSound vs))
      Broken (sound_by_packability cutting o) (λ vs broken. unsound_by cutting o vs Broken broken refl) views cs ss k c
      lt size at is before all,
  own,
)

-- or else the first that doesn't fit
pub refused_misfit : (cutting : Cutting) (o : Options) (ps : List Placed) (views : List View) (cs : List Channel)
    (ss : List Packability) (k n : ℕ) (fault : PackFault) (c : Channel) → k < length ss → length ss ≡ length cs
    → c ≡ get_or cs k c → get_or ss k Fit ≡ Misfit n fault → All IsUnbroken ss → All IsFit (take k ss)
    → AreFound (IsPackabilityAs cutting o) views cs ss
    → IsFirstRefused cutting o ps views cs (MisfitStretch c.0 n fault)
refused_misfit cutting o ps views cs ss k n fault c lt size at is un before all = (
  All-from_recursion (λ (d : Channel). AllByRecursion IsSound (records_in views d.0)) cs
      (each_found (IsPackabilityAs cutting o) IsUnbroken (AllByRecursion IsSound) (sound_by_packability cutting o) views
      cs ss all (recursion_from_All IsUnbroken ss un)),
  first_kind (IsPackabilityAs cutting o) IsFit (λ vs. IsPackabilityAs cutting o vs Fit)
      (λ vs. IsPackabilityAs cutting o vs (Misfit n fault)) (Misfit n fault)
      (fits_by_packability (IsPackabilityAs cutting o)) (λ vs misfit. misfit) views cs ss k c lt size at is before all,
)

-- what is reported of the channels so far, and of one more
reports_next : (e : Encoding) (cs : List Channel) (ss : List Packability) (k : ℕ) (c : Channel) (s : Packability)
    (lines own : List (List ℕ)) → k < length cs → length ss ≡ length cs → c ≡ get_or cs k c
    → AreReportsOf e (take k cs) (take k ss) lines → IsReportOf e c.0 (get_or ss k s) own
    → AreReportsOf e (take (k + 1) cs) (take (k + 1) ss) (lines ++ own)
reports_next e [] ss k c s lines own lt size at before one = absurd (omega (arith, lt))
reports_next e (d ∷ ds) [] k c s lines own lt size at before one = absurd (omega (arith, size))
reports_next e (d ∷ ds) (t ∷ ts) zero c s lines own lt size at before one = grind (arith, append-nil)
reports_next e (d ∷ ds) (t ∷ ts) (suc k) c s lines own lt size at (mine, (rest, (joined, here, others))) one =
    let later = reports_next e ds ts k c s rest own (omega (arith, lt)) (omega (arith, size)) at others one in
    let same : suc (k + 1) ≡ suc k + 1 = omega arith in
    subst (λ (n : ℕ). AreReportsOf e (take n (d ∷ ds)) (take n (t ∷ ts)) (lines ++ own)) same (
      mine,
      (
        rest ++ own,
        (ap (λ (ls : List (List ℕ)). ls ++ own) joined ∙ append_assoc mine rest own, here, later),
      ),
    )

-- lines that are reported after others
tells_append : (leading back : List (List ℕ)) (old between new : BytesWritten) → ReportsEach leading old between
    → ReportsEach back between new → ReportsEach (leading ++ back) old new
tells_append leading _ old _ _ a (silent s) = grind (arith, append-nil)
tells_append leading _ old between _ a (also lines line _ middle new b reported) =
    subst (λ (ls : List (List ℕ)). ReportsEach ls old new) (append_assoc leading lines (line ∷ []))
    (also (leading ++ lines) line old middle new (tells_append leading lines old between middle a b) reported)

pub tells_one : (line : List ℕ) (old new : BytesWritten) → WritesLine line old new → ReportsEach (line ∷ []) old new
tells_one line old new reported = also [] line old old new (silent old) reported

pub tells_next : (e : Encoding) (cs : List Channel) (ss : List Packability) (k : ℕ) (c : Channel) (s : Packability)
    (first old new : BytesWritten) → k < length cs → length ss ≡ length cs → c ≡ get_or cs k c
    → AreReported e (take k cs) (take k ss) first old
    → (lines : List (List ℕ)) × (IsReportOf e c.0 (get_or ss k s) lines × ReportsEach lines old new)
    → AreReported e (take (k + 1) cs) (take (k + 1) ss) first new
tells_next e cs ss k c s first old new lt size at before one = record {
  lines = before.lines ++ one.0;
  are = reports_next e cs ss k c s before.lines one.0 lt size at before.are one.1.0;
  each = tells_append before.lines one.0 first old new before.each one.1.1;
}

pub tells_none : (e : Encoding) (first : BytesWritten) → AreReported e [] [] first first
tells_none e first = record { lines = []; are = refl; each = silent first }

-- where all were looked at, what holds of those holds of all
pub all_to_end : {X : Type 0} (P : X → Type 0) (xs : List X) (n : ℕ) → length xs ≤ n → All P (take n xs) → All P xs
all_to_end {X} P xs n past all = subst (λ (ys : List X). All P ys) (take_all n xs past) all

-- a packability that isn't of a kind
pub unbroken : (s : Packability) → (s ≡ Broken → ⊥) → IsUnbroken s
unbroken s h = grind (arith)
