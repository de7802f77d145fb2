-- A verdict says that a channel is continuous exactly where it is.
use Rattle.std.proofs.Common.{◌≡◌, ◌↔◌, ℤ, List, [], ◌∷◌, ◌++◌, true, false, Option, Some, None, IsSome, IsTrue, refl}
use Rattle.std.specs.List.{AllByRecursion}
use Rattle.mseed_time.specs.Rate.{Ratio}
use Rattle.mseed_record.specs.View.{View}
use Rattle.mseed_steim.specs.declared.fault.ReadFault.{ReadFault}
use Rattle.mseed_steim.specs.Reading.{IsFault, IsReading, IsWhole, HasOneReading}
use Rattle.mseed_audit.specs.declared.finding.Why.{Why}
use Rattle.mseed_audit.specs.declared.finding.Finding.{Finding}
use Rattle.mseed_audit.specs.declared.verdict.Verdict.{Verdict}
use Rattle.mseed_audit.specs.declared.verdict.Verdict.TheVariants.{Continuous, Broken}
use Rattle.mseed_audit.specs.Channels.{Placed, views_in}
use Rattle.mseed_audit.specs.Follows.{Follows, AllNeighbours, IsSound, IsContinuous}
use Rattle.mseed_audit.specs.Judging.{known_rate, why_after, IsFound, time as by_time, rate as by_rate}
use Rattle.mseed_audit.specs.Judging.{read as by_read, after as by_after}
use Rattle.mseed_audit.specs.Verdict.{finding_at, AreFindings, none, one, IsVerdict, says_continuous}
use Rattle.mseed_audit.proofs.Judged.{unknown_timed, known_timed}
use Rattle.mseed_audit.proofs.Between.{follows_of, between_none}

-- a record with a fault has no whole reading
abbrev pub Excludes : Type 0
Excludes = (v : View) (f : ReadFault) (s : List ℤ) → IsFault v f → ¬ (IsWhole v s)

-- no record has two readings
abbrev pub HaveOneReading : Type 0
HaveOneReading = (v : View) → HasOneReading v

-- a record of which nothing is found
found_none : HaveOneReading → (before : Option View) (v : View) (why : Option Why) → IsFound before v why → why ≡ None
    → IsSound v × ((next : Ratio) × ((known_rate v ≡ Some next) × (why_after before v next ≡ None)))
found_none single before v why (by_after next known samples whole) h =
    let only : (others : List ℤ) → IsReading v others → others ≡ samples =
    λ others r. single v others samples r whole.0 in
    (record { timed = rw known refl; samples = samples; whole = whole; only = only }, (next, (known, h)))
found_none single before v why found h = cc

unknown : (v : View) → IsSome (known_rate v) → known_rate v ≡ None → ⊥
unknown v some e = let no : false ≡ true = rw e at some in cc (no)

-- a sound record that follows
none_found : (before : Option View) (v : View) (why : Option Why) → Excludes → IsFound before v why → IsSound v
    → ((next : Ratio) → known_rate v ≡ Some next → why_after before v next ≡ None) → why ≡ None
none_found before v why excludes (by_time fault e) sound follows =
    absurd (unknown v sound.timed (unknown_timed v fault e))
none_found before v why excludes (by_rate e r) sound follows = absurd (unknown v sound.timed (known_timed v None e r))
none_found before v why excludes (by_read next known fault f) sound follows =
    absurd (excludes v fault sound.samples f sound.whole)
none_found before v why excludes (by_after next known samples whole) sound follows = follows next known

-- of a record that follows the one before
after_none : (b v : View) (next : Ratio) → Follows b v → known_rate v ≡ Some next → why_after (Some b) v next ≡ None
after_none b v next h known =
    let same : h.1.0 ≡ next = cc (h.1.1.next_is, known) in
    rw h.1.1.before_is (between_none b v h.0 next (rw same at h.1.1))

no_finding : (p : Placed) (why : Option Why) (rest : List Finding) → finding_at p why ++ rest ≡ []
    → (why ≡ None) × (rest ≡ [])
no_finding p None rest e = (refl, e)
no_finding p (Some why) rest e = cc

-- records after another of which nothing is found
later_sound : HaveOneReading → (b : View) (rate : Ratio) (ps : List Placed) (found : List Finding)
    → known_rate b ≡ Some rate → AreFindings (Some b) ps found → found ≡ []
    → AllByRecursion IsSound (views_in ps) × AllNeighbours Follows (b ∷ views_in ps)
later_sound single b rate [] found known (none _) e = (tt, tt)
later_sound single b rate (p ∷ ps) found known (one _ _ _ why rest h later) e =
    let parts : (why ≡ None) × (rest ≡ []) = no_finding p why rest e in
    let here = found_none single (Some b) p.view why h parts.0 in
    let more = later_sound single p.view here.1.0 ps rest here.1.1.0 later parts.1 in
    let follows = follows_of b p.view rate here.1.0 known here.1.1.0 (rw known at here.1.1.1) in
    ((here.0, more.0), ((rate, (here.1.0, follows)), more.1))

run_continuous : HaveOneReading → (first : Placed) (rest : List Placed) (found : List Finding)
    → AreFindings None (first ∷ rest) found → found ≡ [] → IsContinuous (views_in (first ∷ rest))
run_continuous single first rest found (one _ _ _ why others h later) e =
    let parts : (why ≡ None) × (others ≡ []) = no_finding first why others e in
    let here = found_none single None first.view why h parts.0 in
    let more = later_sound single first.view here.1.0 rest others here.1.1.0 later parts.1 in
    record { some = λ no. cc; each = (here.0, more.0); follow = more.1 }

-- nothing is found of sound records that follow one another
later_none : Excludes → (b : View) (ps : List Placed) (found : List Finding) → AreFindings (Some b) ps found
    → AllByRecursion IsSound (views_in ps)
    → AllNeighbours Follows (b ∷ views_in ps) → found ≡ []
later_none excludes b [] found (none _) each follow = refl
later_none excludes b (p ∷ ps) found (one _ _ _ why rest h later) each follow =
    let none_here = none_found (Some b) p.view why excludes h each.0
    (λ next known. after_none b p.view next follow.0 known) in
    rw (none_here, later_none excludes p.view ps rest later each.1 follow.1) refl

none_continuous : Excludes → (ps : List Placed) (found : List Finding) → AreFindings None ps found
    → IsContinuous (views_in ps) → found ≡ []
none_continuous excludes [] found (none _) h = refl
none_continuous excludes (p ∷ ps) found (one _ _ _ why rest k later) h =
    rw (
      none_found None p.view why excludes k h.each.0 (λ next known. refl),
      later_none excludes p.view ps rest later h.each.1 h.follow,
    ) refl

pub verdict_exact : HaveOneReading → Excludes → (verdict : Verdict) (ps : List Placed) → IsVerdict verdict ps
    → (IsTrue (says_continuous verdict) ↔ IsContinuous (views_in ps))
verdict_exact single excludes (Continuous start rate records samples) ps h =
    ((λ says. rw h.1.1.0 (run_continuous single h.0 h.1.0 [] h.1.1.1.findings refl)), (λ is. refl))
verdict_exact single excludes (Broken first count) ps h =
    ((λ says. cc), (λ is. let no : first ∷ h.0 ≡ [] = none_continuous excludes ps (first ∷ h.0) h.1.0 is in cc))
