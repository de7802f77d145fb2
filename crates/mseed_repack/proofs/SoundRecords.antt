-- Records that are known to be sound by what the audit finds of them.
use Rattle.std.proofs.Common.{arith}
use Rattle.std.proofs.Common.{◌≡◌, ℕ, ◌+◌, ◌<◌, false, List, [], ◌∷◌, length}
use Rattle.std.proofs.Common.{map}
use Rattle.std.proofs.Common.{take, get_or, sym, refl, subst, Option, IsSome, Some, None, ℤ, ◌↔◌, true, IsTrue}
use Rattle.std.specs.Prelude.{Bool, is_some, not}
use Rattle.std.specs.List.{AllByRecursion}
use Rattle.std.proofs.lemmas.Bool.{false≢true, ltb-true}
use Rattle.std.proofs.ByRecursion.{All-push}
use Rattle.mseed_time.specs.Rate.{Ratio}
use Rattle.mseed_record.specs.View.{View}
use Rattle.mseed_record.specs.Viewing.{view_of}
use Rattle.mseed_record.specs.declared.view.RecordView.{RecordView}
use Rattle.mseed_steim.specs.declared.fault.ReadFault.{ReadFault}
use Rattle.mseed_steim.specs.Reading.{count_of, IsFault, IsWhole}
use Rattle.mseed_audit.specs.Channels.{Placed}
use Rattle.mseed_audit.specs.Follows.{IsSound}
use Rattle.mseed_audit.specs.Judging.{IsFound, time, rate, read, after}
use Rattle.mseed_audit.specs.Reported.{IsFoundAfter}
use Rattle.mseed_audit.specs.declared.finding.Why.{Why}
use Rattle.mseed_repack.proofs.Runs.{passed_with}
use Rattle.mseed_audit.proofs.Continuity.{HaveOneReading}
use Rattle.mseed_audit.proofs.Judged.{known_timed, unknown_timed}
use Rattle.mseed_repack.specs.private.Archives.{AreAlone, is_own}
use Rattle.mseed_repack.specs.private.Reading.{channel_in}

-- a record of which no finding of its own is found
pub sound_found : HaveOneReading → (before : Option View) (v : View) (why : Option Why) → IsFound before v why
    → is_own why ≡ false → IsSound v
sound_found single before v _ (time fault e) none = absurd (false≢true (sym none))
sound_found single before v _ (rate e r) none = absurd (false≢true (sym none))
sound_found single before v _ (read next known fault f) none = absurd (false≢true (sym none))
sound_found single before v _ (after next known samples whole) none = record {
  timed = subst (λ (r : Option Ratio). IsSome r) (sym known) refl;
  samples = samples;
  whole = whole;
  only = λ others r. single v others samples r whole.0;
}

-- nothing is found of a sound record by itself
none_found : ((v : View) (f : ReadFault) (s : List ℤ) → IsFault v f → ¬ (IsWhole v s)) → (v : View)
    (why : Option Why) → IsFound None v why → IsSound v → why ≡ None
none_found excludes v _ (time fault e) sound =
    let no = rw (unknown_timed v fault e) at sound.timed in absurd (false≢true no)
none_found excludes v _ (rate e r) sound =
    let no = rw (known_timed v None e r) at sound.timed in absurd (false≢true no)
none_found excludes v _ (read next known fault f) sound = absurd (excludes v fault sound.samples f sound.whole)
none_found excludes v _ (after next known samples whole) sound = refl

-- so that it is sound exactly where nothing is found
pub sound_exactly : HaveOneReading → ((v : View) (f : ReadFault) (s : List ℤ) → IsFault v f → ¬ (IsWhole v s))
    → (v : View) (why : Option Why) (none : Bool) → IsFound None v why → is_some why ≡ not none
    → IsTrue none ↔ IsSound v
sound_exactly single excludes v None true found e = (λ _. sound_found single None v None found refl, λ _. refl)
sound_exactly single excludes v None false found e = absurd (false≢true e)
sound_exactly single excludes v (Some why) true found e = absurd (false≢true (sym e))
sound_exactly single excludes v (Some why) false found e = (
  λ no. absurd (false≢true no),
  λ sound. let no : Some why ≡ None = none_found excludes v (Some why) found sound in cc,
)

-- one with samples, of which no finding of its own is found
pub sound_by_finding : HaveOneReading → (v : View) (earlier : List Placed) (why : Option Why)
    → IsFoundAfter earlier v why → is_own why ≡ false → 0 < count_of v → IsSound v
sound_by_finding h v earlier why h2 h3 h4 = grind (arith, sound_found)

-- such is each of a channel, where each with samples is
pub alone_in : (Such : View → Type 0) (key : List ℕ) (vs : List View) → AreAlone Such vs
    → AllByRecursion Such (channel_in key vs)
alone_in Such key [] all = tt
alone_in Such key (v ∷ vs) all = grind (arith, ltb-true, alone_in Such key vs all.1)

-- and such are those that a loop has passed, with one more
pub alone_next : (Such : View → Type 0) (rs : List RecordView) (n : ℕ) (r : RecordView) → n < length rs
    → r ≡ get_or rs n r → AreAlone Such (map view_of (take n rs)) → (0 < count_of (view_of r) → Such (view_of r))
    → AreAlone Such (map view_of (take (n + 1) rs))
alone_next Such rs n r lt is before here =
    rw (passed_with rs n r lt is) (All-push (λ (v : View). 0 < count_of v → Such v)
    (map view_of (take n rs)) (view_of r) before here)
