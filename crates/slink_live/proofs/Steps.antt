-- What a call makes of a server.
use Rattle.std.proofs.Common.{◌≡◌, ◌≢◌, ℕ, ◌<◌, ◌≤◌, ◌∙◌, ap, subst, refl, sym, arith, inl, inr, Bool, true, false}
use Rattle.std.proofs.Common.{append-nil}
use Rattle.std.proofs.Common.{List, [], ◌∷◌, ◌++◌, get_or, length, Option, Some, None}
use Rattle.std.proofs.Common.{Result, Ok, Err, IfErr}
use Rattle.std.specs.Option.{is_some}
use Rattle.std.proofs.lemmas.Bool.{false≢true}
use Rattle.std.proofs.lemmas.Bool.Decides.{leb_tells}
use Rattle.std.proofs.lemmas.List.{get_or_past}
use Rattle.slink_feed.specs.Window.{Window}
use Rattle.slink_live.specs.Happening.{Happening, Gone, WantsLinks}
use Rattle.slink_live.specs.Served.{AreEmpty, IsSound, LinkState, ServerState}
use Rattle.slink_live.specs.private.Calling.{HasReceived, HasTaken}
use Rattle.slink_live.specs.Turns.{Closes, ReadsFrom, Removes, WritesTo}
use Rattle.slink_live.specs.private.Keeping.{AnswersFault, Carries, KeepsServing}
use Rattle.slink_live.proofs.Slots.{closes_both, closes_none, closes_one, carries_on}

-- what holds of an error holds of what follows from it
pub if_err_always : {X E : Type 0} → (r : Result X E) (Q : Type 0) → Q → IfErr r (λ _. Q)
if_err_always (Ok x) Q q = tt
if_err_always (Err e) Q q = q

-- a slot that holds no link, and one that holds one
pub none_at : (o : Option LinkState) → is_some o ≡ false → o ≡ None
none_at None e = refl
none_at (Some l) e = absurd (false≢true (sym e))

pub taken_at : (o : Option LinkState) → is_some o ≡ true → o ≢ None
taken_at o e none = false≢true (sym (ap is_some none) ∙ e)

pub all_none : (links : List (Option LinkState)) (n : ℕ) → length links ≤ n
    → ((k : ℕ) → k < n → get_or links k None ≡ None) → AreEmpty links
all_none links n le each k = elim (leb_tells n k) [
  | inl past ↦ get_or_past links k None (omega (arith, le, past.1))
  | inr within ↦ each k within.1
]

pub few_records : {s0 s : ServerState} → s0 ≡ s → IsSound s → s0.intake.records ≤ 9007199254740992
few_records {s0} same sound =
    let sound0 : IsSound s0 = subst IsSound (sym same) sound in omega (arith, sound0.few, sound0.few_reads)

-- the input is read no more
abbrev pub ended : ServerState → ServerState
ended s = record s { has_ended = true }

pub ended_sound : {s : ServerState} → IsSound s → IsSound (ended s)
ended_sound sound = record {
  short = λ e. absurd (false≢true (sym e));
  begins = λ e. absurd (false≢true (sym e));
  fit = sound.fit;
  below = sound.below;
  few = sound.few;
  few_reads = sound.few_reads;
}

pub carries_end : {s : ServerState} {log : List Happening} → Carries s (ended s) log log
carries_end {s} {log} = carries_on s s.links true ([], sym (append-nil log)) refl refl
    (λ e. absurd (false≢true (sym e))) (λ e. refl) refl (λ start fed v. v)

-- Links alone changed.
pub answers_links : {s t : ServerState} {log last : List Happening} → KeepsServing s t log last
    → AnswersFault s t log last (Ok tt)
answers_links keeps = record { keeps = keeps; fault = tt; ended = tt }

pub reads_from : (feed : List Window) (j : ℕ) (o new : Option LinkState) (log mid last : List Happening)
    → HasReceived feed j o new log mid → Closes mid last → ReadsFrom o j log last
reads_from feed j None new log mid last h c = rw h.1 at c
reads_from feed j (Some l) new log mid last h c = (h.0, rw h.3 at c)

pub writes_to : (j : ℕ) (o new : Option LinkState) (log mid last : List Happening) → HasTaken j o new log mid
    → Closes mid last → WritesTo o j log last
writes_to j None new log mid last h c = rw h.1 at c
writes_to j (Some l) new log mid last h c = (h.0, rw h.2 at c)

-- a link that is gone, where one stood
pub removes_at : (o : Option LinkState) (j : ℕ) (log : List Happening) (wanted : Bool)
    → Removes o j log ((log ++ Gone j ∷ []) ++ WantsLinks wanted ∷ [])
removes_at None j log wanted = closes_both (closes_one (Gone j) tt) (closes_one (WantsLinks wanted) tt)
removes_at (Some l) j log wanted = closes_one (WantsLinks wanted) tt

pub removes_past : (links : List (Option LinkState)) (j : ℕ) (log : List Happening) → length links ≤ j
    → Removes (get_or links j None) j log log
removes_past links j log le = rw (get_or_past links j None le) closes_none
