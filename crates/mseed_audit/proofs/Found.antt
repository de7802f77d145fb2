-- What is kept of the channel at a place becomes something else.
use Rattle.std.proofs.Common.{◌≡◌, ◌∙◌, ◌≤◌, ◌∷◌, [], ℕ, zero, suc, List, Some, length, ap, refl, arith}
use Rattle.std.specs.Prelude.{Result, Ok, Err, OnErr}
use Rattle.std.specs.List.{slice_get}
use Rattle.std.specs.Option.{option_map}
use Rattle.mseed_audit.specs.declared.channel.Channel.{Channel}
use Rattle.mseed_audit.specs.declared.verdict.Verdict.{Verdict}
use Rattle.mseed_audit.specs.Places.{with_channel}
use Rattle.mseed_audit.proofs.Rosters.{Entries, with_itself}

length_with : (es : Entries) (i : ℕ) (c : Channel) → length (with_channel es i c) ≡ length es
length_with [] i c = refl
length_with (e ∷ es) zero c = refl
length_with (e ∷ es) (suc i) c = ap suc (length_with es i c)

-- there are as many channels as before, and so room for a verdict on each
pub room_with : (es now : Entries) (i : ℕ) (c : Channel) (verdicts : List (List ℕ × Verdict)) (room : ℕ) → es ≡ now
    → (verdicts ≡ []) × (length now ≤ room) → (verdicts ≡ []) × (length (with_channel es i c) ≤ room)
room_with es now i c verdicts room stays has = (has.0, omega (arith, has.1, length_with es i c, ap length stays))

-- whatever is answered
pub on_err : {T E : Type 0} {P : Type 0} (r : Result T E) → P → OnErr r P
on_err (Ok t) p = tt
on_err (Err e) p = p

-- where the channel is what it was, they all are
pub there_unchanged : (es now old : Entries) (i : ℕ) (c after : Channel) → es ≡ now → now ≡ old
    → option_map (λ (e : List ℕ × Channel). e.1) (slice_get es i) ≡ Some c → after ≡ c
    → with_channel es i after ≡ old
there_unchanged es now old i c after stays are at same = rw same (with_itself es i c at) ∙ stays ∙ are
