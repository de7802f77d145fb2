-- Why what is found behind a command isn't answered by a command.
use Rattle.std.specs.Prelude.{⊤, ◌≡◌, List, Result, Err}
use Rattle.clap.specs.Walk.{Row}
use Rattle.mseed_words.specs.Words.{given_of}
use Rattle.mseed_words.specs.declared.mistake.Mistake.{Mistake}
use Rattle.mseed_words.specs.declared.refusal.Refusal.{Refusal}
use Rattle.mseed_words.specs.declared.refusal.Refusal.TheVariants as refusal

-- something is wrong with what was given
abbrev pub IsMistakenAs : Mistake → List Row → Refusal → Type 0
IsMistakenAs m rows (refusal.Text text) = ⊥
IsMistakenAs m rows (refusal.NoRequest mistake given) = (mistake ≡ m) × (given.now ≡ given_of m rows)
IsMistakenAs m rows refusal.Memory = ⊥

-- it asks for nothing that there is, or memory was refused
abbrev pub IsRefusedAs : {T : Type 0} → Result T Mistake → List Row → Refusal → Type 0
IsRefusedAs asked rows (refusal.Text text) = ⊥
IsRefusedAs asked rows (refusal.NoRequest mistake given) =
    (asked ≡ Err mistake) × (given.now ≡ given_of mistake rows)
IsRefusedAs asked rows refusal.Memory = ⊤
