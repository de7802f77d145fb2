-- The parts of a word for a time.
use Rattle.std.proofs.Common.{◌≡◌, ℕ, sym, ap, ◌∙◌}
use Rattle.std.proofs.Common.{List, [], ◌∷◌, Option, Some, ℤ}
use Rattle.mseed_select.specs.Word.{date_of, instant_at, instant_by}
use Rattle.mseed_select.specs.Word.{midnight, time_by_parts}
use Rattle.mseed_select.specs.declared.clocks.Clock.{Clock}
use Rattle.mseed_select.specs.declared.dates.Date.{Date}

-- a date alone is its first instant
pub date_alone : (parts : List (List ℕ)) (text : List ℕ) (date : Date) (clock : Clock) (t : ℤ) → parts ≡ text ∷ []
    → Some date ≡ date_of text → clock ≡ midnight → t ≡ instant_at date clock → Some t ≡ time_by_parts parts
date_alone parts text date clock t alone is first e =
    ap (λ (x : ℤ). Some x) e ∙ ap (λ (k : Clock). Some (instant_at date k)) first
    ∙ ap (λ (o : Option Date). instant_by o (Some midnight)) is
    ∙ sym (ap (λ (ps : List (List ℕ)). time_by_parts ps) alone)
