-- What is asked for, as it was read.
use Rattle.std.proofs.Common.{◌≡◌, ◌≢◌, ◌∙◌, ◌⊎◌, ⊎_elim, ℕ, ℤ, List, [], ◌∷◌, length, take, drop, eqb, cond}
use Rattle.std.proofs.Common.{Option, Some, None, true, false, refl, sym, ap, arith, length-append}
use Rattle.std.specs.Prelude.{IsTrue}
use Rattle.std.proofs.lemmas.Bool.{cases_eq, eq-eqb, eqb-true, false≢true, ne_eqb}
use Rattle.std.proofs.lemmas.List.{length-drop, length-take, nil_from_length}
use Rattle.mseed_time.specs.Btime.{IsInstant}
use Rattle.mseed_record.specs.Pattern.{are_patterns}
use Rattle.mseed_c.specs.Asked.{HasNoInstant, bound_of, channels_of}
use Rattle.mseed_c.specs.Room.{overwritten}
use Rattle.mseed_c.specs.declared.selecting.Window.{Window}

-- a room keeps its length
pub length_over : (bytes room : List ℕ) → length (overwritten bytes room) ≡ length room
length_over bytes room =
    omega (
      arith,
      length-append (take (length room) bytes) (drop (length bytes) room),
      length-take (length room) bytes,
      length-drop (length bytes) room,
    )

pub bound_there : (has : ℕ) (m : ℤ) → has ≢ 0 → bound_of has m ≡ Some m
bound_there has m some = ap (λ b. cond b None (Some m)) (ne_eqb has 0 some)

no_bound : (b : ℤ) → None ≡ Some b → ⊥
no_bound b e = cc

same_bound : (m b : ℤ) → Some m ≡ Some b → m ≡ b
same_bound m b e = cc

-- a bound that is there
pub bound_some : (has : ℕ) (m b : ℤ) → bound_of has m ≡ Some b → (has ≢ 0) × (m ≡ b)
bound_some has m b e = ⊎_elim
    (λ (none : has ≡ 0). absurd (no_bound b (sym (ap (λ t. cond t None (Some m)) (eq-eqb has 0 none)) ∙ e)))
    (λ (some : has ≡ 0 → ⊥). (some, same_bound m b (sym (bound_there has m some) ∙ e)))
    (cases_eq has 0)

pub instants : (w : Window) → (w.has_from ≢ 0 → IsInstant w.from) → (w.has_until ≢ 0 → IsInstant w.until)
    → ¬ (HasNoInstant w)
instants w from until found = ⊎_elim
    (λ (h : (w.has_from ≢ 0) × ¬ (IsInstant w.from)). h.1 (from h.0))
    (λ (h : (w.has_until ≢ 0) × ¬ (IsInstant w.until)). h.1 (until h.0))
    found

-- patterns that were read of a text, or none of an empty one
pub record AreRead (channels : List ℕ) (text : Option (List ℕ)) : Type 0 where
  pub same : text ≡ channels_of channels
  pub fine : (channels ≡ []) ⊎ IsTrue (are_patterns channels)

pub not_empty : (xs : List ℕ) → false ≡ eqb (length xs) 0 → xs ≢ []
not_empty xs f none = false≢true (f ∙ eq-eqb (length xs) 0 (ap (λ (zs : List ℕ). length zs) none))

pub is_empty : (xs : List ℕ) → true ≡ eqb (length xs) 0 → xs ≡ []
is_empty xs none = nil_from_length xs (eqb-true (length xs) 0 (sym none))

pub channels_there : (xs : List ℕ) → xs ≢ [] → channels_of xs ≡ Some xs
channels_there [] some = absurd (some refl)
channels_there (c ∷ cs) some = refl
