-- What a step of a session comes to, by its parts.
use Rattle.std.proofs.Common.{◌≡◌, ℕ, ◌+◌, ◌≤◌, ◌<◌, ◌==◌, ◌&&◌, ◌||◌, ◌∙◌, zero, suc, refl, arith, ap, sym}
use Rattle.std.proofs.Common.{Bool, true, false, not, List, [], ◌∷◌, append-nil, length, take, Ok, Err}
use Rattle.std.proofs.Common.{Result}
use Rattle.std.specs.Prelude.{IfOk}
use Rattle.std.proofs.lemmas.Bool.{and_left, ne_eqb}
use Rattle.std.specs.Prelude.{OnErr}
use Rattle.mseed_stream.specs.Device.{Beside, BytesRead, BytesWritten, accepted, read_also}
use Rattle.mseed_stream.specs.declared.device.Failed.{Failed}
use Rattle.slink_feed.specs.Turns.{failed_once, is_empty, read_once}

or_false : (b : Bool) → (b || false) ≡ b
or_false true = refl
or_false false = refl

-- a read that failed, and one that reported bytes
ends_by : (n : ℕ) (buf : List ℕ) → 0 < length buf → n ≤ length buf
    → ((n == 0) && not (length buf == 0)) ≡ is_empty (take n buf)
ends_by zero buf some bound = rw (ne_eqb (length buf) 0 (omega (arith, some))) refl
ends_by (suc n) [] some bound = absurd (omega (arith, some))
ends_by (suc n) (b ∷ buf) some bound = and_left (suc n == 0) _ (ne_eqb (suc n) 0 (omega arith))

pub read_is : (h now : BytesRead) (r : Result ℕ Failed) (buf : List ℕ) → now ≡ read_also h r buf → 0 < length buf
    → IfOk r (λ n. n ≤ length buf) → IfOk r (λ n. now ≡ read_once h (take n buf))
read_is h now (Ok n) buf is some bound =
    let none : h.failures + 0 ≡ h.failures = omega arith in rw (is, ends_by n buf some bound, none) refl
read_is h now (Err e) buf is some bound = tt

pub failed_is : (h now : BytesRead) (r : Result ℕ Failed) (buf : List ℕ) → now ≡ read_also h r buf
    → OnErr r (now ≡ failed_once h)
failed_is h now (Ok n) buf is = tt
failed_is h now (Err e) buf is = rw (is, append-nil h.bytes, or_false h.is_at_end) refl

-- what a call left beside it stayed as it was
pub stays : {A : Type 0} {a b x y : A} → a ≡ x → a ≡ b → b ≡ y → x ≡ y
stays p same q = sym p ∙ (same ∙ q)

-- as what it had accepted
pub accepts_none : {a b : Beside} {x y : BytesWritten} → a ≡ accepted x → a ≡ b → b ≡ accepted y → x ≡ y
accepts_none p same q = ap (λ (c : Beside). c.written) (sym p ∙ (same ∙ q))
