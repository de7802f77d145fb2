-- Codes without what trails, as they are written: how long they are, and that their first bytes are kept.
use Rattle.std.proofs.Common.{◌≡◌, ℕ, Bool, true, false, if◌then◌else◌, ◌+◌, ◌-◌, ◌≤◌, ◌++◌, List, [], ◌∷◌, length}
use Rattle.std.proofs.Common.{map, take, drop, ap, arith, refl, sym, ◌∙◌}
use Rattle.std.proofs.lemmas.List.{length-take, length-take-le, take-map, take-take}
use Rattle.std.proofs.Math.Seq.{take-append-add}
use Rattle.std.specs.List.{list_all, slice_range}
use Rattle.mseed_record.specs.Header.{is_blank, trimmed}
use Rattle.mseed_text.specs.Name.{printed}

-- a code of a key
pub code_fits : (key code : List ℕ) (a b : ℕ) → code ≡ slice_range key a b → length code ≤ b - a
code_fits key code a b e = omega (arith, ap length e, length-take (b - a) (drop a key))

-- a code is no longer for having lost its end
no_longer : (b : Bool) (c : ℕ) (cs more : List ℕ) → length more ≤ length cs
    → length (if b then [] else c ∷ more) ≤ length (c ∷ cs)
no_longer true c cs more h = omega arith
no_longer false c cs more h = omega (arith, h)

trimmed_fits : (code : List ℕ) → length (trimmed code) ≤ length code
trimmed_fits [] = omega arith
trimmed_fits (c ∷ cs) = no_longer (list_all is_blank (c ∷ cs)) c cs (trimmed cs) (trimmed_fits cs)

pub kept_fits : (code cut : List ℕ) → cut ≡ trimmed code → length cut ≤ length code
kept_fits code cut is = omega (arith, ap length is, trimmed_fits code)

-- what a code keeps are its first bytes
front_if : (b : Bool) (c : ℕ) (cs more : List ℕ) → more ≡ take (length more) cs
    → (if b then [] else c ∷ more) ≡ take (length (if b then [] else c ∷ more)) (c ∷ cs)
front_if true c cs more e = refl
front_if false c cs more e = ap (λ (xs : List ℕ). c ∷ xs) e

trimmed_front : (code : List ℕ) → trimmed code ≡ take (length (trimmed code)) code
trimmed_front [] = refl
trimmed_front (c ∷ cs) = front_if (list_all is_blank (c ∷ cs)) c cs (trimmed cs) (trimmed_front cs)

-- a code that was written whole, and of which what it keeps is taken
pub code_kept : (old new code cut : List ℕ) (place : ℕ) → place ≤ length old → cut ≡ trimmed code
    → take (place + length code) new ≡ take place old ++ map printed code
    → take (place + length cut) new ≡ take place old ++ map printed (trimmed code)
code_kept old new code cut place within is written =
    let front : List ℕ = take place old in
    let size : length front ≡ place = length-take-le place old within in
    sym (take-take (place + length cut) (place + length code) new (omega (arith, kept_fits code cut is)))
    ∙ ap (λ (xs : List ℕ). take (place + length cut) xs) written
    ∙ ap (λ (n : ℕ). take (n + length cut) (front ++ map printed code)) (sym size)
    ∙ take-append-add front (map printed code) (length cut)
    ∙ ap (λ (xs : List ℕ). front ++ xs) (take-map printed (length cut) code
    ∙ ap (λ (n : ℕ). map printed (take n code)) (ap length is)
    ∙ ap (map printed) (sym (trimmed_front code)))
