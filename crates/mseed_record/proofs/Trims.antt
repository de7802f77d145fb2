-- Codes without what trails.
use Rattle.std.proofs.Common.{◌≡◌, ℕ, zero, suc, ◌<◌, List, [], ◌∷◌, length, take, drop, get_or, true, false, refl}
use Rattle.std.proofs.Common.{arith}
use Rattle.std.proofs.lemmas.List.Folds.{list_all_at}
use Rattle.std.specs.List.{list_all}
use Rattle.mseed_record.specs.Header.{is_blank, trimmed}

pub trimmed_none : (code : List ℕ) → list_all is_blank code ≡ true → trimmed code ≡ []
trimmed_none [] h = refl
trimmed_none (c ∷ cs) h = rw h refl

pub trimmed_is : (code : List ℕ) (n : ℕ) → n < length code → list_all is_blank (drop (suc n) code) ≡ true
    → is_blank (get_or code n 0) ≡ false → trimmed code ≡ take (suc n) code
trimmed_is [] n h all e = absurd (omega (arith, h))
trimmed_is (c ∷ cs) zero h all e = rw (e, trimmed_none cs all) refl
trimmed_is (c ∷ cs) (suc n) h all e =
    rw (list_all_at is_blank (c ∷ cs) (suc n) 0 h e, trimmed_is cs n (omega (arith, h)) all e) refl
