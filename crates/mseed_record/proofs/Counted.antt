-- Records that are counted, with one more of them.
use Rattle.std.proofs.Common.{◌≡◌, ℕ, ◌+◌, ◌++◌, List, [], ◌∷◌, refl, ap, ◌∙◌, Bool, true, false, cond}
use Rattle.std.proofs.lemmas.List.Sums.{sum_by-append}
use Rattle.std.specs.List.{count_by}
use Rattle.mseed_record.specs.View.{View}

one_alone : (b : Bool) → 0 + cond b 1 0 ≡ cond b 1 0
one_alone true = refl
one_alone false = refl

-- it is counted where a test holds of it
pub count_more : (p : View → Bool) (views : List View) (v : View)
    → count_by p (views ++ v ∷ []) ≡ count_by p views + cond (p v) 1 0
count_more p views v = sum_by-append (λ (w : View). cond (p w) 1 0) views (v ∷ [])
    ∙ ap (λ (n : ℕ). count_by p views + n) (one_alone (p v))
