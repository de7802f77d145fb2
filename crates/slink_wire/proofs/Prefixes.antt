-- Of two prefixes of a list, one goes on with the other.
use Rattle.std.proofs.Common.{◌≡◌, ◌⊎◌, inl, inr, refl, sym, ap, ◌∙◌, List, [], ◌∷◌, ◌++◌}

module _ {X : Type 0} where
  abbrev pub Further : List X → List X → Type 0
  Further a b = (z : List X) × (b ≡ a ++ z)

  pub prefixes : (a b x y : List X) → a ++ x ≡ b ++ y → Further a b ⊎ Further b a
  prefixes [] b x y e = inl (b, refl)
  prefixes (p ∷ a) [] x y e = inr (p ∷ a, refl)
  prefixes (p ∷ a) (q ∷ b) x y e =
      let heads : p ≡ q = cc e in
      let tails : a ++ x ≡ b ++ y = cc e in
      elim (prefixes a b x y tails) [
        | inl more ↦ inl (more.0, ap (λ h. h ∷ b) (sym heads) ∙ ap (λ t. p ∷ t) more.1)
        | inr more ↦ inr (more.0, ap (λ h. h ∷ a) heads ∙ ap (λ t. q ∷ t) more.1)
      ]
