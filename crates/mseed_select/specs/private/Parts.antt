-- What a text's parts are.
use Rattle.std.specs.Prelude.{◌≡◌, ◌≤◌, ℕ, List, [], ◌∷◌, length}
use Rattle.mseed_select.specs.declared.parts.Parts.{Parts}
use Rattle.mseed_select.specs.declared.parts.Parts.TheVariants.{One, Two, Three, More}

-- up to three of them
abbrev pub AreParts : Parts → List (List ℕ) → Type 0
AreParts (One a) parts = parts ≡ a.now ∷ []
AreParts (Two a b) parts = parts ≡ a.now ∷ b.now ∷ []
AreParts (Three a b c) parts = parts ≡ a.now ∷ b.now ∷ c.now ∷ []
AreParts More parts = 4 ≤ length parts
