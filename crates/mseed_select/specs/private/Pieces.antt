-- What is left of a field and of a code at the field's first `*`.
use Rattle.std.specs.Prelude.{◌≡◌, ◌≤◌, ◌<◌, ℕ, true, false, List, ◌∷◌, length}
use Rattle.mseed_record.specs.Pattern.{fits}
use Rattle.mseed_select.specs.declared.matching.Piece.{Piece}
use Rattle.mseed_select.specs.declared.matching.Piece.TheVariants.{Whole, Fails, Star}

-- What is left decides, also where a `*` stands before the field: the first place of the piece is the best for what
-- stands after it.
pub record IsLeft (after left field code : List ℕ) : Type 0 where
  pub here : fits field code ≡ fits (42 ∷ after) left
  pub later : fits (42 ∷ field) code ≡ fits (42 ∷ after) left
  pub shorter : length after < length field
  pub no_longer : length left ≤ length code

abbrev pub IsPiece : Piece → List ℕ → List ℕ → Type 0
IsPiece Whole field code = fits field code ≡ true
IsPiece Fails field code = fits field code ≡ false
IsPiece (Star after left) field code = IsLeft after.now left.now field code
