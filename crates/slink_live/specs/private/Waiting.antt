-- What waits to be written to a link.
use Rattle.std.specs.Prelude.{ℕ, List}

-- the bytes, and how many more there is room for after them
pub record Waiting : Type 0 where
  pub bytes : List ℕ
  pub room : ℕ
