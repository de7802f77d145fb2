-- How a line is put together.
use Rattle.std.specs.Prelude.{◌≡◌, ℕ, ◌+◌, ◌≤◌, List, ◌++◌, length}

-- These bytes were put after a line, at most so many.
pub record Appends (old new more : List ℕ) (most : ℕ) : Type 0 where
  pub text : new ≡ old ++ more
  pub short : length new ≤ length old + most
