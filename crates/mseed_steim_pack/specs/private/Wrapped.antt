-- Differences of samples as 32 bits hold them.
use Rattle.std.specs.Prelude.{ℤ, ◌-ℤ◌, List, [], ◌∷◌}
use Rattle.std.specs.Int.{int_wrap, w32}

-- each number less the one before it, as far as 32 bits hold it
abbrev pub wrapped_from : ℤ → List ℤ → List ℤ
wrapped_from before [] = []
wrapped_from before (x ∷ xs) = int_wrap w32 (x -ℤ before) ∷ wrapped_from x xs

-- each but the first less the one before it
abbrev pub between : List ℤ → List ℤ
between [] = []
between (x ∷ xs) = wrapped_from x xs
