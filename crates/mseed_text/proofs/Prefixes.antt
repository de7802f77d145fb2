-- What stands before a text.
use Rattle.std.proofs.Common.{◌≡◌, ℕ, ◌++◌, List, ap, ◌∙◌, append_assoc}
use Rattle.mseed_stream.specs.Device.{IsPrefixOf}

pub prefix_from : (first more old new : List ℕ) → old ≡ first ++ more → IsPrefixOf old new → IsPrefixOf first new
prefix_from first more old new e prefix =
    (more ++ prefix.0, prefix.1 ∙ ap (λ (xs : List ℕ). xs ++ prefix.0) e ∙ append_assoc first more prefix.0)

-- a prefix of a prefix
pub prefix_trans : (a b c : List ℕ) → IsPrefixOf a b → IsPrefixOf b c → IsPrefixOf a c
prefix_trans a b c prefix whole = prefix_from a prefix.0 b c prefix.1 whole
