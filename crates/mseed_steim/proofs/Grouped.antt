-- The rows of the table, as they're looked up.
use Rattle.std.proofs.Common.{◌≡◌, ℕ, ◌/◌, ◌^◌, refl, [], cond, eqb, Some}
use Rattle.std.proofs.lemmas.Bool.Decides.{nat_tests}
use Rattle.mseed_steim.specs.declared.scheme.Scheme.{Scheme}
use Rattle.mseed_steim.specs.Groups.{group_of}
use Rattle.mseed_steim.specs.private.Digits.{differences_in, differences_of, digits}

-- a word's differences by the table
pub by_table : (s : Scheme) (c word : ℕ)
    → differences_of s c word ≡ cond (eqb c 0) (Some []) (differences_in word (group_of s c (word / 2 ^ 30)))
unfolding differences_of
by_table s c word = refl

pub none_of : (width word : ℕ) → digits width word 0 ≡ []
unfolding digits
none_of width word = refl

pub ruleset table = (by_table, none_of, nat_tests)
