-- What `clap` found among the words behind a command.
use Rattle.std.specs.Prelude.{Bool, false, List, [], Option, Some, None, unwrap_or, codes}
use Rattle.std.specs.List.{list_any}
use Rattle.std.specs.Str.{bytes_eq}
use Rattle.clap.specs.Walk.{Row, Text, all_of, first_of}

-- the first value of an option, and this one where none is given
abbrev pub text_or : Text → Text → List Row → Text
text_or name default rows = unwrap_or (first_of name rows) default

-- the further places, in their order
abbrev pub further_in : List Row → List Text
further_in rows = unwrap_or (all_of (codes "place") rows) []

-- one of these names
abbrev pub is_among : List Text → Text → Bool
is_among names id = list_any (λ name. bytes_eq name id) names

-- a flag is `true` or `false`
abbrev pub is_true : Option Text → Bool
is_true None = false
is_true (Some text) = bytes_eq text (codes "true")

-- whether a flag is set
abbrev pub is_set : Text → List Row → Bool
is_set name rows = is_true (first_of name rows)
