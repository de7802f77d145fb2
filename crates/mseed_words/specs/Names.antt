-- The commands, by the words that name them.
use Rattle.std.specs.Prelude.{ℕ, nat_eq, nat_le, List, [], ◌∷◌, length, find, if◌then◌else◌, codes}
use Rattle.std.specs.Prelude.{Option, Some, None}
use Rattle.std.specs.Option.{option_or}
use Rattle.std.specs.Str.{bytes_eq, chars}
use Rattle.strsim.specs.Edits.{levenshtein_row}
use Rattle.clap.specs.Walk.{Text}
use Rattle.mseed_words.specs.declared.command_name.CommandName.{CommandName}
use Rattle.mseed_words.specs.declared.command_name.CommandName.TheVariants.{Audit, Join, Show, Select, Repack}
use Rattle.mseed_words.specs.declared.command_name.CommandName.TheVariants.{Serve, Fetch}

-- the command that a word names
abbrev pub name_of : Text → Option CommandName
name_of word =
    if bytes_eq word (codes "audit") then Some Audit else if bytes_eq word (codes "join") then Some Join
    else if bytes_eq word (codes "show") then Some Show else if bytes_eq word (codes "select") then Some Select
    else if bytes_eq word (codes "repack") then Some Repack else if bytes_eq word (codes "serve") then Some Serve
    else if bytes_eq word (codes "fetch") then Some Fetch else None

-- the word of a command
abbrev pub word_of : CommandName → Text
word_of Audit = codes "audit"
word_of Join = codes "join"
word_of Show = codes "show"
word_of Select = codes "select"
word_of Repack = codes "repack"
word_of Serve = codes "serve"
word_of Fetch = codes "fetch"

abbrev pub all_commands : List CommandName
all_commands = Audit ∷ Join ∷ Show ∷ Select ∷ Repack ∷ Serve ∷ Fetch ∷ []

-- how many characters are put in, left out or changed from a word to a command's
abbrev pub edits_to : Text → CommandName → ℕ
edits_to word name =
    levenshtein_row nat_eq (chars word) (chars (word_of name)) (length (chars (word_of name)))

-- the first command that is at most `edits` edits away
abbrev pub within : ℕ → Text → Option CommandName
within edits word = find (λ name. nat_le (edits_to word name) edits) all_commands

-- the command that is near a word: one edit away, or else two
abbrev pub nearest : Text → Option CommandName
nearest word = option_or (within 1 word) (within 2 word)
