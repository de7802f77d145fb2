-- The files that the words of a command line name.
use Rattle.std.specs.Prelude.{Bool, true, false, List, [], ◌∷◌, if◌then◌else◌, Option, Some, None, codes}
use Rattle.std.specs.Prelude.{Result, Ok, Err}
use Rattle.std.specs.Option.{option_or}
use Rattle.std.specs.Str.{bytes_eq}
use Rattle.clap.specs.Walk.{Row, Text}
use Rattle.mseed_words.specs.Found.{further_in, is_among}
use Rattle.mseed_words.specs.declared.mistake.Mistake.{Mistake}
use Rattle.mseed_words.specs.declared.mistake.Mistake.TheVariants.{EmptyFile, InputAgain}
use Rattle.mseed_words.specs.declared.request.Request.{Request}
use Rattle.mseed_words.specs.declared.request.Request.TheVariants.{Serve, Live, Fetch}

-- further words are files, but of serving and fetching, where they are places
abbrev pub takes_files : Request → Bool
takes_files (Serve serving) = false
takes_files (Live live) = false
takes_files (Fetch fetching) = false
takes_files request = true

-- a word that can't name a file before others: `-`, which is standard input, where it's named again; an empty word
abbrev pub unfit : Text → List Text → Option Mistake
unfit word rest =
    if bytes_eq word (codes "-") then (if is_among rest (codes "-") then Some InputAgain else None)
    else if bytes_eq word (codes "") then Some EmptyFile else None

-- what is wrong with the first such word, if there is one
abbrev pub file_mistake : List Text → Option Mistake
file_mistake [] = None
file_mistake (word ∷ words) = option_or (unfit word words) (file_mistake words)

-- the files that are named, in their order
abbrev pub named_by : Bool → List Row → List Text
named_by true rows = further_in rows
named_by false rows = []

abbrev pub unless_mistaken : Option Mistake → List Text → Result (List Text) Mistake
unless_mistaken None words = Ok words
unless_mistaken (Some mistake) words = Err mistake

abbrev pub files_by : List Text → Result (List Text) Mistake
files_by words = unless_mistaken (file_mistake words) words

abbrev pub files_of : Request → List Row → Result (List Text) Mistake
files_of request rows = files_by (named_by (takes_files request) rows)
