-- What reading the words of a command line comes to: a command, or the exit status of words that request nothing.
use Rattle.std.specs.Prelude.{◌≡◌, ◌⊎◌, List, ℕ, map, Option, option_map, Result, Ok, Err}
use Rattle.mseed_select.specs.Selecting.{selection_of}
use Rattle.mseed_record.specs.Selection.{Selection}
use Rattle.mseed_stream.specs.Device.{BytesWritten}
use Rattle.mseed_stream.specs.LineWritten.{WritesLine}
use Rattle.mseed_words.specs.declared.request.Command.{Command}
use Rattle.mseed_words.specs.declared.request.Request.{Request}
use Rattle.mseed_words.specs.declared.mistake.Mistake.{Mistake}
use Rattle.mseed.specs.Done.{ReportsMistake}
use Rattle.mseed_files.specs.InputFiles.{no_memory}

-- it is the command that does this, with these records, of these files; no line was written
abbrev pub IsAsked : Request → Option Selection → List (List ℕ) → Result Command ℕ → BytesWritten → BytesWritten
    → Type 0
IsAsked request asked files (Ok command) old new =
    (command.request ≡ request) × (option_map selection_of command.selector ≡ asked)
    × (map (λ file. file.now) command.files.items ≡ files) × (new ≡ old)
IsAsked request asked files (Err status) old new = ⊥

-- the words ask for nothing that there is, since something is wrong with what was given: a line more says what
abbrev pub HasRefusedRequest : List (List ℕ) → Mistake → List ℕ → Result Command ℕ → BytesWritten → BytesWritten
    → Type 0
HasRefusedRequest words mistake given (Ok command) old new = ⊥
HasRefusedRequest words mistake given (Err status) old new = (status ≡ 3) × ReportsMistake words mistake given old new

-- the words aren't those of a command line; the text on standard error is that of `clap`
abbrev pub HasRefusedWords : Result Command ℕ → BytesWritten → BytesWritten → Type 0
HasRefusedWords (Ok command) old new = ⊥
HasRefusedWords (Err status) old new = status ≡ 3

-- there was no memory for the words
abbrev pub LacksMemory : Result Command ℕ → BytesWritten → BytesWritten → Type 0
LacksMemory (Ok command) old new = ⊥
LacksMemory (Err status) old new = (status ≡ 2) × WritesLine no_memory old new

-- this came of it, unless there was no memory for the words
abbrev pub UnlessMemoryLacks : (Result Command ℕ → BytesWritten → BytesWritten → Type 0) → Result Command ℕ
    → BytesWritten → BytesWritten → Type 0
UnlessMemoryLacks P result old new = P result old new ⊎ LacksMemory result old new
