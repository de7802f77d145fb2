-- What the words of a command line ask for.
use Rattle.std.specs.Prelude.{⊤, ◌≡◌, ◌≤◌, ◌==◌, ◌&&◌, ◌^◌, ℕ, zero, suc, not, nat_lt, length}
use Rattle.std.specs.Prelude.{List, [], ◌∷◌, if◌then◌else◌, Bool, true, false, slice_get, slice_index, unwrap_or}
use Rattle.std.specs.Prelude.{Option, Some, None, option_and_then, Result, Ok, Err, ok_or, codes}
use Rattle.std.specs.Str.{bytes_eq}
use Rattle.clap.specs.Walk.{Row, Text, first_of}
use Rattle.clap.specs.Simple.{matches_of}
use Rattle.clap.specs.Kinds.{Kinds}
use Rattle.clap.specs.Faults.{fault_of}
use Rattle.mseed_steim.specs.declared.encoding.Encoding.{Encoding}
use Rattle.mseed_steim.specs.declared.encoding.Encoding.TheVariants.{Int16, Int32, Steim1, Steim2}
use Rattle.mseed_record.specs.Selection.{Selection}
use Rattle.mseed_words.specs.Files.{files_of}
use Rattle.mseed_words.specs.Found.{is_set, further_in, text_or}
use Rattle.mseed_words.specs.Mistakes.{and_then, mapped, name_text}
use Rattle.mseed_words.specs.Names.{name_of, nearest}
use Rattle.mseed_words.specs.Numbers.{number_in, number_within}
use Rattle.mseed_words.specs.Options.{the_command, the_program}
use Rattle.mseed_words.specs.FeedWords.{CanFetch, CanServe, CanServeLive, fetching_of, live_serving_of, serving_of}
use Rattle.mseed_words.specs.Selecting.{asked_of, option_given}
use Rattle.mseed_words.specs.declared.command_name.CommandName.{CommandName}
use Rattle.mseed_words.specs.declared.command_name.CommandName.TheVariants as command
use Rattle.mseed_words.specs.declared.mistake.Mistake.{Mistake}
use Rattle.mseed_words.specs.declared.mistake.Mistake.TheVariants as mistake
use Rattle.mseed_words.specs.declared.mistake.Valued.{Valued}
use Rattle.mseed_words.specs.declared.mistake.Valued.TheVariants as option
use Rattle.mseed_words.specs.declared.mistake.Wanted.TheVariants as wanted
use Rattle.mseed_words.specs.declared.request.Request.{Request}
use Rattle.mseed_words.specs.declared.request.Request.TheVariants.{Audit, AuditEach, AuditPart, AuditPartEach}
use Rattle.mseed_words.specs.declared.request.Request.TheVariants.{Join, JoinEach, JoinPart, Show, Select}
use Rattle.mseed_words.specs.declared.request.Request.TheVariants.{Repack, RepackStretches, Serve, Live, Fetch}
use Rattle.mseed_words.specs.declared.request.Joining.{Joining}
use Rattle.mseed_words.specs.declared.request.Packing.{Packing}
use Rattle.mseed_words.specs.declared.refusal.Refusal.{Refusal}
use Rattle.mseed_words.specs.declared.refusal.Refusal.TheVariants as refusal

-- the power of two that a record's length is
abbrev pub exponent_by : ℕ → Option ℕ
exponent_by n =
    if n == 2 ^ 7 then Some 7 else if n == 2 ^ 8 then Some 8 else if n == 2 ^ 9 then Some 9
    else if n == 2 ^ 10 then Some 10 else if n == 2 ^ 11 then Some 11 else if n == 2 ^ 12 then Some 12 else None

abbrev pub exponent_in : Text → Option ℕ
exponent_in text = option_and_then exponent_by (number_in text)

-- 512 bytes where no length is given
abbrev pub exponent_of : List Row → Result ℕ Mistake
exponent_of rows =
    ok_or (exponent_in (text_or (codes "length") (codes "512") rows)) (mistake.Value option.Length wanted.Length)

-- the encoding that a word names
abbrev pub encoding_named : Text → Option Encoding
encoding_named word =
    if bytes_eq word (codes "int16") then Some Int16 else if bytes_eq word (codes "int32") then Some Int32
    else if bytes_eq word (codes "steim1") then Some Steim1 else if bytes_eq word (codes "steim2") then Some Steim2
    else None

-- Steim-2 where no encoding is given
abbrev pub encoding_of : List Row → Result Encoding Mistake
encoding_of rows =
    ok_or (encoding_named (text_or (codes "encoding") (codes "steim2") rows))
    (mistake.Value option.Encoding wanted.Encoding)

-- as it is, or by stretches, which alone can leave channels out
abbrev pub packing_by : Bool → Bool → Packing → Result Request Mistake
packing_by true leave packing = Ok (RepackStretches packing leave)
packing_by false false packing = Ok (Repack packing)
packing_by false true packing = Err mistake.Leave

abbrev pub packing_of : List Row → Result Request Mistake
packing_of rows =
    and_then (exponent_of rows) (λ exponent. and_then (encoding_of rows) (λ encoding.
    packing_by (is_set (codes "stretches") rows) (is_set (codes "leave") rows)
    (record { exponent = exponent; encoding = encoding })))

-- what an audit writes: with a line for each finding or without, the text of the audit or its part
abbrev pub auditing_by : Bool → Bool → Request
auditing_by false false = Audit
auditing_by true false = AuditEach
auditing_by false true = AuditPart
auditing_by true true = AuditPartEach

-- a part is that of all records
abbrev pub auditing_with : Bool → Bool → Option Valued → Result Request Mistake
auditing_with each part None = Ok (auditing_by each part)
auditing_with each false (Some option) = Ok (auditing_by each false)
auditing_with each true (Some option) = Err (mistake.Value option wanted.AllOfPart)

abbrev pub auditing_of : List Row → Result Request Mistake
auditing_of rows = auditing_with (is_set (codes "each") rows) (is_set (codes "part") rows) (option_given rows)

-- how many parts there have to be, where a number is given: at least one
abbrev pub expected_by : Option ℕ → Result (Option ℕ) Mistake
expected_by None = Err (mistake.Value option.Expect wanted.Parts)
expected_by (Some zero) = Err (mistake.Value option.Expect wanted.Parts)
expected_by (Some (suc n)) = Ok (Some (suc n))

-- in one to nine decimal digits
abbrev pub expected_in : Option Text → Result (Option ℕ) Mistake
expected_in None = Ok None
expected_in (Some text) = expected_by (number_within 9 text)

-- the text of an audit, with a line for each border before it or without, or a part
abbrev pub joining_by : Bool → Bool → Joining → Result Request Mistake
joining_by false false joining = Ok (Join joining)
joining_by true false joining = Ok (JoinEach joining)
joining_by false true joining = Ok (JoinPart joining)
joining_by true true joining = Err mistake.EachPart

abbrev pub joining_of : List Row → Result Request Mistake
joining_of rows =
    and_then (expected_in (first_of (codes "expect") rows)) (λ expected.
    joining_by (is_set (codes "each") rows) (is_set (codes "part") rows)
    (record { past_faults = is_set (codes "past-faults") rows; expected = expected }))

-- what serving asks for: all of the input first, or while it comes
abbrev pub serving_by : Bool → List Row → Result Request Mistake
serving_by false rows = mapped Serve (serving_of rows)
serving_by true rows = mapped Live (live_serving_of rows)

-- what a command asks for, by what is found behind it
abbrev pub request_of : CommandName → List Row → Result Request Mistake
request_of command.Audit rows = auditing_of rows
request_of command.Join rows = joining_of rows
request_of command.Show rows = Ok Show
request_of command.Select rows = Ok Select
request_of command.Repack rows = packing_of rows
request_of command.Serve rows = serving_by (is_set (codes "live") rows) rows
request_of command.Fetch rows = mapped Fetch (fetching_of rows)

-- records of 128 to 4096 bytes; a feed that can be
abbrev pub CanBeCalled : Request → Type 0
CanBeCalled (Repack packing) = (7 ≤ packing.exponent) × (packing.exponent ≤ 12)
CanBeCalled (RepackStretches packing leave) = (7 ≤ packing.exponent) × (packing.exponent ≤ 12)
CanBeCalled (Serve serving) = CanServe serving
CanBeCalled (Live live) = CanServeLive live
CanBeCalled (Fetch fetching) = CanFetch fetching
CanBeCalled request = ⊤

-- what is requested, of which records, where the words say, and of which files: of none where standard input is read
pub record Requested : Type 0 where
  pub request : Request
  pub asked : Option Selection
  pub files : List Text

abbrev pub requested : Request → Option Selection → List Text → Requested
requested request asked files = record { request = request; asked = asked; files = files }

abbrev pub command_of : CommandName → List Row → Result Requested Mistake
command_of name rows =
    and_then (request_of name rows) (λ request. and_then (asked_of request rows) (λ asked.
    and_then (files_of request rows) (λ files. Ok (requested request asked files))))

-- what was given of that with which something is wrong: the option's value, or the word; nothing of a flag
abbrev pub given_of : Mistake → List Row → Text
given_of (mistake.Value option wanted) rows = text_or (name_text option) (codes "") rows
given_of (mistake.Place index fault) rows = unwrap_or (slice_get (further_in rows) index) (codes "")
given_of other rows = codes ""

-- What the words of a command line come to, unless memory is refused: they ask for this; `clap` takes them, but they
-- ask for nothing that there is, since something is wrong with what was given; or `clap` refuses them, also where they
-- ask for the help or the version.
pub data Reading : Type 0 where
  asks_for : Requested → Reading
  mistaken : Mistake → Text → Reading
  refused : Reading

-- what `clap` takes comes to this
abbrev pub unless_refused : Kinds → Reading → Reading
unless_refused [] reading = reading
unless_refused (kind ∷ kinds) reading = refused

abbrev pub reading_by : Result Requested Mistake → List Row → Reading
reading_by (Ok asked) rows = asks_for asked
reading_by (Err m) rows = mistaken m (given_of m rows)

-- the words behind a command
abbrev pub reading_behind : CommandName → List Text → Reading
reading_behind name words =
    unless_refused (fault_of (the_command name) words)
    (reading_by (command_of name (matches_of (the_command name) words)) (matches_of (the_command name) words))

-- no word, or the option that stands first: there is none but those that ask for the help or the version
abbrev pub reading_alone : List Text → Reading
reading_alone words = unless_refused (fault_of the_program words) (mistaken (mistake.Command None) (codes ""))

-- a word of at least two bytes that begins with a hyphen, but for `--`
abbrev pub is_option : Text → Bool
is_option word = nat_lt 1 (length word) && (slice_index word 0 == 45 && not (bytes_eq word (codes "--")))

abbrev pub reading_of_first : Option CommandName → Text → List Text → Reading
reading_of_first (Some name) first rest = reading_behind name rest
reading_of_first None first rest =
    if is_option first then reading_alone (first ∷ []) else mistaken (mistake.Command (nearest first)) first

-- a command line: the first word is the command
abbrev pub reading_of : List Text → Reading
reading_of [] = reading_alone []
reading_of (first ∷ rest) = reading_of_first (name_of first) first rest

-- the words ask for this, of these records, and of these files
abbrev pub AsksFor : List Text → Request → Option Selection → List Text → Type 0
AsksFor words request asked files = reading_of words ≡ asks_for (requested request asked files)

-- `clap` takes them, but they ask for nothing that there is, since something is wrong with what was given
abbrev pub AsksForNothing : List Text → Mistake → Text → Type 0
AsksForNothing words m given = reading_of words ≡ mistaken m given

-- `clap` refuses them
abbrev pub AreRefused : List Text → Type 0
AreRefused words = reading_of words ≡ refused

-- why words request nothing: they decide which of the first two it is; memory may be refused whatever they are
abbrev pub IsRefusal : Reading → Refusal → Type 0
IsRefusal reading (refusal.Text text) = reading ≡ refused
IsRefusal reading (refusal.NoRequest m given) = reading ≡ mistaken m given.now
IsRefusal reading refusal.Memory = ⊤
