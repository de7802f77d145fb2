-- Passing the fields of a line from left to right, up to the first that isn't by the grammar.
use Rattle.std.specs.Prelude.{ℕ, ◌-◌, ◌^◌, ◌||◌, nat_lt, Bool, true, false, if◌then◌else◌, List, codes}
use Rattle.std.specs.Prelude.{Option, Some, None}
use Rattle.mseed_join.specs.Fields.{ends_field}
use Rattle.mseed_join.specs.declared.bad_field.Field.{Field}
use Rattle.mseed_join.specs.declared.bad_field.Field.TheVariants.{Key, Records, Samples, HeadNumber, HeadOffset}
use Rattle.mseed_join.specs.declared.bad_field.Field.TheVariants.{HeadStart, HeadRate, TailStart, TailSamples}
use Rattle.mseed_join.specs.declared.bad_field.Field.TheVariants.{TailRate, TailLeap, Findings, First, AllRecords}
use Rattle.mseed_join.specs.declared.bad_field.Field.TheVariants.{AllBytes}
use Rattle.mseed_join.specs.private.Reading.{◌>>=◌, after, key_at, leap_at, number_at, ratio_at, start_at}

-- the bytes after what stands here, if a field ends with it
abbrev pub ended : {X : Type 0} → Option (X × List ℕ) → Option (List ℕ)
ended o = o >>= λ x. if ends_field x.1 then Some x.1 else None

-- what stands after a word
abbrev pub past : {X : Type 0} → List ℕ → (List ℕ → Option (X × List ℕ)) → List ℕ → Option (List ℕ)
past word read bytes = ended (after word bytes >>= read)

unfoldable pub past_key : List ℕ → Option (List ℕ)
past_key bytes = ended (key_at bytes)

unfoldable pub past_word : List ℕ → List ℕ → Option (List ℕ)
past_word word bytes = after word bytes >>= λ rest. if ends_field rest then Some rest else None

abbrev pub count_at : List ℕ → Option (ℕ × List ℕ)
count_at bytes = number_at (2 ^ 63 - 1) bytes

unfoldable pub past_count : List ℕ → List ℕ → Option (List ℕ)
past_count word bytes = past word count_at bytes

unfoldable pub past_start : List ℕ → List ℕ → Option (List ℕ)
past_start word bytes = past word start_at bytes

unfoldable pub past_rate : List ℕ → Option (List ℕ)
past_rate bytes = past (codes " ") ratio_at bytes

-- one sample at least
abbrev pub samples_at : List ℕ → Option (ℕ × List ℕ)
samples_at bytes = number_at (2 ^ 16 - 1) bytes >>= λ n. if nat_lt 0 n.0 then Some n else None

unfoldable pub past_samples : List ℕ → Option (List ℕ)
past_samples bytes = past (codes " ") samples_at bytes

unfoldable pub past_leap : List ℕ → Option (List ℕ)
past_leap bytes = past (codes " ") leap_at bytes

-- none only where there are a head and a tail
abbrev pub findings_at : Bool → List ℕ → Option (ℕ × List ℕ)
findings_at both bytes = count_at bytes >>= λ n. if nat_lt 0 n.0 || both then Some n else None

unfoldable pub past_findings : Bool → List ℕ → Option (List ℕ)
past_findings both bytes = past (codes " findings ") (findings_at both) bytes

-- this field where nothing was read of it, else what comes after it
abbrev pub or_bad : {X : Type 0} → Field → Option X → (X → Field) → Field
or_bad field None others = field
or_bad field (Some x) others = others x

-- what comes after this where it stands there, else this
abbrev pub or_else : {X : Type 0} → Option X → (X → Field) → Field → Field
or_else None others field = field
or_else (Some x) others field = others x

-- the first bad field of a channel, from some fields on
abbrev pub from_findings : Bool → List ℕ → Field
from_findings both bytes = or_bad Findings (past_findings both bytes) (λ rest. First)

abbrev pub parts_of_tail : Bool → List ℕ → Field
parts_of_tail head bytes = or_bad TailStart (past_start (codes " tail ") bytes) (λ a.
    or_bad TailSamples (past_samples a) (λ b. or_bad TailRate (past_rate b) (λ c.
    or_bad TailLeap (past_leap c) (from_findings head))))

unfoldable pub from_tail : Bool → List ℕ → Field
from_tail head bytes =
    or_else (past_word (codes " tail none") bytes) (from_findings false) (parts_of_tail head bytes)

abbrev pub parts_of_head : List ℕ → Field
parts_of_head bytes = or_bad HeadNumber (past_count (codes " head ") bytes) (λ a.
    or_bad HeadOffset (past_count (codes " ") a) (λ b. or_bad HeadStart (past_start (codes " ") b) (λ c.
    or_bad HeadRate (past_rate c) (from_tail true))))

unfoldable pub from_head : List ℕ → Field
from_head bytes = or_else (past_word (codes " head none") bytes) (from_tail false) (parts_of_head bytes)

unfoldable pub bad_in_channel : List ℕ → Field
bad_in_channel line = or_bad Key (past_key line) (λ a. or_bad Records (past_count (codes " records ") a) (λ b.
    or_bad Samples (past_count (codes " samples ") b) from_head))

unfoldable pub bad_in_counts : List ℕ → Field
bad_in_counts line = or_bad AllRecords (past_count (codes "records ") line) (λ rest. AllBytes)
