-- The fields of the line of a channel and of the line of the counts, and the first one that isn't by the grammar.
use Rattle.std.specs.Prelude.{◌≡◌, ◌⊎◌, ℕ, ◌==◌, ◌||◌, nat_eq, Bool, true, false, if◌then◌else◌, List, [], ◌∷◌, ◌++◌}
use Rattle.std.specs.Prelude.{codes, decimal, Option, Some, None}
use Rattle.std.specs.Fmt.{signed_decimal}
use Rattle.std.specs.List.{starts_with}
use Rattle.mseed_audit.specs.Audit.{count_in, head_in, tail_in}
use Rattle.mseed_audit.specs.declared.channel.Channel.{Channel}
use Rattle.mseed_audit.specs.declared.channel.Head.{Head}
use Rattle.mseed_audit.specs.declared.tail.Tail.{Tail}
use Rattle.mseed_join.specs.Lines.{channel_line, counts_line, key_text, leap_text, ratio_text}
use Rattle.mseed_join.specs.Lines.{HasChannelLine, HasCountsLine}
use Rattle.mseed_join.specs.declared.bad_field.Field.{Field}
use Rattle.mseed_join.specs.declared.bad_field.Field.TheVariants.{Key, Records, Samples, HeadNumber, HeadOffset}
use Rattle.mseed_join.specs.declared.bad_field.Field.TheVariants.{HeadStart, HeadRate, TailStart, TailSamples}
use Rattle.mseed_join.specs.declared.bad_field.Field.TheVariants.{TailRate, TailLeap, Findings, First, AllRecords}
use Rattle.mseed_join.specs.declared.bad_field.Field.TheVariants.{AllBytes}

-- a field ends where a space comes next, or the line's LF
abbrev pub ends_field : List ℕ → Bool
ends_field [] = false
ends_field (b ∷ rest) = (b == 32) || (b == 10)

-- ---- the line of a channel up to the end of a field, and these bytes after it
abbrev pub to_key : List ℕ → Channel → List ℕ → List ℕ
to_key key c rest = key_text key ++ rest

abbrev pub to_records : List ℕ → Channel → List ℕ → List ℕ
to_records key c rest = to_key key c (codes " records " ++ (decimal c.records ++ rest))

abbrev pub to_samples : List ℕ → Channel → List ℕ → List ℕ
to_samples key c rest = to_records key c (codes " samples " ++ (decimal c.samples ++ rest))

-- of a head up to the end of a part of it
abbrev pub to_head_number : Head → List ℕ → List ℕ
to_head_number h rest = decimal h.number ++ rest

abbrev pub to_head_offset : Head → List ℕ → List ℕ
to_head_offset h rest = to_head_number h (codes " " ++ (decimal h.offset ++ rest))

abbrev pub to_head_start : Head → List ℕ → List ℕ
to_head_start h rest = to_head_offset h (codes " " ++ (signed_decimal h.start ++ rest))

abbrev pub to_head_rate : Head → List ℕ → List ℕ
to_head_rate h rest = to_head_start h (codes " " ++ (ratio_text h.rate ++ rest))

-- and of a tail
abbrev pub to_tail_start : Tail → List ℕ → List ℕ
to_tail_start t rest = signed_decimal t.start ++ rest

abbrev pub to_tail_samples : Tail → List ℕ → List ℕ
to_tail_samples t rest = to_tail_start t (codes " " ++ (decimal t.samples ++ rest))

abbrev pub to_tail_rate : Tail → List ℕ → List ℕ
to_tail_rate t rest = to_tail_samples t (codes " " ++ (ratio_text t.rate ++ rest))

abbrev pub to_tail_leap : Tail → List ℕ → List ℕ
to_tail_leap t rest = to_tail_rate t (codes " " ++ (leap_text t.leap ++ rest))

-- where there is none, `none` stands for all its parts
abbrev pub or_none : {X : Type 0} → (X → List ℕ → List ℕ) → Option X → List ℕ → List ℕ
or_none text None rest = codes "none" ++ rest
or_none text (Some x) rest = text x rest

-- the line up to the end of such a part of its head, or of its tail
abbrev pub to_head : (Head → List ℕ → List ℕ) → List ℕ → Channel → List ℕ → List ℕ
to_head part key c rest = to_samples key c (codes " head " ++ or_none part (head_in c.findings) rest)

abbrev pub to_tail : (Tail → List ℕ → List ℕ) → List ℕ → Channel → List ℕ → List ℕ
to_tail part key c rest = to_head to_head_rate key c (codes " tail " ++ or_none part (tail_in c.findings) rest)

abbrev pub to_findings : List ℕ → Channel → List ℕ → List ℕ
to_findings key c rest = to_tail to_tail_leap key c (codes " findings " ++ (decimal (count_in c.findings) ++ rest))

-- ---- how far a line is by the grammar
-- some channel's line begins as this one does, up to the end of the field that comes last in these texts
pub record BeginsAsChannel (text : List ℕ → Channel → List ℕ → List ℕ) (line : List ℕ) : Type 0 where
  pub key : List ℕ
  pub channel : Channel
  pub has_line : HasChannelLine key channel
  pub rest : List ℕ
  pub is : line ≡ text key channel rest
  pub ends : ends_field rest ≡ true

pub record IsChannelLine (line : List ℕ) : Type 0 where
  pub key : List ℕ
  pub channel : Channel
  pub has_line : HasChannelLine key channel
  pub is : line ≡ channel_line key channel

-- some line of counts begins as this one does, up to the end of the number of records
pub record BeginsAsCounts (line : List ℕ) : Type 0 where
  pub records : ℕ
  pub bytes : ℕ
  pub has_line : HasCountsLine records bytes
  pub rest : List ℕ
  pub is : line ≡ codes "records " ++ (decimal records ++ rest)
  pub ends : ends_field rest ≡ true

pub record IsCountsLine (line : List ℕ) : Type 0 where
  pub records : ℕ
  pub bytes : ℕ
  pub has_line : HasCountsLine records bytes
  pub is : line ≡ counts_line records bytes

-- a line is by the grammar up to the end of a field
abbrev pub IsGoodTo : Field → List ℕ → Type 0
IsGoodTo Key line = BeginsAsChannel to_key line
IsGoodTo Records line = BeginsAsChannel to_records line
IsGoodTo Samples line = BeginsAsChannel to_samples line
IsGoodTo HeadNumber line = BeginsAsChannel (to_head to_head_number) line
IsGoodTo HeadOffset line = BeginsAsChannel (to_head to_head_offset) line
IsGoodTo HeadStart line = BeginsAsChannel (to_head to_head_start) line
IsGoodTo HeadRate line = BeginsAsChannel (to_head to_head_rate) line
IsGoodTo TailStart line = BeginsAsChannel (to_tail to_tail_start) line
IsGoodTo TailSamples line = BeginsAsChannel (to_tail to_tail_samples) line
IsGoodTo TailRate line = BeginsAsChannel (to_tail to_tail_rate) line
IsGoodTo TailLeap line = BeginsAsChannel (to_tail to_tail_leap) line
IsGoodTo Findings line = BeginsAsChannel to_findings line
IsGoodTo First line = IsChannelLine line
IsGoodTo AllRecords line = BeginsAsCounts line
IsGoodTo AllBytes line = IsCountsLine line

-- ---- the first bad field
abbrev pub tail_fields : List Field
tail_fields = TailStart ∷ TailSamples ∷ TailRate ∷ TailLeap ∷ Findings ∷ First ∷ []

abbrev pub head_fields : List Field
head_fields = HeadNumber ∷ HeadOffset ∷ HeadStart ∷ HeadRate ∷ tail_fields

abbrev pub channel_fields : List Field
channel_fields = Key ∷ Records ∷ Samples ∷ head_fields

abbrev pub counts_fields : List Field
counts_fields = AllRecords ∷ AllBytes ∷ []

-- of these fields it is the first that a line isn't good to
abbrev pub IsFirstOf : List ℕ → Field → List Field → Type 0
IsFirstOf line bad [] = ⊥
IsFirstOf line bad (f ∷ fs) = ((bad ≡ f) × ¬ (IsGoodTo f line)) ⊎ (IsGoodTo f line × IsFirstOf line bad fs)

-- the fields that a line is meant to have: those of the counts where it begins as they do
abbrev pub fields_of : List ℕ → List Field
fields_of line = if starts_with nat_eq line (codes "records ") then counts_fields else channel_fields

abbrev pub IsFirstBad : Field → List ℕ → Type 0
IsFirstBad bad line = IsFirstOf line bad (fields_of line)
