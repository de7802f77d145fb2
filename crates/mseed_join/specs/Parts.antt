-- The part of an archive, and how parts are joined.
use Rattle.std.specs.Prelude.{⊤, ◌≡◌, ◌<◌, ◌+◌, ◌^◌, ℕ, List, [], ◌∷◌, length, Option, Some, None, IsSome}
use Rattle.std.specs.List.{All}
use Rattle.std.specs.Map.{keys_of, lookup, values_of}
use Rattle.std.specs.Option.{option_map}
use Rattle.std.specs.Ordering.{nat_cmp}
use Rattle.std.specs.Cmp.Lexicographic.{slice_cmp}
use Rattle.std.specs.List.Sorted.{IsStrictlySortedBy}
use Rattle.mseed_record.specs.View.{View}
use Rattle.mseed_audit.specs.Channels.{same_key, records_of, added_from}
use Rattle.mseed_audit.specs.declared.channel.Channel.{Channel}
use Rattle.mseed_audit.specs.declared.channel.Findings.{Findings}
use Rattle.mseed_audit.specs.declared.channel.Findings.TheVariants.{Nothing, Counted}
use Rattle.mseed_audit.specs.declared.channel.Head.{Head}
use Rattle.mseed_join.specs.Joining.{moved_channel, channel_then, channel_joined}
use Rattle.mseed_audit.specs.Audit.{head_in, StandsAt}

-- what a clause sees of a part: what is kept of each channel, by its key, and how many records and bytes there are
pub record Held : Type 0 where
  pub channels : List (List ℕ × Channel)
  pub records : ℕ
  pub bytes : ℕ

-- the bytes of records
abbrev pub bytes_in : List View → ℕ
bytes_in [] = 0
bytes_in (v ∷ vs) = length v.bytes + bytes_in vs

abbrev pub IsAscending : List (List ℕ × Channel) → Type 0
IsAscending channels = IsStrictlySortedBy (slice_cmp nat_cmp) (keys_of channels)

-- what is kept of the channel with this key
abbrev pub kept_of : List ℕ → List (List ℕ × Channel) → Option Channel
kept_of key channels = lookup (same_key key) channels

-- the part of these records, one after another
pub record IsPartOf (h : Held) (views : List View) : Type 0 where
  pub records : h.records ≡ length views
  pub bytes : h.bytes ≡ bytes_in views
  pub ascending : IsAscending h.channels
  pub each : (key : List ℕ) → StandsAt (kept_of key h.channels) (records_of key (added_from 0 views))

-- the joint part of two, the second after the first
pub record IsJoint (a b h : Held) : Type 0 where
  pub records : h.records ≡ a.records + b.records
  pub bytes : h.bytes ≡ a.bytes + b.bytes
  pub ascending : IsAscending h.channels
  pub each : (key : List ℕ) → kept_of key h.channels
      ≡ channel_joined (kept_of key a.channels) (option_map (moved_channel a.records a.bytes) (kept_of key b.channels))

-- channels alone, which add no record or byte
abbrev pub channels_alone : List (List ℕ × Channel) → Held
channels_alone channels = record { channels = channels; records = 0; bytes = 0 }

abbrev pub one_channel : List ℕ → Channel → Held
one_channel key c = channels_alone ((key, c) ∷ [])

-- these numbers of records and bytes, and no channel
abbrev pub counts_alone : ℕ → ℕ → Held
counts_alone records bytes = record { channels = []; records = records; bytes = bytes }

-- the second has a channel that the first hasn't
abbrev pub HasNewChannel : Held → Held → Type 0
HasNewChannel a b = (key : List ℕ) × (IsSome (kept_of key b.channels) × (kept_of key a.channels ≡ None))

-- ---- no number passes the limit, 2^63 - 1
abbrev pub HeadFits : ℕ → ℕ → Option Head → Type 0
HeadFits d e None = ⊤
HeadFits d e (Some h) = (d + h.number < 2 ^ 63) × (e + h.offset < 2 ^ 63)

abbrev pub FirstFits : ℕ → ℕ → Findings → Type 0
FirstFits d e (Nothing head tail) = ⊤
FirstFits d e (Counted count first head tail) = (d + first.number < 2 ^ 63) × (e + first.offset < 2 ^ 63)

-- the numbers and offsets of a channel can go up by `d` records and `e` bytes
abbrev pub Moves : ℕ → ℕ → Channel → Type 0
Moves d e c = HeadFits d e (head_in c.findings) × FirstFits d e c.findings

abbrev pub CountFits : Findings → Type 0
CountFits (Nothing head tail) = ⊤
CountFits (Counted count first head tail) = count < 2 ^ 63

abbrev pub CountsFit : Channel → Type 0
CountsFit c = (c.records < 2 ^ 63) × (c.samples < 2 ^ 63) × CountFits c.findings

-- no number of a channel passes it
abbrev pub IsWithin : Channel → Type 0
IsWithin c = CountsFit c × Moves 0 0 c

abbrev pub AreWithin : List (List ℕ × Channel) → Type 0
AreWithin channels = All (λ c. IsWithin c) (values_of channels)

-- by what is kept at a key: neither a number that goes up nor a count of what is joined
abbrev pub FitsAt : ℕ → ℕ → Option Channel → Option Channel → Type 0
FitsAt d e c None = ⊤
FitsAt d e None (Some o) = Moves d e o × CountsFit o
FitsAt d e (Some c) (Some o) = Moves d e o × CountsFit (channel_then c (moved_channel d e o))

-- no count of what is joined passes it, and no number that goes up, whether it is kept or not
pub record Fits (a b : Held) : Type 0 where
  pub records : a.records + b.records < 2 ^ 63
  pub bytes : a.bytes + b.bytes < 2 ^ 63
  pub each : (key : List ℕ) → FitsAt a.records a.bytes (kept_of key a.channels) (kept_of key b.channels)

-- no number of a part passes it
pub record IsSmall (h : Held) : Type 0 where
  pub records : h.records < 2 ^ 63
  pub bytes : h.bytes < 2 ^ 63
  pub channels : AreWithin h.channels
