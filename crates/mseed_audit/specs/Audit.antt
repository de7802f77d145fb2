-- What an audit keeps, by the records that were added.
use Rattle.std.specs.Prelude.{◌≡◌, ℕ, ℤ, ◌*◌, ◌==◌, if◌then◌else◌, List, [], ◌∷◌, ◌++◌, length, Option, Some, None}
use Rattle.std.specs.Prelude.{IsSome}
use Rattle.std.specs.Map.{keys_of, lookup}
use Rattle.std.specs.Ordering.{nat_cmp}
use Rattle.std.specs.Cmp.Lexicographic.{slice_cmp}
use Rattle.std.specs.List.Sorted.{IsStrictlySortedBy}
use Rattle.mseed_time.specs.Join.{join_of}
use Rattle.mseed_time.specs.Rate.{Ratio}
use Rattle.mseed_record.specs.View.{View, start_of, leap_of}
use Rattle.mseed_steim.specs.Reading.{count_of}
use Rattle.mseed_audit.specs.declared.channel.Channel.{Channel}
use Rattle.mseed_audit.specs.declared.channel.Findings.{Findings}
use Rattle.mseed_audit.specs.declared.channel.Findings.TheVariants.{Nothing, Counted}
use Rattle.mseed_audit.specs.declared.channel.Head.{Head}
use Rattle.mseed_audit.specs.declared.finding.Finding.{Finding}
use Rattle.mseed_audit.specs.declared.finding.Why.{Why}
use Rattle.mseed_audit.specs.declared.finding.Why.TheVariants.{RateChange}
use Rattle.mseed_audit.specs.declared.tail.Tail.{Tail}
use Rattle.mseed_audit.specs.declared.verdict.Verdict.{Verdict}
use Rattle.mseed_audit.specs.declared.verdict.Verdict.TheVariants.{Continuous, Broken}
use Rattle.mseed_audit.specs.Channels.{Added, Placed, channel_in, numbered, same_key, sample_count}
use Rattle.mseed_audit.specs.Judging.{known_rate, IsFound, step_in, why_by}
use Rattle.mseed_audit.specs.Verdict.{AreFindings}

-- the beginning of a channel whose first record has no finding of its own
pub record IsHead (h : Head) (p : Placed) : Type 0 where
  pub sound : IsFound None p.view None
  pub number : h.number ≡ p.number
  pub offset : h.offset ≡ p.offset
  pub start : h.start ≡ start_of p.view
  pub rate : known_rate p.view ≡ Some h.rate

-- or nothing, where it has one
abbrev pub IsHeadOf : Option Head → Placed → Type 0
IsHeadOf None p = (why : Why) × IsFound None p.view (Some why)
IsHeadOf (Some h) p = IsHead h p

-- the end of a record whose time and rate are known
pub record IsTail (t : Tail) (v : View) : Type 0 where
  pub start : t.start ≡ start_of v
  pub samples : t.samples ≡ count_of v
  pub rate : known_rate v ≡ Some t.rate
  pub leap : t.leap ≡ leap_of v.bytes

-- or nothing, where they aren't known
abbrev pub IsTailOf : Option Tail → View → Type 0
IsTailOf None v = known_rate v ≡ None
IsTailOf (Some t) v = IsTail t v

abbrev pub head_in : Findings → Option Head
head_in (Nothing head tail) = Some head
head_in (Counted count first head tail) = head

abbrev pub tail_in : Findings → Option Tail
tail_in (Nothing head tail) = Some tail
tail_in (Counted count first head tail) = tail

-- how many records have a finding
abbrev pub count_in : Findings → ℕ
count_in (Nothing head tail) = 0
count_in (Counted count first head tail) = count

-- the first of these findings, and their number
abbrev pub AreCounted : Findings → List Finding → Type 0
AreCounted (Nothing head tail) found = found ≡ []
AreCounted (Counted count first head tail) found =
    (rest : List Finding) × ((found ≡ first ∷ rest) × (count ≡ length found))

-- what is kept of a channel with these records
pub record Stands (c : Channel) (ps : List Placed) : Type 0 where
  pub records : c.records ≡ length ps
  pub samples : c.samples ≡ sample_count ps
  pub first : Placed
  pub rest : List Placed
  pub begins : ps ≡ first ∷ rest
  pub head : IsHeadOf (head_in c.findings) first
  pub prefix : List Placed
  pub last : Placed
  pub ends : ps ≡ prefix ++ last ∷ []
  pub tail : IsTailOf (tail_in c.findings) last.view
  pub found : List Finding
  pub are_found : AreFindings None ps found
  pub counted : AreCounted c.findings found

abbrev pub StandsAt : Option Channel → List Placed → Type 0
StandsAt None ps = ps ≡ []
StandsAt (Some c) ps = Stands c ps

-- what is kept of all channels that have samples among these records, in the ascending order of their keys
pub record AreChannelsAmong (ps : List Placed) (channels : List (List ℕ × Channel)) : Type 0 where
  pub ascending : IsStrictlySortedBy (slice_cmp nat_cmp) (keys_of channels)
  pub each : (key : List ℕ) → StandsAt (lookup (same_key key) channels) (channel_in key ps)

-- what is kept of all channels of an archive
abbrev pub AreChannels : List Added → List (List ℕ × Channel) → Type 0
AreChannels added channels = AreChannelsAmong (numbered 1 added) channels

-- why a record of this start and rate doesn't follow one that ends so: another rate comes first, then a leap second
-- that nobody can say, then the join
abbrev pub break_by : Tail → ℤ → Ratio → Option Why
break_by t start rate =
    if t.rate.num * rate.den == rate.num * t.rate.den
    then why_by t.leap (join_of t.start t.samples t.rate (step_in t.leap) start)
    else Some RateChange

-- the verdict on a channel, by what is kept of it
abbrev pub verdict_by : Findings → ℕ → ℕ → Verdict
verdict_by (Nothing head tail) records samples = Continuous head.start head.rate records samples
verdict_by (Counted count first head tail) records samples = Broken first count

abbrev pub verdict_of : Channel → Verdict
verdict_of c = verdict_by c.findings c.records c.samples

-- what a clause sees of an audit: what is kept of each channel, by its key, and how many records were added or passed
pub record Held : Type 0 where
  pub channels : List (List ℕ × Channel)
  pub added : ℕ

-- The audit holds what these records say, of `count` that came: each has its number and offset among all that came,
-- those that the audit passed too.
pub record IsAuditAmong (h : Held) (ps : List Placed) (count : ℕ) : Type 0 where
  pub number : h.added ≡ count
  pub each : (key : List ℕ) → StandsAt (lookup (same_key key) h.channels) (channel_in key ps)

-- the audit holds what these records, added one after another, say
abbrev pub IsAuditOf : Held → List Added → Type 0
IsAuditOf h added = IsAuditAmong h (numbered 1 added) (length added)

-- something is kept of the channel with this key: of an audit of some records, one of them is of the channel
abbrev pub HoldsKey : Held → List ℕ → Type 0
HoldsKey h key = IsSome (lookup (same_key key) h.channels)
