-- What an audit says of a channel, by its records in their order.
use Rattle.std.specs.Prelude.{⊤, ◌≡◌, ◌↔◌, ℕ, List, [], ◌∷◌, ◌++◌, length, Option, Some, None, Bool, true, false, ℤ}
use Rattle.std.specs.Prelude.{IsTrue}
use Rattle.std.specs.Ordering.{nat_cmp}
use Rattle.std.specs.Cmp.Lexicographic.{slice_cmp}
use Rattle.std.specs.List.Sorted.{IsStrictlySortedBy}
use Rattle.std.specs.Map.{keys_of, lookup}
use Rattle.mseed_time.specs.Rate.{Ratio}
use Rattle.mseed_record.specs.View.{View, start_of}
use Rattle.mseed_audit.specs.declared.finding.Why.{Why}
use Rattle.mseed_audit.specs.declared.finding.Finding.{Finding}
use Rattle.mseed_audit.specs.declared.verdict.Verdict.{Verdict}
use Rattle.mseed_audit.specs.declared.verdict.Verdict.TheVariants.{Continuous, Broken}
use Rattle.mseed_audit.specs.Channels.{Added, Placed, channel_in, numbered, same_key, sample_count, views_in}
use Rattle.mseed_audit.specs.Follows.{IsContinuous}
use Rattle.mseed_audit.specs.Judging.{IsFound, known_rate}

-- a record's finding, if it has one, with the record's number and offset
abbrev pub finding_at : Placed → Option Why → List Finding
finding_at p None = []
finding_at p (Some why) = record { number = p.number; offset = p.offset; why = why } ∷ []

-- the findings of the records after another, each judged by the one just before it
pub data AreFindings : Option View → List Placed → List Finding → Type 0 where
  none : (before : Option View) → AreFindings before [] []
  one : (before : Option View) (p : Placed) (ps : List Placed) (why : Option Why) (found : List Finding)
      → IsFound before p.view why
      → AreFindings (Some p.view) ps found → AreFindings before (p ∷ ps) (finding_at p why ++ found)

-- a channel without a finding: its first record's start and rate, and its counts
pub record IsRun (first : Placed) (rest : List Placed) (start : ℤ) (rate : Ratio) (records samples : ℕ) : Type 0 where
  pub findings : AreFindings None (first ∷ rest) []
  pub start_is : start ≡ start_of first.view
  pub rate_is : known_rate first.view ≡ Some rate
  pub records_is : records ≡ length (first ∷ rest)
  pub samples_is : samples ≡ sample_count (first ∷ rest)

-- the verdict on a channel's records: continuous where nothing is found, with the first record's start and rate;
-- else broken, with the first finding and their number
abbrev pub IsVerdict : Verdict → List Placed → Type 0
IsVerdict (Continuous start rate records samples) ps =
    (first : Placed) × ((rest : List Placed)
    × ((ps ≡ first ∷ rest) × IsRun first rest start rate records samples))
IsVerdict (Broken first count) ps =
    (rest : List Finding) × (AreFindings None ps (first ∷ rest) × (count ≡ length (first ∷ rest)))

-- the verdict says that the channel is continuous
abbrev pub says_continuous : Verdict → Bool
says_continuous (Continuous start rate records samples) = true
says_continuous (Broken first count) = false

-- a channel has a verdict exactly where it has records
abbrev pub IsVerdictAt : Option Verdict → List Placed → Type 0
IsVerdictAt None ps = ps ≡ []
IsVerdictAt (Some verdict) ps = IsVerdict verdict ps

-- a verdict, where there is one, says that the channel is continuous exactly where it is
abbrev pub IsExactAt : Option Verdict → List Placed → Type 0
IsExactAt None ps = ⊤
IsExactAt (Some verdict) ps = IsTrue (says_continuous verdict) ↔ IsContinuous (views_in ps)

-- the verdicts on all channels that have samples among these records, in the ascending order of their keys
pub record AreVerdictsAmong (ps : List Placed) (verdicts : List (List ℕ × Verdict)) : Type 0 where
  pub ascending : IsStrictlySortedBy (slice_cmp nat_cmp) (keys_of verdicts)
  pub each : (key : List ℕ) → IsVerdictAt (lookup (same_key key) verdicts) (channel_in key ps)
  pub exact : (key : List ℕ) → IsExactAt (lookup (same_key key) verdicts) (channel_in key ps)

-- the verdicts on all channels of an archive
abbrev pub AreVerdicts : List Added → List (List ℕ × Verdict) → Type 0
AreVerdicts added verdicts = AreVerdictsAmong (numbered 1 added) verdicts
