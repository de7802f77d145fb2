-- What is reported of the records of an archive, one after another: each with a finding, and no other.
use Rattle.std.specs.Prelude.{◌≡◌, ◌<◌, ◌++◌, ℕ, List, [], ◌∷◌, map, Option, Some, None}
use Rattle.std.specs.List.{filter}
use Rattle.mseed_record.specs.Header.{key_at}
use Rattle.mseed_record.specs.View.{View}
use Rattle.mseed_steim.specs.Reading.{count_of}
use Rattle.mseed_audit.specs.declared.finding.Finding.{Finding}
use Rattle.mseed_audit.specs.declared.finding.Why.{Why}
use Rattle.mseed_audit.specs.declared.verdict.Verdict.{Verdict}
use Rattle.mseed_audit.specs.declared.verdict.Verdict.TheVariants.{Continuous, Broken}
use Rattle.mseed_audit.specs.Channels.{Added, Placed, numbered, same_key}
pub use Rattle.mseed_audit.specs.Channels.{channel_in}
use Rattle.mseed_audit.specs.Judging.{IsFound}
use Rattle.mseed_audit.specs.Verdict.{finding_at}

-- the last of these records, or, of none, the one before them
abbrev pub last_of : Option View → List Placed → Option View
last_of before [] = before
last_of before (p ∷ ps) = last_of (Some p.view) ps

-- what is found of a record after these records of its channel; of a silent one, nothing
pub record IsFoundOf (channel : List Placed) (v : View) (why : Option Why) : Type 0 where
  pub silent : count_of v ≡ 0 → why ≡ None
  pub judged : 0 < count_of v → IsFound (last_of None channel) v why

-- what is found of a record after these records of the archive
abbrev pub IsFoundAfter : List Placed → View → Option Why → Type 0
IsFoundAfter earlier v why = IsFoundOf (channel_in (key_at v.bytes) earlier) v why

-- a record with a finding
pub record Reported : Type 0 where
  pub view : View
  pub finding : Finding

-- what is reported of a record, by what is found of it
abbrev pub reported_at : Placed → Option Why → List Reported
reported_at p why = map (λ f. record { view = p.view; finding = f }) (finding_at p why)

-- what is reported of the records after others: each that has a finding, in their order
pub data AreReported : List Placed → List Placed → List Reported → Type 0 where
  none : (earlier : List Placed) → AreReported earlier [] []
  one : (earlier : List Placed) (p : Placed) (ps : List Placed) (why : Option Why) (reported : List Reported)
      → IsFoundAfter earlier p.view why
      → AreReported (earlier ++ p ∷ []) ps reported → AreReported earlier (p ∷ ps) (reported_at p why ++ reported)

-- what is reported of all records of an archive
abbrev pub AreReportedOf : List Added → List Reported → Type 0
AreReportedOf added reported = AreReported [] (numbered 1 added) reported

-- what is reported of those with this key
abbrev pub reported_with : List ℕ → List Reported → List Reported
reported_with key reported = filter (λ t. same_key key (key_at t.view.bytes)) reported

abbrev pub findings_in : List Reported → List Finding
findings_in reported = map (λ t. t.finding) reported

-- how many findings a channel has, by its verdict, if it has one
abbrev pub finding_count : Option Verdict → ℕ
finding_count None = 0
finding_count (Some (Continuous start rate records samples)) = 0
finding_count (Some (Broken first count)) = count
