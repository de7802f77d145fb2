-- What is reported of findings: of the records of archives, and of the borders where their parts are joined.
use Rattle.std.specs.Prelude.{⊤, ◌≤◌, ◌<◌, ℕ, ℤ, ◌+◌, List, [], ◌∷◌, ◌++◌, length, map, Option, None, IsPermutation}
use Rattle.std.specs.List.{AllByRecursion}
use Rattle.mseed_time.specs.declared.fault.TimeFault.{TimeFault}
use Rattle.mseed_record.specs.Header.{key_at}
use Rattle.mseed_record.specs.View.{View, start_of}
use Rattle.mseed_audit.specs.declared.finding.Finding.{Finding}
use Rattle.mseed_audit.specs.Judging.{time_fault_of}
use Rattle.mseed_audit.specs.Reported.{Reported}
use Rattle.mseed_join.specs.PartBorders.{Border}
use Rattle.mseed_join.specs.Joining.{moved_finding}

-- a finding that is reported: the channel, the start of the record, unless a field of it is out of its range, and the
-- finding
pub record Notice : Type 0 where
  pub key : List ℕ
  pub fault : Option TimeFault
  pub start : ℤ
  pub finding : Finding

abbrev pub notice_of : Reported → Notice
notice_of t = record {
  key = key_at t.view.bytes;
  fault = time_fault_of t.view;
  start = start_of t.view;
  finding = t.finding;
}

abbrev pub notices_of : List Reported → List Notice
notices_of reported = map notice_of reported

-- of a border: its record's start is in its range
abbrev pub border_notice : Border → Notice
border_notice b = record { key = b.key; fault = None; start = b.start; finding = b.finding }

abbrev pub border_notices : List Border → List Notice
border_notices found = map border_notice found

-- a notice, with `d` more records and `e` more bytes before it
abbrev pub moved_notice : ℕ → ℕ → Notice → Notice
moved_notice d e n = record {
  key = n.key;
  fault = n.fault;
  start = n.start;
  finding = moved_finding d e n.finding;
}

abbrev pub moved_notices : ℕ → ℕ → List Notice → List Notice
moved_notices d e notices = map (moved_notice d e) notices

-- the offsets rise strictly, from this one on
abbrev pub RiseFrom : ℕ → List Notice → Type 0
RiseFrom least [] = ⊤
RiseFrom least (n ∷ ns) = (least ≤ n.finding.offset) × RiseFrom (n.finding.offset + 1) ns

-- two lists merged by offset: what is in either stands there, each once, and the offsets rise
pub record AreMerged (ns ms merged : List Notice) : Type 0 where
  pub members : IsPermutation (ns ++ ms) merged
  pub rise : RiseFrom 0 merged

-- no record is empty
abbrev pub HaveBytes : List View → Type 0
HaveBytes views = AllByRecursion (λ (v : View). 0 < length v.bytes) views
