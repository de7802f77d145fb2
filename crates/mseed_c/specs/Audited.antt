-- What an audit of an archive that lies in memory returns and writes.
use Rattle.std.specs.Prelude.{◌≡◌, ℕ, true, nat_lt, if◌then◌else◌, List, [], ◌++◌, length}
use Rattle.mseed_stream.specs.Device.{BytesRead}
use Rattle.mseed_audit.specs.Summary.{Audited, IsSummary, text_of}
use Rattle.mseed_audit.specs.Each.{AuditedEach, each_text}
use Rattle.mseed_audit.specs.declared.summary.Summary.{Summary}
use Rattle.mseed_join.specs.AuditPart.{AuditedPart}
use Rattle.mseed_join.specs.Written.{part_text}
use Rattle.mseed_c.specs.Room.{overwritten}
use Rattle.mseed_c.specs.declared.auditing.Totals.{Totals}

-- A prefix of the bytes was read, all of them where the input is at its end, and no read failed.
pub record IsReadOf (bytes : List ℕ) (h : BytesRead) : Type 0 where
  pub rest : List ℕ
  pub whole : bytes ≡ h.bytes ++ rest
  pub at_end : h.is_at_end ≡ true → rest ≡ []
  pub fine : h.failures ≡ 0

-- the status of the command: 2 for a fault, 1 where some channel is broken, else 0
abbrev pub status_of : Summary → ℕ
status_of s = if s.fault then 2 else (if nat_lt 0 s.broken then 1 else 0)

-- the numbers of a summary, and the length of the whole text
abbrev pub totals_of : Summary → ℕ → Totals
totals_of s size = record { records = s.records; channels = s.channels; broken = s.broken; length = size }

-- the text of the audit of what was read, and what it says in numbers
abbrev pub SaysAudit : BytesRead → Summary → List ℕ → Type 0
SaysAudit h s text = (a : Audited h) × (IsSummary s a × (text ≡ text_of a))

-- the same, after a line for each record with a finding
abbrev pub SaysEach : BytesRead → Summary → List ℕ → Type 0
SaysEach h s text = (a : AuditedEach h) × (IsSummary s a.audited × (text ≡ each_text a))

-- the same, of the part of what was read
abbrev pub SaysPart : BytesRead → Summary → List ℕ → Type 0
SaysPart h s text = (a : AuditedPart h) × (IsSummary s a.audited × (text ≡ part_text a.written))

-- The text stands in the room, as much of it as there is room for, and its numbers and the status are reported.
pub record IsShown (Says : BytesRead → Summary → List ℕ → Type 0) (bytes old new : List ℕ) (totals : Totals)
    (status : ℕ) : Type 0 where
  pub read : BytesRead
  pub of_bytes : IsReadOf bytes read
  pub summary : Summary
  pub text : List ℕ
  pub says : Says read summary text
  pub room : new ≡ overwritten text old
  pub totals_are : totals ≡ totals_of summary (length text)
  pub status_is : status ≡ status_of summary

-- nothing was written
abbrev pub Stays : List ℕ → List ℕ → Totals → Totals → Type 0
Stays old new before totals = (new ≡ old) × (totals ≡ before)
