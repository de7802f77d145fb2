-- A text about an archive that was written.
use Rattle.std.specs.Prelude.{◌≡◌, ℕ, List, ◌++◌}
use Rattle.mseed_stream.specs.Device.{BytesRead, BytesWritten}
use Rattle.mseed_audit.specs.declared.summary.Summary.{Summary}
use Rattle.mseed_c.specs.Audited.{SaysAudit, SaysEach, SaysPart}
use Rattle.mseed_c.specs.declared.auditing.Text.{Text}
use Rattle.mseed_c.specs.declared.auditing.Text.TheVariants.{Audit, Each, Part}

-- what a text says of what was read, with its numbers
abbrev pub says_of : Text → BytesRead → Summary → List ℕ → Type 0
says_of Audit = SaysAudit
says_of Each = SaysEach
says_of Part = SaysPart

-- a text was written, which says this of what was read, and its numbers are these
pub record IsReported (Says : BytesRead → Summary → List ℕ → Type 0) (summary : Summary) (h : BytesRead)
    (old new : BytesWritten) : Type 0 where
  pub text : List ℕ
  pub says : Says h summary text
  pub bytes : new.bytes ≡ old.bytes ++ text
