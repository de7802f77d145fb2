-- Words of a part's text that is added to another: no public contract is stated by them.
use Rattle.std.specs.Prelude.{◌≡◌, ℕ, List, ◌++◌}
use Rattle.mseed_record.specs.View.{View}
use Rattle.mseed_stream.specs.Device.{BytesRead}
use Rattle.mseed_audit.specs.declared.summary.Summary.{Summary}
use Rattle.mseed_audit.specs.Summary.{IsSummary}
use Rattle.mseed_join.specs.AuditPart.{AuditedPart}
use Rattle.mseed_join.specs.Written.{part_text}

-- the text of the part of these records was added, and the answer is that of their audit
pub record IsPushed (s : Summary) (h : BytesRead) (views : List View) (text next : List ℕ) : Type 0 where
  pub parted : AuditedPart h
  pub views_are : parted.audited.views ≡ views
  pub summary : IsSummary s parted.audited
  pub text_is : next ≡ text ++ part_text parted.written
