-- What is reported of archives one after another, by what is reported of each alone and at the borders of their parts.
use Rattle.std.specs.Prelude.{◌≡◌, ℕ, List, [], ◌∷◌, ◌++◌, None}
use Rattle.mseed_stream.specs.Device.{BytesRead}
use Rattle.mseed_audit.specs.Each.{AuditedEach, each_text}
use Rattle.mseed_join.specs.Notices.{AreMerged, Notice, border_notices, moved_notices, notices_of}
use Rattle.mseed_join.specs.AuditPart.{ReportedPart}
use Rattle.mseed_join.specs.Borders.{Border, notice_lines}
use Rattle.mseed_join.specs.Headline.{EndsByBytes, IsReadOf}
use Rattle.mseed_join.specs.Joined.{join_text}
use Rattle.mseed_join.specs.Written.{Written}

-- Archives one after another, their parts, and what is reported of each alone: numbers and offsets go up by the
-- records and bytes of the archives before. Each archive but the last ends without a fault.
pub data AreReportedApart : List ℕ → List Written → List Notice → Type 0 where
  none : AreReportedApart [] [] []
  last : (archive : List ℕ) (h : BytesRead) (a : ReportedPart h) → IsReadOf archive h → EndsByBytes a.parted.written.end
      → AreReportedApart archive (a.parted.written ∷ []) (notices_of a.reported)
  more : (archive others : List ℕ) (h : BytesRead) (a : ReportedPart h) (ws : List Written) (reported : List Notice)
      → IsReadOf archive h → a.parted.written.end ≡ None → AreReportedApart others ws reported
      → AreReportedApart (archive ++ others) (a.parted.written ∷ ws)
      (notices_of a.reported ++ moved_notices a.parted.written.part.records a.parted.written.part.bytes reported)

-- the lines of the archives alone and those of the borders, merged by offset, and then the text of the joint part, are
-- the text of the audit that reports each record with a finding
pub record SaysEach (reported : List Notice) (found : List Border) (joint : Written) {h : BytesRead} (a : AuditedEach h)
    : Type 0 where
  pub merged : List Notice
  pub are_merged : AreMerged reported (border_notices found) merged
  pub text : notice_lines merged ++ join_text joint ≡ each_text a
