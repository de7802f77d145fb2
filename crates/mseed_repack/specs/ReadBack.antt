-- What was written when an archive was packed anew, read again.
use Rattle.std.specs.Prelude.{⊤, ◌≡◌, ◌↔◌, ℕ, ◌<◌, ◌^◌, List, [], ◌++◌, length, IsTrue, All, Result, Ok}
use Rattle.std.specs.List.{AllByRecursion}
use Rattle.mseed_record.specs.View.{View, IsView}
use Rattle.mseed_stream.specs.Archive.{IsArchive}
use Rattle.mseed_stream.specs.Device.{BytesRead, BytesWritten}
use Rattle.mseed_stream.specs.Walk.{bytes_in}
use Rattle.mseed_audit.specs.Channels.{added_from}
use Rattle.mseed_audit.specs.Series.{Trace, IsSeriesOf}
use Rattle.mseed_audit.specs.Verdict.{AreVerdicts, says_continuous}
use Rattle.mseed_pack.specs.declared.options.Options.{Options}
use Rattle.mseed_repack.specs.OneRepacking.{ComeToOne}
use Rattle.mseed_repack.specs.Repack.{Channel, IsRepacking, IsWhole, records_in}
use Rattle.mseed_repack.specs.declared.fault.RepackFault.{RepackFault}

-- the text was read, to its end, and no read failed
pub record IsReadOf (text : List ℕ) (h : BytesRead) : Type 0 where
  pub bytes : h.bytes ≡ text
  pub ended : IsTrue h.is_at_end
  pub fine : h.failures ≡ 0

-- What was written reads back.
pub record IsReadBack (o : Options) (h : BytesRead) (old new : BytesWritten) : Type 0 where
  -- the records that were read
  pub views : List View
  pub read : IsWhole h views
  -- the text that was written is an archive of these records
  pub text : List ℕ
  pub wrote : new.bytes ≡ old.bytes ++ text
  pub written : List View
  pub archive : IsArchive text (bytes_in written) []
  pub each : AllByRecursion IsView written
  -- its audit calls each channel continuous
  pub channels : List Channel
  pub verdicts : AreVerdicts (added_from 0 written) channels
  pub continuous : All (λ c. IsTrue (says_continuous c.1)) channels
  -- the series of its channels are those of the input's
  pub series : (key : List ℕ) (s : Trace) → IsSeriesOf s (records_in views key) ↔ IsSeriesOf s (records_in written key)
  -- and whoever packs it anew by the same options comes to the same text, if it has no more records than are read
  pub again : (other : BytesRead) (result : Result ⊤ RepackFault) (before after : BytesWritten)
      → length written < 2 ^ 40 → IsReadOf text other
      → IsRepacking o result other before after → ComeToOne (Ok tt) result old new before after
