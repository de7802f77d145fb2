-- What contracts read of a `RecordView`.
use Rattle.std.specs.Prelude.{length, Result, Ok, Err}
use Rattle.mseed_record.specs.declared.framer.Scan.{Scan}
use Rattle.mseed_record.specs.declared.framer.Scan.TheVariants.{Need, Record, Not}
use Rattle.mseed_record.specs.declared.fault.ViewFault.{ViewFault}
use Rattle.mseed_record.specs.declared.fault.ViewFault.TheVariants.{Not as Refused, Short}
use Rattle.mseed_record.specs.declared.view.RecordView.{RecordView}
use Rattle.mseed_record.specs.View.{View}

-- what it says of its record
abbrev pub view_of : RecordView → View
view_of r = record {
  bytes = r.bytes.now;
  order = r.order;
  encoding = r.encoding;
  payload_order = r.payload_order;
  microseconds = r.microseconds;
  has_rate_blockette = r.has_rate_blockette;
}

-- what framing answers where this is answered of a view
abbrev pub scan_of : Result RecordView ViewFault → Scan
scan_of (Ok r) = Record (length (view_of r).bytes)
scan_of (Err (Refused f)) = Not f
scan_of (Err (Short k)) = Need k
