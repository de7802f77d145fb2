-- Parts that aren't joined since they weren't read.
use Rattle.std.proofs.Common.{ℕ, Bool, Option, Err, inl, refl}
use Rattle.mseed_stream.specs.Device.{BytesRead, BytesWritten}
use Rattle.mseed_join.specs.declared.fault.JoinFault.{JoinFault}
use Rattle.mseed_join.specs.declared.fault.JoinFault.TheVariants.{Line, Write, Memory}
use Rattle.mseed_join.specs.declared.joining.Form.{Form}
use Rattle.mseed_join.specs.Joins.{IsJoinOutcome}
use Rattle.mseed_join.specs.ReadParts.{IsReadOutcome}

pub refused_so : (A : Type 0) (form : Form) (past : Bool) (expected : Option ℕ) (fault : JoinFault) (h : BytesRead)
    (old reported now : BytesWritten) → IsReadOutcome {A = A} (Err fault) past expected h reported now
    → IsJoinOutcome form past expected (Err fault) h old old reported now
refused_so A form past expected (Line k offset flaw) h old reported now o = (refl, o)
refused_so A form past expected Write h old reported now o = absurd o
refused_so A form past expected Memory h old reported now o = (refl, inl o)
refused_so A form past expected _ h old reported now o = (refl, o.0, o.1)
