use Rattle.std.proofs.Common.{ap}
use Rattle.mseed_stream.specs.Device.{BytesRead, passed}
use Rattle.mseed_files.proofs.Kept.{kept_stays}
use Rattle.mseed_files.proofs.tracked_source.TrackedSourceSource.pull.Goals as goal

pub invariant_of-self : goal.invariant_of-self
invariant_of-self g c =
    kept_stays c.self.inside.last _ _ (passed c.pull.result c.pull.new.buf)
    (ap (λ (h : BytesRead). h.bytes) c.pull.ensures.read) c.self.invariant
