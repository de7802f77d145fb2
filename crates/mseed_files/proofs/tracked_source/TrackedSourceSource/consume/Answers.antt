use Rattle.std.proofs.Common.{ap, take}
use Rattle.mseed_stream.specs.Device.{BytesRead}
use Rattle.mseed_files.proofs.Kept.{kept_stays}
use Rattle.mseed_files.proofs.tracked_source.TrackedSourceSource.consume.Goals as goal

pub invariant_of-self : goal.invariant_of-self
invariant_of-self g c =
    kept_stays c.self.inside.last _ _ (take c.args.amount (g.R.Source.lent c.self.inside.source))
    (ap (λ (h : BytesRead). h.bytes) c.consume.ensures.read) c.self.invariant
