use Rattle.mseed_stream.proofs.Calls.{writes_on}
use Rattle.mseed_join.proofs.Each.{flushed, flushed_in_part}
use Rattle.mseed_join.proofs.report.VecU8Report.stop.Goals as goal

pub returns-in-Ok : goal.returns-in-Ok
returns-in-Ok g c first found before =
    let write = c.in-Ok.ensures in (
      flushed before.0 c.args.fault c.deref.ensures.value write.ok write.fine,
      writes_on _ _ _ _ _ _ _ _ _ before.1 write.writes,
    )

pub returns-in-Err : goal.returns-in-Err
returns-in-Err g c first found before =
    let write = c.in-Err.ensures in (
      flushed_in_part before.0 c.args.fault c.deref.ensures.value write.err write.within write.failed,
      writes_on _ _ _ _ _ _ _ _ _ before.1 write.writes,
    )
