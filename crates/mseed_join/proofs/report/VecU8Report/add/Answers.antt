use Rattle.mseed_stream.proofs.Calls.{writes_on}
use Rattle.mseed_join.specs.private.Taking.{border_by}
use Rattle.mseed_join.proofs.Each.{lined_in_part, lined_more, lined_no_more}
use Rattle.mseed_join.proofs.report.VecU8Report.add.Goals as goal

pub returns-in-Ok-write_beyond-clause-reported : goal.returns-in-Ok-write_beyond-clause-reported
returns-in-Ok-write_beyond-clause-reported g c first found before =
    let write = c.in-Ok-write_beyond.ensures in (
      lined_more before.0 (border_by c.args.reported.now) c.in-Ok.ensures write.ok write.fine,
      writes_on _ _ _ _ _ _ _ _ _ before.1 write.writes,
    )

pub returns-in-Err-clause-reported : goal.returns-in-Err-clause-reported
returns-in-Err-clause-reported g c first found before =
    (lined_no_more before.0 (border_by c.args.reported.now), before.1)

pub returns-in-Err-write_beyond-clause-reported : goal.returns-in-Err-write_beyond-clause-reported
returns-in-Err-write_beyond-clause-reported g c first found before =
    let write = c.in-Err-write_beyond.ensures in (
      lined_in_part before.0 (border_by c.args.reported.now) c.in-Ok.ensures write.err,
      writes_on _ _ _ _ _ _ _ _ _ before.1 write.writes,
    )
