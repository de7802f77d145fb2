use Rattle.std.proofs.Common.{◌≡◌, Some}
use Rattle.mseed_time.specs.Rate.{Ratio}
use Rattle.mseed_audit.specs.Judging.{known_rate, read}
use Rattle.mseed_audit.proofs.Judged.{found_whole}
use Rattle.mseed_audit.proofs.channel.Examined.judged.Goals as goal
use Rattle.mseed_audit.proofs.channel.Examined.judged.Goals.{in-Some, in-None+in-Some-before, in-None+in-None-before}

pub returns-clause-why : goal.returns-clause-why
returns-clause-why c = λ v b examined before.
    let next : Ratio = c.args.self.now.tail.rate in
    let known : known_rate v ≡ Some next = examined.tail.rate in
    let whole = found_whole c.args.self.now c.args.before b v examined in
    rw c.with_end.ensures.why (elim c.match-self.branch [
      | in-Some w ↦ rw w.why-is (read next known w.in-Some.fault (rw w.in-Some.is at examined.read))
      | in-None+in-Some-before w ↦ rw (w.why-is, w.break_to.ensures)
          (rw w.in-Some-before.is at (whole w.in-None.is before))
      | in-None+in-None-before w ↦ rw w.why-is (rw w.in-None-before.is at (whole w.in-None.is before))
    ])
