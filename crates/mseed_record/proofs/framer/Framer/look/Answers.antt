use Rattle.std.proofs.Common.{Option, IfSome, subst}
use Rattle.mseed_record.specs.declared.framer.Reached.{Reached}
use Rattle.mseed_record.specs.Framer.{HasReached}
use Rattle.mseed_record.proofs.Reached.{reached_more}
use Rattle.mseed_record.proofs.Scanned.{scanned}
use Rattle.mseed_record.proofs.framer.Framer.look.Goals as goal
use Rattle.mseed_record.proofs.framer.Framer.look.Goals.{in-Some, in-None+in-Ok}

pub returns-in-Err-clause-bound : goal.returns-in-Err-clause-bound
returns-in-Err-clause-bound c =
    (scanned c.args.prefix.now c.in-Err.answer (λ i. (c.type_inv.prefix i).fits) c.in-Err.ensures.err).bound

pub go_along-answer-requires : goal.go_along-answer-requires
go_along-answer-requires c =
    let is_there = λ (o : Option Reached). IfSome o (λ r. HasReached r c.args.prefix.now) in
    elim c.match-self.branch [
      | in-Some w ↦ rw w.from-is (subst is_there w.in-Some.is c.requires)
      | in-None+in-Ok w ↦ rw w.from-is w.in-Ok.ensures.ok
    ]

pub returns-clause-goes_on : goal.returns-clause-goes_on
returns-clause-goes_on c more =
    reached_more c.go_along-answer.result.0 c.args.prefix.now more c.go_along-answer.ensures.reached

pub returns-clause-record : goal.returns-clause-record
returns-clause-record c k e =
    ((scanned c.args.prefix.now c.go_along-answer.result.1 (λ i. (c.type_inv.prefix i).fits)
    c.go_along-answer.ensures.decides).record_is k).0 e

pub returns-clause-bound : goal.returns-clause-bound
returns-clause-bound c =
    (scanned c.args.prefix.now c.go_along-answer.result.1 (λ i. (c.type_inv.prefix i).fits)
    c.go_along-answer.ensures.decides).bound
