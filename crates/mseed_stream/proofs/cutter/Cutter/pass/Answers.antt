use Rattle.std.proofs.Common.{ap, ◌∙◌, arith}
use Rattle.std.proofs.lemmas.List.{length-take-le}
use Rattle.mseed_record.proofs.Called.{record_long}
use Rattle.mseed_stream.specs.private.Steps.{state_of}
use Rattle.mseed_stream.specs.CutterState.{CutterState}
use Rattle.mseed_stream.proofs.Passed.{passed_along, passed_handed, passed_records, record_few, stands_after}
use Rattle.mseed_stream.proofs.cutter.Cutter.pass.Goals as goal

pub pass_whole-requires-clause-header : goal.pass_whole-requires-clause-header
pass_whole-requires-clause-header g c =
    let long = record_long _ c.requires.ahead.is_record in
    omega (arith, long, length-take-le _ _ c.requires.ahead.whole)

pub invariant_of-self : goal.invariant_of-self
invariant_of-self g c =
    let few = record_few _ c.requires.ahead.is_record in
    let long = length-take-le _ _ c.requires.ahead.whole in
    let reads = ap (λ (s : CutterState). s.reads) (c.self.view_is ∙ c.forget.ensures) in
    let is = c.self.invariant in
    (is.0, is.1, omega (arith, reads, c.requires.ahead.turns), omega (arith, is.3, few, long), is.4)

pub returns-clause-along : goal.returns-clause-along
returns-clause-along g c =
    let stands = stands_after (state_of c.self.inside) c.args.self.now c.args.size
    (c.self.view_is ∙ c.forget.ensures) c.requires.ahead.none in
    rw (c.pass_whole.ensures.reported, stands) (passed_along _ _ _ _ c.requires.along c.requires.ahead)

pub returns-clause-records : goal.returns-clause-records
returns-clause-records g c = λ records has.
    let offset = ap (λ (s : CutterState). s.offset) (c.self.view_is ∙ c.forget.ensures) in
    rw (c.pass_whole.ensures.reported, offset)
    (passed_records _ _ _ _ records c.requires.along.read c.requires.ahead has)

pub returns-clause-handed : goal.returns-clause-handed
returns-clause-handed g c = λ views v before is same.
    let stands = stands_after (state_of c.self.inside) c.args.self.now c.args.size
    (c.self.view_is ∙ c.forget.ensures) c.requires.ahead.none in
    rw (c.pass_whole.ensures.reported, stands) (passed_handed _ _ _ _ _ _ c.requires.ahead before is same)
