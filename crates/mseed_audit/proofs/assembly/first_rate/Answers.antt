use Rattle.std.proofs.Common.{◌≡◌, ◌∙◌, false, take, true, Some, None, refl, arith}
use Rattle.std.proofs.lemmas.List.{take_all}
use Rattle.mseed_record.specs.Viewing.{view_of}
use Rattle.mseed_audit.specs.Judging.{rate_in}
use Rattle.mseed_audit.proofs.Assembled.{first_there}
use Rattle.mseed_audit.proofs.Following.{kept_next}
use Rattle.mseed_audit.proofs.Judged.{none_unless}
use Rattle.mseed_audit.proofs.assembly.first_rate.Goals as goal

pub returns-in-Ok : goal.returns-in-Ok
returns-in-Ok c =
    first_there c.args.codes.now c.args.views.now c.loop-view.view-index c.view-item.result (Some c.in-Ok.rate)
    c.loop-view-test.true c.view-item.is c.if-is_of_channel.ensures c.loop-view.invariant
    (c.in-Ok.ensures.factor, c.in-Ok.ensures.multiplier)

pub returns-in-Err : goal.returns-in-Err
returns-in-Err c =
    first_there c.args.codes.now c.args.views.now c.loop-view.view-index c.view-item.result None
    c.loop-view-test.true c.view-item.is c.if-is_of_channel.ensures c.loop-view.invariant
    (none_unless (rate_in (view_of c.view-item.result))
    (λ some. let no : false ≡ true = c.in-Err.ensures.ok.1 some in cc))

pub loop-view-preserved : goal.loop-view-preserved
loop-view-preserved c =
    kept_next c.args.codes.now c.args.views.now c.loop-view.view-index c.view-item.result false c.loop-view-test.true
    c.view-item.is c.if-is_of_channel.ensures ∙ c.loop-view.invariant

pub returns : goal.returns
returns c =
    let all : take c.loop-view.view-index c.args.views.now ≡ c.args.views.now =
    take_all c.loop-view.view-index c.args.views.now (omega (arith, c.loop-view-test.false)) in
    rw (rw all at c.loop-view.invariant) refl
