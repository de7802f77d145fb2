use Rattle.std.proofs.Common.{◌≡◌, Bool, take, true, false, arith}
use Rattle.std.proofs.lemmas.List.{take_all}
use Rattle.mseed_audit.proofs.Following.{kept_next, sound_at}
use Rattle.mseed_audit.proofs.Joined.{holds_none}
use Rattle.mseed_audit.proofs.assembly.assemble.Goals as goal
use Rattle.mseed_audit.proofs.assembly.assemble.Goals.{then-is_of_channel+in_ok-append_record, else-is_of_channel}

pub loop-view-init : goal.loop-view-init
loop-view-init g c = holds_none c.args.codes.now c.args.start c.args.rate c.in-Ok.samples.items c.new-series.result
    c.in-Ok.ensures.items c.new-series.ensures

pub append_record-requires : goal.append_record-requires
append_record-requires g c =
    sound_at c.args.codes.now c.args.views.now c.loop-view.view-index c.view-item.result c.loop-view-test.true
    c.view-item.is c.if-is_of_channel.ensures c.requires

pub loop-view-preserved : goal.loop-view-preserved
loop-view-preserved g c =
    let next = λ (b : Bool). kept_next c.args.codes.now c.args.views.now c.loop-view.view-index c.view-item.result b
    c.loop-view-test.true c.view-item.is in
    elim c.if-is_of_channel.branch [
      | then-is_of_channel+in_ok-append_record w ↦ rw (next true w.if-is_of_channel.ensures, w.series-is)
          (w.in_ok-append_record.ensures.holds c.args.codes.now c.args.start c.args.rate _ c.loop-view.invariant)
      | else-is_of_channel w ↦ rw (next false w.if-is_of_channel.ensures, w.series-is) c.loop-view.invariant
    ]

pub returns-clause-holds : goal.returns-clause-holds
returns-clause-holds g c =
    let all : take c.loop-view.view-index c.args.views.now ≡ c.args.views.now =
    take_all c.loop-view.view-index c.args.views.now (omega (arith, c.loop-view-test.false)) in
    rw all at c.loop-view.invariant
