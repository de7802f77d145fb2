use Rattle.std.proofs.Common.{◌∙◌}
use Rattle.slink_live.proofs.Slots.{goes_then}
use Rattle.mseed_feed.specs.Live.{for_long, input_ended, input_wrong, served}
use Rattle.mseed_feed.proofs.live.serve_to_the_end.Goals as goal

pub returns-in-Ok : goal.returns-in-Ok
returns-in-Ok g c start serving is_awake =
    let on = c.in-Ok.ensures in
    served c.serve.new.self
    (record { serving = on.serving start serving; awake = on.awake is_awake; slots_are = on.slots })
    (rw c.requires.new at (on.closed start serving is_awake))
    (input_ended (rw c.requires.new at (on.steps start serving is_awake)) (c.end_of.ensures c.serve.new.self on.failed))

pub returns-in-Ok-serve : goal.returns-in-Ok-serve
returns-in-Ok-serve g c start serving is_awake =
    let first = c.in-Err.ensures in
    let served_on = first.serving start serving in
    let awake = first.awake is_awake in
    let on = c.in-Ok-serve.ensures in
    served c.serve-in-Err.new.self
    (record { serving = on.serving start served_on; awake = on.awake awake; slots_are = on.slots ∙ first.slots })
    (goes_then (rw c.requires.new at (first.closed start serving is_awake)) (on.closed start served_on awake))
    (input_wrong c.in-Err.fault (g.E.Sink.written c.report_filling.new.errors) (g.R.Ready.log c.serve.new.ready)
    (rw c.requires.new at (first.steps start serving is_awake))
    (rw (← (on.unread first.ended).1) at (first.fault start serving)) c.report_filling.ensures
    (rw first.slots at (on.steps start served_on awake))
    (c.end_of-in-Ok-serve.ensures c.serve-in-Err.new.self on.failed))

pub returns-in-Err-serve : goal.returns-in-Err-serve
returns-in-Err-serve g c start serving is_awake =
    let first = c.in-Err.ensures in
    let served_on = first.serving start serving in
    let awake = first.awake is_awake in
    let on = c.in-Err-serve.ensures in
    served c.serve-in-Err.new.self
    (record { serving = on.serving start served_on; awake = on.awake awake; slots_are = on.slots ∙ first.slots })
    (goes_then (rw c.requires.new at (first.closed start serving is_awake)) (on.closed start served_on awake))
    (for_long c.in-Err.fault c.in-Err-serve.field-0 (g.E.Sink.written c.report_filling.new.errors)
    (g.R.Ready.log c.serve.new.ready) (rw c.requires.new at (first.steps start serving is_awake))
    (rw (← (on.unread first.ended).1) at (first.fault start serving)) c.report_filling.ensures
    (rw first.slots at (on.steps start served_on awake)) (on.fault start served_on) c.link_failed.ensures.status
    c.link_failed.ensures.reported)
