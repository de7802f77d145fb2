use Rattle.std.proofs.Common.{◌≡◌, length, length-append, refl, arith}
use Rattle.mseed_record.specs.Viewing.{view_of}
use Rattle.mseed_audit.proofs.Joined.{some_more}
use Rattle.mseed_audit.proofs.Places.{steps_after, steps_kept}
use Rattle.mseed_audit.proofs.channel_series.Series.push.Goals as goal

pub invariant_of-self-in-Continue-branch-2 : goal.invariant_of-self-in-Continue-branch-2
invariant_of-self-in-Continue-branch-2 g c =
    let more = some_more (view_of c.args.view.now) c.self.inside.samples.items c.append_samples.new.samples.items
    c.in_ok-append_samples.ensures.added in
    steps_after (length c.self.inside.samples.items) (length c.append_samples.new.samples.items) c.len.result
    c.self.inside.steps.items c.push.new.self.items c.in-Some.step
    more (omega (arith, c.len.ensures)) c.self.invariant c.in_ok-push.ensures.items

pub invariant_of-self-in_err-push : goal.invariant_of-self-in_err-push
invariant_of-self-in_err-push g c =
    let more = some_more (view_of c.args.view.now) c.self.inside.samples.items c.append_samples.new.samples.items
    c.in_ok-append_samples.ensures.added in
    steps_kept (length c.self.inside.samples.items) (length c.append_samples.new.samples.items)
    c.self.inside.steps.items c.push.new.self.items
    (omega (arith, more)) c.self.invariant c.in_err-push.ensures.items

pub invariant_of-self-in_default : goal.invariant_of-self-in_default
invariant_of-self-in_default g c =
    let more = some_more (view_of c.args.view.now) c.self.inside.samples.items c.append_samples.new.samples.items
    c.in_ok-append_samples.ensures.added in
    steps_kept (length c.self.inside.samples.items) (length c.append_samples.new.samples.items)
    c.self.inside.steps.items c.self.inside.steps.items
    (omega (arith, more)) c.self.invariant refl

pub returns-in_ok-push : goal.returns-in_ok-push
returns-in_ok-push g c =
    let added = c.in_ok-append_samples.ensures.added in
    let place : c.len.result ≡ length c.append_samples.new.samples.items = omega (arith, c.len.ensures) in (
      added.0,
      (
        added.1.0,
        rw (← c.self.view_is, c.in-Some.is, c.in_ok-push.ensures.items, place, added.1.1)
            (rw (length-append c.self.inside.samples.items added.0) refl),
      ),
    )
