use Rattle.std.proofs.Common.{◌∙◌, ◌<◌, List, ℕ, get_or, length, refl, ap, arith, rules}
use Rattle.mseed_audit.specs.declared.channel.Channel.{Channel}
use Rattle.mseed_audit.proofs.ByKey.{itself, made_by_key}
use Rattle.mseed_audit.proofs.Rosters.{all_made, making_begin, making_more}
use Rattle.mseed_audit.proofs.channel_list.ChannelList.by_key.Goals as goal

pub loop-codes-init : goal.loop-codes-init
loop-codes-init g c =
    making_begin itself c.self.inside.channels.items c.args.self.now _ c.self.inside.places.entries _ _
    (c.into_iter-codes-iterator.ensures.into_iter_gives ∙ c.iter-codes-items.ensures.rest)
    c.self.invariant.0.places c.self.view_is c.in-Ok.ensures.items (omega (arith, c.len.ensures, c.in-Ok.ensures.exact))

pub index-requires : goal.index-requires
index-requires g c =
    let inv = rw c.in-Some.ensures.steps at c.loop-codes.invariant in
    let within : c.in-Some.index.now < length c.self.inside.channels.items =
    rw c.self.view_is (inv.within 0 0 (omega arith)) in
    omega (arith, within)

pub loop-codes-preserved : goal.loop-codes-preserved
loop-codes-preserved g c =
    making_more itself c.args.self.now _ c.in-Some.codes.now c.in-Some.index.now c.next.new.self
    c.index.result.now c.index.result.now.1 c.loop-codes.sorted.items c.push.new.self.items _ _
    (rw c.in-Some.ensures.steps at c.loop-codes.invariant)
    (c.index.ensures ∙ ap (λ (fs : List (List ℕ × Channel)). get_or fs c.in-Some.index.now c.index.result.now)
    c.self.view_is)
    refl c.in-Ok-push.ensures.items c.in-Ok-push.ensures.capacity

pub returns : goal.returns
returns g c =
    made_by_key c.args.self.now c.loop-codes.sorted.items
    (all_made itself c.args.self.now c.args.self.now _ _ c.self.inside.places.entries c.loop-codes.sorted.items _
    c.loop-codes.invariant c.in-None.ensures.steps.0 (search rules)
    (rw c.self.view_is at c.self.invariant.0.places) c.self.invariant.0.ascending refl)
