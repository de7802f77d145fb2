use Rattle.std.proofs.Common.{◌≡◌, ◌∙◌, ℕ, List, length, ap, arith}
use Rattle.mseed_audit.specs.declared.channel.Channel.{Channel}
use Rattle.mseed_audit.specs.Channels.{same_key}
use Rattle.mseed_audit.proofs.Placed.{placed_push}
use Rattle.mseed_audit.proofs.Rosters.{none_there}
use Rattle.mseed_audit.proofs.channel_list.ChannelList.keep.Goals as goal

pub invariant_of-self-2 : goal.invariant_of-self-2
invariant_of-self-2 g c =
    let es : List (List ℕ × Channel) = c.self.inside.channels.items in
    let index : c.len-index.result ≡ length es =
    omega (arith, c.len-index.ensures, ap (λ (xs : List (List ℕ × Channel)). length xs) c.make_room.ensures.items) in (
      placed_push c.self.inside.places.entries c.insert.new.self.entries es _ c.args.codes c.args.channel
          c.self.invariant.0 (rw c.make_room.ensures.items at c.in-Ok-push.ensures.items)
          (none_there (same_key c.args.codes) es (rw (← c.self.view_is) at c.requires))
          (rw index at c.in-Ok.ensures.entries) c.in-Ok.ensures.ordered,
      tt,
    )

pub returns-clause-kept : goal.returns-clause-kept
returns-clause-kept g c = rw (c.make_room.ensures.items, c.self.view_is) at c.in-Ok-push.ensures.items

pub returns-in-Err-clause-unchanged : goal.returns-in-Err-clause-unchanged
returns-in-Err-clause-unchanged g c = c.make_room.ensures.items ∙ c.self.view_is
