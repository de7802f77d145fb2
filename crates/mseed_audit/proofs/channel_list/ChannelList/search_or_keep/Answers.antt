use Rattle.std.proofs.Common.{◌≡◌, ℕ, List, None, Some, length, arith, rules}
use Rattle.mseed_audit.specs.declared.channel.Channel.{Channel}
use Rattle.mseed_audit.specs.Channels.{same_key}
use Rattle.mseed_audit.specs.Places.{place_of}
use Rattle.mseed_audit.proofs.Placed.{placed_push}
use Rattle.mseed_audit.proofs.Rosters.{none_there, place_within}
use Rattle.mseed_audit.proofs.channel_list.ChannelList.search_or_keep.Goals as goal

pub returns-in-Some-2 : goal.returns-in-Some-2
returns-in-Some-2 g c =
    let place : place_of (same_key c.args.codes) c.args.self.now ≡ Some c.in-Some-2.index = search rules in
    record {
      place = place;
      within = place_within (same_key c.args.codes) c.args.self.now c.in-Some-2.index place;
      stays = search rules;
    }

pub invariant_of-self-2 : goal.invariant_of-self-2
invariant_of-self-2 g c =
    let es : List (List ℕ × Channel) = c.self.inside.channels.items in
    let place : place_of (same_key c.args.codes) es ≡ None = search rules in
    let index : c.len-index.result ≡ length es = omega (arith, c.len-index.ensures) in (
      placed_push c.self.inside.places.entries c.find_or_enter.new.places.entries es _ c.args.codes
          c.args.channel.now c.self.invariant.0 c.in-Ok.ensures.items (none_there (same_key c.args.codes) es place)
          (rw index at (rw c.in_default.is at c.in_ok-index.ensures.entered))
          (rw c.in_default.is at c.in_ok-index.ensures.ordered),
      tt,
    )

pub invariant_of-self : goal.invariant_of-self
invariant_of-self g c = (rw c.in_err-index.ensures.unchanged c.self.invariant.0, c.self.invariant.1)
