use Rattle.std.proofs.Common.{ℕ, List, refl}
use Rattle.mseed_audit.specs.declared.channel.Channel.{Channel}
use Rattle.mseed_audit.proofs.Placed.{set_is, set_missed, set_placed, there}
use Rattle.mseed_audit.proofs.channel_list.ChannelList.channel_mut.Goals as goal

pub invariant_of-self-lent : goal.invariant_of-self-lent
invariant_of-self-lent g c = λ w.
    let es : List (List ℕ × Channel) = c.self.inside.channels.items in
    let within = rw (← c.self.view_is) at c.requires in (
      set_placed es c.args.index c.index_mut.result.now within c.index_mut.ensures.value
          c.self.inside.places.entries c.self.invariant.0 w,
      set_missed es c.args.index c.index_mut.result.now within c.index_mut.ensures.value
          c.self.inside.places.entries c.self.invariant.0 w c.self.inside.missed c.self.invariant.1,
    )

pub returns : goal.returns
returns g c =
    let es : List (List ℕ × Channel) = c.self.inside.channels.items in
    let e : List ℕ × Channel = c.index_mut.result.now in
    let within = rw (← c.self.view_is) at c.requires in (
      (
        refl,
        λ w. rw (← c.self.view_is) (set_is es c.args.index e within c.index_mut.ensures.value
            c.self.inside.places.entries c.self.invariant.0 w),
      ),
      record {
        lends = tt;
        value = rw (← c.self.view_is, there es c.args.index e within c.index_mut.ensures.value) refl;
      },
    )
