use Rattle.std.proofs.Common.{[], None, Some, refl, ◌∙◌}
use Rattle.mseed_audit.proofs.ChannelState.{one_stands}
use Rattle.mseed_audit.proofs.channel.Channel.begin.Goals as goal
use Rattle.mseed_audit.proofs.channel.Channel.begin.Goals.{in-Sound, in-Faulty}

pub returns-clause-stands : goal.returns-clause-stands
returns-clause-stands c =
    let samples = c.from.ensures ∙ c.samples.ensures in
    elim c.match-judge.branch [
      | in-Sound w ↦
          rw w.why-is (one_stands _ _ None (w.in-Sound.ensures.why None tt) refl samples
          (record {
            sound = w.in-Sound.ensures.why None tt;
            number = refl;
            offset = refl;
            start = w.in-Sound.ensures.tail.start;
            rate = w.in-Sound.ensures.tail.rate;
          }) w.in-Sound.ensures.tail refl)
      | in-Faulty w ↦
          rw w.why-is (one_stands _ _ (Some w.in-Faulty.why) (w.in-Faulty.ensures.why None tt) refl samples
          (w.in-Faulty.why, w.in-Faulty.ensures.why None tt) w.in-Faulty.ensures.tail ([], (refl, refl)))
    ]
