use Rattle.mseed_audit.specs.Channels.{same_key}
use Rattle.mseed_audit.proofs.Rosters.{place_within}
use Rattle.mseed_audit.proofs.channel_list.ChannelList.find.Goals as goal

pub returns-in-Some-clause-within : goal.returns-in-Some-clause-within
returns-in-Some-clause-within g c =
    place_within (same_key c.args.codes) c.args.self.now c.in-Some.index c.in-Some.ensures
