use Rattle.std.proofs.Common.{rules}
use Rattle.mseed_audit.specs.Channels.{same_key}
use Rattle.mseed_audit.proofs.Rosters.{place_within}
use Rattle.mseed_audit.proofs.channel_list.ChannelList.find_or_keep.Goals as goal

pub returns-in-Some : goal.returns-in-Some
returns-in-Some g c = record {
  place = c.in-Some.ensures;
  within = place_within (same_key c.args.codes) c.args.self.now c.in-Some.index c.in-Some.ensures;
  stays = search rules;
}
