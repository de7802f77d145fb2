use Rattle.std.specs.Vec.{vec_capacity}
use Rattle.mseed_audit.proofs.ByKey.{itself}
use Rattle.mseed_audit.proofs.Rosters.{IsMaking}
use Rattle.mseed_audit.proofs.channel_list.ChannelList.by_key.Given as goal

abbrev pub invariant-loop-codes : goal.invariant-loop-codes
invariant-loop-codes g l =
    IsMaking itself l.self l.initial.codes-iterator l.codes-iterator l.sorted.items (vec_capacity l.sorted)
