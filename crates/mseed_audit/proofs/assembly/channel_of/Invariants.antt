use Rattle.std.proofs.Common.{◌≡◌, ◌≤◌, ◌*◌, ◌^◌, IfSome, map, take}
use Rattle.mseed_record.specs.Viewing.{view_of}
use Rattle.mseed_audit.specs.Channels.{added_from, records_of}
use Rattle.mseed_audit.specs.Audit.{StandsAt}
use Rattle.mseed_audit.specs.private.ChannelState.{IsBounded}
use Rattle.mseed_audit.proofs.Following.{end_of}
use Rattle.mseed_audit.proofs.assembly.channel_of.Given as goal

abbrev pub invariant-loop-index : goal.invariant-loop-index
invariant-loop-index l =
    StandsAt l.channel (records_of l.codes (added_from 0 (map view_of (take l.index l.views))))
    × IfSome l.channel (λ c. IsBounded l.index c)
    × (l.offset ≡ end_of 0 (map view_of (take l.index l.views)))
    × (l.offset ≤ 2 ^ 20 * l.index)
