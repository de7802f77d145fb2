use Rattle.std.proofs.Common.{◌≡◌, ◌≤◌, ◌*◌, ◌^◌, map, take}
use Rattle.std.specs.List.{AllByRecursion}
use Rattle.mseed_record.specs.Viewing.{view_of}
use Rattle.mseed_audit.specs.Follows.{IsSound}
use Rattle.mseed_audit.proofs.Following.{end_of}
use Rattle.mseed_repack.specs.private.Reading.{channel_in}
use Rattle.mseed_repack.proofs.own.find_own.Given as goal

abbrev pub invariant-loop-turn : goal.invariant-loop-turn
invariant-loop-turn l =
    (l.offset ≡ end_of 0 (map view_of (take l.turn l.views))) × (l.offset ≤ 2 ^ 20 * l.turn)

abbrev pub invariant-loop-index : goal.invariant-loop-index
invariant-loop-index l =
    AllByRecursion IsSound (channel_in l.codes (map view_of (take l.index l.views)))
    × (l.offset ≡ end_of 0 (map view_of (take l.index l.views))) × (l.offset ≤ 2 ^ 20 * l.index)
