use Rattle.std.proofs.Common.{◌≡◌, ◌≤◌, ◌*◌, ◌^◌, map, take, true}
use Rattle.mseed_record.specs.Viewing.{view_of}
use Rattle.mseed_audit.specs.Channels.{added_from}
use Rattle.mseed_audit.specs.Audit.{IsAuditOf}
use Rattle.mseed_audit.specs.Follows.{IsSound}
use Rattle.mseed_audit.proofs.Following.{end_of}
use Rattle.mseed_repack.specs.private.Archives.{AreAlone}
use Rattle.mseed_repack.specs.private.Reading.{steps_of}
use Rattle.mseed_repack.specs.private.Supplying.{IsPlain}
use Rattle.mseed_repack.proofs.judging.judge_records.Given as goal

abbrev pub invariant-loop-index : goal.invariant-loop-index
invariant-loop-index g l =
    IsAuditOf l.audit (added_from 0 (map view_of (take l.index l.views))) × (l.audit.added ≡ l.index)
    × (l.offset ≡ end_of 0 (map view_of (take l.index l.views))) × (l.offset ≤ 2 ^ 20 * l.index)
    × (l.sound ≡ true → AreAlone IsSound (map view_of (take l.index l.views)))
    × (l.plain ≡ true → AreAlone IsPlain (map view_of (take l.index l.views)))
    × (l.steps ≡ steps_of (map view_of (take l.index l.views))) × (l.steps ≤ l.index)
