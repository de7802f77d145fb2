use Rattle.std.proofs.Common.{List, ℕ, ◌∙◌, ap, length, map, refl}
use Rattle.mseed_audit.specs.declared.channel.Channel.{Channel}
use Rattle.mseed_audit.specs.Channels.{added_from}
use Rattle.mseed_audit.specs.Summary.{broken_count}
use Rattle.mseed_join.specs.Joined.{verdict_at}
use Rattle.mseed_join.proofs.Parting.{pushed}
use Rattle.mseed_join.proofs.auditing.push_audited.Goals as goal

pub returns-in-Ok : goal.returns-in-Ok
returns-in-Ok g c = λ h views found.
    let channels = c.in_ok-channels.channels in
    let are = c.in_ok-channels.ensures.channels (added_from 0 views) found.audit in
    pushed _ c.args.audit c.args.end.now c.args.bytes h views channels c.as_slice.result.now c.added-records.result
    c.args.text.now.items c.push_part.new.text.items found are
    (c.channels_have_verdicts.ensures (added_from 0 views) channels are) c.as_slice.ensures c.added-records.ensures
    c.in-Ok.ensures c.added-records.ensures (ap length c.as_slice-in-Ok.ensures)
    (c.count_broken.ensures
    ∙ ap (λ (cs : List (List ℕ × Channel)). broken_count (map verdict_at cs)) c.as_slice-in-Ok-2.ensures)
    c.is_some.ensures refl
