use Rattle.std.proofs.Common.{sym, ◌∙◌}
use Rattle.std.proofs.lemmas.Bool.{false≢true}
use Rattle.std.proofs.ByRecursion.{All-push}
use Rattle.mseed_record.specs.Viewing.{view_of}
use Rattle.mseed_audit.specs.Follows.{IsSound}
use Rattle.mseed_repack.proofs.Walks.{gone_more, next_gone, next_of}
use Rattle.mseed_repack.proofs.channel.are_sound.Goals as goal

pub returns-then-not-is_sound_record : goal.returns-then-not-is_sound_record
returns-then-not-is_sound_record g c =
    let h = next_gone c.loop-view.invariant.1 c.in-Some.ensures.next in (
      λ no. absurd (false≢true no),
      λ sound. absurd (false≢true (sym c.if-not-is_sound_record.true
          ∙ c.is_sound_record.ensures.1 (next_of IsSound h sound))),
    )

pub loop-view-preserved : goal.loop-view-preserved
loop-view-preserved g c =
    let h = next_gone c.loop-view.invariant.1 c.in-Some.ensures.next in (
      c.in-Some.ensures.leads,
      gone_more h (All-push IsSound h.gone (view_of c.in-Some.view) h.holds
          (c.is_sound_record.ensures.0 c.if-not-is_sound_record.false)),
    )
