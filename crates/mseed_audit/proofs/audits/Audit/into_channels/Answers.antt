use Rattle.std.proofs.Common.{◌∙◌, ap, length, sym}
use Rattle.std.specs.Map.{lookup}
use Rattle.mseed_audit.specs.Audit.{Held}
use Rattle.mseed_audit.specs.Channels.{numbered, same_key}
use Rattle.mseed_audit.proofs.audits.Audit.into_channels.Goals as goal

pub returns-clause-among : goal.returns-clause-among
returns-clause-among g c = λ ps count is. record {
  ascending = c.in_ok-into_channels.ensures.ascending;
  each = λ key. rw (ap (λ (h : Held). lookup (same_key key) h.channels) (sym c.self.view_is)
      ∙ sym (c.in_ok-into_channels.ensures.each key)) at (is.each key);
}

pub returns-clause-channels : goal.returns-clause-channels
returns-clause-channels g c = λ added is. returns-clause-among g c (numbered 1 added) (length added) is
