use Rattle.std.proofs.Common.{◌∙◌, ap, rules, sym}
use Rattle.slink_feed.specs.Session.{State}
use Rattle.slink_feed.proofs.progress.Progress.next_record.Goals as goal

pub next_from-requires : goal.next_from-requires
next_from-requires g c =
    let streams = sym (ap (λ (s : State). s.phase) c.self.view_is) ∙ c.in-Streaming.is in
    let granted = sym c.grant_of.ensures ∙ c.in-Some.is in
    (search rules, (c.requires.in_range, (streams, (granted, c.requires.fits.1))))

pub returns-in-Some : goal.returns-in-Some
returns-in-Some g c = c.next_from.ensures
