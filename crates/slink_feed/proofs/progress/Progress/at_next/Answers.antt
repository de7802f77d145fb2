use Rattle.std.proofs.Common.{◌∙◌, ap, inl, inr, refl, sym, true}
use Rattle.slink_feed.specs.Session.{State, at_next}
use Rattle.slink_feed.proofs.progress.Progress.at_next.Goals as goal

pub returns-then-not-has_sent_all : goal.returns-then-not-has_sent_all
returns-then-not-has_sent_all g c = record {
  sent = ap (λ b. at_next b c.args.self.now) (sym c.has_sent_all.ensures ∙ c.if-not-has_sent_all.true);
  grants = refl;
  phase = inl refl;
}

pub returns : goal.returns
returns g c = record {
  sent = ap (λ b. at_next b c.args.self.now) (sym c.has_sent_all.ensures ∙ c.if-not-has_sent_all.false)
      ∙ ap (λ (s : State). at_next true s) (sym c.self.view_is);
  grants = ap (λ (s : State). s.grants) c.self.view_is;
  phase = inr refl;
}
