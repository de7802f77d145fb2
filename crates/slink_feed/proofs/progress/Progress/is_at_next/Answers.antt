use Rattle.std.proofs.Common.{◌∙◌, sym}
use Rattle.std.proofs.lemmas.Bool.{eq-eqb, eqb-true}
use Rattle.slink_feed.proofs.Calls.{is_next}
use Rattle.slink_feed.proofs.progress.Progress.is_at_next.Goals as goal

pub returns-in-Some : goal.returns-in-Some
returns-in-Some g c = (
  λ is h w granted here. is_next c.in-Some.grant h c.ring.result.now w (sym c.in-Some.is ∙ (c.grant_of.ensures
      ∙ granted)) (sym c.ring.ensures.ring ∙ here) (eqb-true _ _ is ∙ c.next.ensures.value),
  λ at. eq-eqb _ _ (at c.in-Some.grant c.ring.result.now (sym c.grant_of.ensures ∙ c.in-Some.is)
      c.ring.ensures.ring ∙ sym c.next.ensures.value),
)
