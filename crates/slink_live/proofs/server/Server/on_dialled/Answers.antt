use Rattle.std.proofs.Common.{false, refl, sym}
use Rattle.slink_live.specs.Happening.{WantsLinks}
use Rattle.slink_live.specs.Turns.{is_full}
use Rattle.slink_live.proofs.Slots.{closes_one, keeps_one}
use Rattle.slink_live.proofs.Updating.{said_awake}
use Rattle.slink_live.proofs.server.Server.on_dialled.Goals as goal

pub returns-in-None : goal.returns-in-None
returns-in-None g c = rw c.wants_links.ensures.log (record {
  keeps = keeps_one (WantsLinks false) refl (λ k. refl) c.requires;
  called = is_full c.in-None.ensures.none (closes_one (WantsLinks false) tt);
  keeps_awake = said_awake _ _ (WantsLinks false) (λ k w. refl) (λ b. refl) (λ w. sym c.in-None.ensures.none)
      (λ start. tt);
})
