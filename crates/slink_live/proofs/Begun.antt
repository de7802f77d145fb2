-- A server before anything happened.
use Rattle.std.proofs.Common.{◌≡◌, ℕ, zero, suc, ◌*◌, ◌^◌, ◌<◌, ◌≤◌, ◌∙◌, subst, refl, sym, arith, List, [], ◌∷◌}
use Rattle.std.proofs.Common.{inl, false, get_or, length, Option, Some, None}
use Rattle.std.proofs.lemmas.Option.{none-some, same_Some}
use Rattle.std.specs.List.{AllByRecursion}
use Rattle.slink_feed.specs.Window.{Window}
use Rattle.slink_feed.specs.Intake.{places_of}
use Rattle.slink_live.specs.declared.intake.TheConstants.{INPUT}
use Rattle.slink_live.specs.Awake.{IsAwake}
use Rattle.slink_live.specs.Served.{AreEmpty, IsBelow, IsServing, IsSound, LinkState, ServerState}
use Rattle.slink_live.specs.History.{no_event}
use Rattle.slink_live.proofs.Cuts.{short_none}
use Rattle.slink_live.proofs.Reported.{free_at}

all_below : (n : ℕ) (feed : List Window) → AllByRecursion (λ (w : Window). w.next ≤ n) feed → IsBelow n feed
all_below n [] h k w there = absurd (none-some w there)
all_below n (v ∷ ws) h zero w there = subst (λ (x : Window). x.next ≤ n) (same_Some v w there) h.0
all_below n (v ∷ ws) h (suc k) w there = all_below n ws h.1 k w there

module _ (feed : List Window) (links : List (Option LinkState)) (none : AreEmpty links) where
  abbrev pub begun : ServerState
  begun = record {
    intake = record { feed = feed; kept = []; records = 0 };
    links = links;
    has_ended = false;
    reads = 0;
  }

  no_link : (k : ℕ) (l : LinkState) → get_or links k None ≡ Some l → ⊥
  no_link k l e = none-some l (sym (none k) ∙ e)

  few : 0 < 512
  few = omega arith

  pub begun_serving : IsServing feed begun []
  begun_serving = record {
    rest = [];
    fed = record {
      records = [];
      input = record { joined = refl; each = tt; no_further = short_none (places_of feed) [] few };
      feed_is = refl;
    };
    counted = refl;
    goes_on = λ e. refl;
    read = refl;
    slots = λ k. record { past = None; served = no_event; matches = rw (none k) tt };
  }

  pub begun_sound : AllByRecursion (λ (w : Window). w.next ≤ 2 ^ 62) feed → IsSound begun
  begun_sound below = record {
    short = λ e. few;
    begins = λ e. inl refl;
    fit = λ k l e. absurd (no_link k l e);
    below = all_below (2 ^ 62) feed below;
    few = let le : 0 ≤ INPUT * 0 = omega arith in le;
    few_reads = let le : 0 ≤ 2 ^ 40 = omega arith in le;
  }

  pub begun_awake : 0 < length links → IsAwake begun []
  begun_awake some = record {
    each = λ k l e. absurd (no_link k l e);
    is_reported = record { links = sym (free_at links 0 some (none 0)); left = refl };
  }
