-- What was reported to a device, and what is closed.
use Rattle.std.proofs.Common.{◌≡◌, ◌≢◌, ℕ, zero, suc, ◌<◌, ◌≤◌, ◌∙◌, ap, subst, refl, sym, arith, inl, inr}
use Rattle.std.proofs.Common.{Bool, true, false, not, ◌&&◌, ◌||◌, List, [], ◌∷◌, ◌++◌, get_or, length, length-set, set}
use Rattle.std.proofs.Common.{if◌then◌else◌, Option, Some, None, IfNone, IfSome, get_or-set_same, get_or-set_other}
use Rattle.std.specs.Option.{is_some}
use Rattle.std.proofs.Math.Bool.{and-true}
use Rattle.std.proofs.lemmas.Bool.{eq-eqb}
use Rattle.std.proofs.lemmas.Bool.Decides.{eqb_tells}
use Rattle.std.proofs.lemmas.Option.{none-some}
use Rattle.slink_feed.specs.Window.{Window}
use Rattle.slink_live.specs.declared.link.Update.{Update}
use Rattle.slink_live.specs.declared.link.Update.TheVariants as outcomes
use Rattle.slink_live.specs.declared.ready.Interest.{Interest}
use Rattle.slink_live.specs.Awake.{Goes, IsAwakeIn, IsClosedRightly, IsUpToDate, IsReported}
use Rattle.slink_live.specs.Awake.{IsFirstFree, has_free, nothing, further}
use Rattle.slink_live.specs.Happening.{Happening, Gone, Wants, WantsLinks, first_interest}
use Rattle.slink_live.specs.Happening.{last_interest, interest_after}
use Rattle.slink_live.specs.Served.{IsServing, IsSound, LinkState, ServerState}
use Rattle.slink_live.specs.Turns.{Closes}
use Rattle.slink_live.specs.private.Calling.{IsDone, IsOutcome}
use Rattle.slink_live.specs.private.Keeping.{KeepsServing, Updates}
use Rattle.slink_live.proofs.Slots.{IsBeside, at_slot, closes_both, closes_none, closes_one, each_some, goes_one}
use Rattle.slink_live.proofs.Slots.{gone_turns, interest_last, keeps_both, keeps_one, keeps_same, left_last, links_last}
use Rattle.slink_live.proofs.Slots.{not_self, nothing_beside, one_beside, turns_keep}

-- whether a slot is free
free_one : (o : Option LinkState) (links : List (Option LinkState))
    → has_free (o ∷ links) ≡ (not (is_some o) || has_free links)
free_one None links = refl
free_one (Some l) links = refl

free_set : (links : List (Option LinkState)) (j : ℕ) (new : Option LinkState)
    → is_some new ≡ is_some (get_or links j None) → has_free (set links j new) ≡ has_free links
free_set [] j new e = refl
free_set (o ∷ links) zero new e = rw (free_one new links, e, ← (free_one o links)) refl
free_set (o ∷ links) (suc j) new e =
    rw (free_one o (set links j new), free_set links j new e, ← (free_one o links)) refl

pub free_at : (links : List (Option LinkState)) (j : ℕ) → j < length links → get_or links j None ≡ None
    → has_free links ≡ true
free_at [] j lt e = absurd (omega (arith, lt))
free_at (None ∷ links) j lt e = refl
free_at (Some m ∷ links) zero lt e = absurd (none-some m (sym e))
free_at (Some m ∷ links) (suc j) lt e = free_at links j (omega (arith, lt)) e

pub all_taken : (links : List (Option LinkState)) (n : ℕ) → length links ≤ n
    → ((j : ℕ) → j < n → get_or links j None ≢ None) → has_free links ≡ false
all_taken [] n le each = refl
all_taken (None ∷ links) n le each = absurd (each 0 (omega (arith, le)) refl)
all_taken (Some m ∷ links) zero le each = absurd (omega (arith, le))
all_taken (Some m ∷ links) (suc n) le each =
    all_taken links n (omega (arith, le)) (λ j lt e. each (suc j) (omega (arith, lt)) e)

-- whether further links are wanted
pub wants_if : (has_ended : Bool) (links : List (Option LinkState)) (o : Option ℕ) → IfSome o (IsFirstFree links)
    → IfSome o (λ _. has_ended ≡ false) → IfNone o ((not has_ended && has_free links) ≡ false)
    → is_some o ≡ (not has_ended && has_free links)
wants_if has_ended links None some on none = sym none
wants_if has_ended links (Some k) some on none = rw (on, free_at links k some.within some.free) refl

-- something more happened that reports nothing of the link in a slot
pub still_awake : (s : ServerState) (log : List Happening) (h : Happening) (k : ℕ)
    → ((w : Interest) → interest_after k w h ≡ w) → IsAwakeIn s log k → IsAwakeIn s (log ++ h ∷ []) k
still_awake s log h k same a l is = subst (IsUpToDate s.intake.feed s.has_ended l)
    (sym (interest_last k log h first_interest ∙ same (last_interest k log))) (a l is)

-- The link in a slot changed, and nothing was reported of the others.
module _ (s : ServerState) (j : ℕ) (new : Option LinkState) where
  abbrev pub after : ServerState
  after = record s { links = set s.links j new }

  module _ {log last : List Happening} (b : IsBeside j log last) where
    pub beside : (k : ℕ) → k ≢ j → IsAwakeIn s log k → IsAwakeIn after last k
    beside k ne awake l e = subst (IsUpToDate s.intake.feed s.has_ended l) (sym (b.of_links k ne))
        (awake l (sym (get_or-set_other s.links j k new None ne) ∙ e))

    pub reported_beside : is_some new ≡ is_some (get_or s.links j None) → IsReported s log → IsReported after last
    reported_beside same r = record {
      links = b.links ∙ (r.links ∙ ap (λ b. not s.has_ended && b) (sym (free_set s.links j new same)));
      left = b.left ∙ r.left;
    }

-- It changed, and then the slot was updated.
pub updates_after : (s : ServerState) (j : ℕ) (new : Option LinkState) {t : ServerState} {log last : List Happening}
    → is_some new ≡ is_some (get_or s.links j None)
    → ((start : List Window) → IsServing start s log → IsServing start (after s j new) log)
    → Updates j (after s j new) t log last → Updates j s t log last
updates_after s j new {log = log} same serves u =
    let b : IsBeside j log log = nothing_beside in
    record {
      links = λ k awake. u.links k (λ ne. beside s j new b k ne (awake ne));
      is_reported = λ r. u.is_reported (reported_beside s j new b same r);
      closed = λ start v r. u.closed start (serves start v) (reported_beside s j new b same r);
      others = λ k ne. u.others k ne ∙ get_or-set_other s.links j k new None ne;
    }

-- A link was closed, and it was reported whether further ones are wanted.
module _ (s : ServerState) (j : ℕ) (log : List Happening) (lt : j < length s.links) where
  abbrev without : ServerState
  without = record s { links = set s.links j None }

  abbrev gone : List Happening
  gone = log ++ Gone j ∷ []

  abbrev told : List Happening
  told = gone ++ WantsLinks (not s.has_ended) ∷ []

  pub gone_keeps : IsSound s → KeepsServing s without log told
  gone_keeps sound =
      let x : KeepsServing s without log gone =
      turns_keep s j None sound lt (gone_turns s.intake.feed j (get_or s.links j None) log) in
      keeps_both x.carries (keeps_one (WantsLinks (not s.has_ended)) refl (λ k. refl) x.sound)

  pub gone_updates : ((start : List Window) → IsServing start s log → IsReported s log
      → IsClosedRightly start log (Gone j)) → Updates j s without log told
  gone_updates right = record {
    links = λ k awake. at_slot
        (λ i o. (l : LinkState) → o ≡ Some l → IsUpToDate s.intake.feed s.has_ended l (last_interest i told))
        s.links j None lt (λ l e. absurd (none-some l e)) k
        (λ ne. still_awake s gone (WantsLinks (not s.has_ended)) k (λ w. refl)
        (still_awake s log (Gone j) k (λ w. refl) (awake ne)));
    is_reported = λ r. record {
      links = links_last gone (WantsLinks (not s.has_ended)) true ∙ rw (
        free_at (set s.links j None) j
            (omega (arith, lt, length-set s.links j None)) (get_or-set_same s.links j None None lt),
        and-true,
      ) refl;
      left = left_last gone (WantsLinks (not s.has_ended)) false ∙ (left_last log (Gone j) false ∙ r.left);
    };
    closed = λ start v r.
        further gone told (WantsLinks (not s.has_ended)) (goes_one (Gone j) (right start v r)) tt refl;
    others = λ k ne. get_or-set_other s.links j k None None ne;
  }

-- What was to be done with the link in a slot was done.
module _ (s : ServerState) (j : ℕ) where
  pub done_keeps : (u : Update) {t : ServerState} {log last : List Happening} → IsSound s → j < length s.links
      → IsDone u j s t log last → KeepsServing s t log last
  done_keeps outcomes.Empty sound lt d = rw (d.0, d.1) (keeps_same sound)
  done_keeps (outcomes.Wants w) sound lt d = rw (d.0, d.1) (keeps_one (Wants j w) refl (λ k. refl) sound)
  done_keeps outcomes.Closes {t} {log} sound lt d = rw (d.0, d.1) (gone_keeps s j log lt sound)

  pub done_closes : (u : Update) (t : ServerState) {log last : List Happening} → IsDone u j s t log last
      → Closes log last
  done_closes outcomes.Empty t d = rw d.1 closes_none
  done_closes (outcomes.Wants w) t d = rw d.1 (closes_one (Wants j w) tt)
  done_closes outcomes.Closes t d = rw d.1 (closes_both (closes_one (Gone j) tt) (closes_one (WantsLinks _) tt))

  still_updates : {log last : List Happening} → IsBeside j log last
      → IfSome (get_or s.links j None) (λ l. IsUpToDate s.intake.feed s.has_ended l (last_interest j last))
      → ((start : List Window) → Goes (IsClosedRightly start) log last) → Updates j s s log last
  still_updates {last = last} b own goes = record {
    links = λ k awake. elim (eqb_tells k j) [
      | inl is ↦ rw is.1 (each_some (λ (l : LinkState). IsUpToDate s.intake.feed s.has_ended l (last_interest j last))
          (get_or s.links j None) own)
      | inr other ↦ λ l e. rw (b.of_links k other.1) (awake other.1 l e)
    ];
    is_reported = λ r. record { links = b.links ∙ r.links; left = b.left ∙ r.left };
    closed = λ start v r. goes start;
    others = λ k ne. refl;
  }

  pub done_updates : (o : Option LinkState) (u : Update) {t : ServerState} {log last : List Happening}
      → get_or s.links j None ≡ o → j < length s.links → IsOutcome s.intake.feed s.has_ended o u
      → IsDone u j s t log last → Updates j s t log last
  done_updates None outcomes.Empty is lt out d =
      rw (d.0, d.1) (still_updates nothing_beside (rw is tt) (λ start. nothing))
  done_updates (Some l) (outcomes.Wants w) {log = log} is lt out d = rw (d.0, d.1) (still_updates
      (one_beside (Wants j w) refl (λ k ne. refl)
      (λ k ne v. ap (λ (t : Bool). if t then w else v) (not_self j k ne)) (λ b. refl) (λ b. refl))
      (rw is (subst (IsUpToDate s.intake.feed s.has_ended l) (sym (interest_last j log (Wants j w) first_interest
      ∙ ap (λ (t : Bool). if t then w else last_interest j log) (eq-eqb j j refl))) out))
      (λ start. goes_one (Wants j w) tt))
  done_updates (Some l) outcomes.Closes {log = log} is lt out d =
      rw (d.0, d.1) (gone_updates s j log lt (λ start v r. inr (record {
        server = s;
        link = l;
        serving = v;
        stood = is;
        left = r.left;
        closable = out;
      })))
  done_updates o u is lt out d = absurd out
