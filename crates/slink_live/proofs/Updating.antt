-- How each step of a server leaves no link asleep.
use Rattle.std.proofs.Common.{◌≡◌, ℕ, ◌+◌, ◌<◌, ◌≤◌, ◌∙◌, subst, refl, sym, arith, inl, inr, Bool, true, false}
use Rattle.std.proofs.Common.{IfSome, ◌≢◌, not, ◌&&◌, List, [], ◌∷◌, ◌++◌, get_or, length, set, Option, Some, None}
use Rattle.std.proofs.lemmas.Bool.Decides.{eqb_tells}
use Rattle.std.proofs.lemmas.List.{get_or_past}
use Rattle.std.proofs.lemmas.Option.{none-some}
use Rattle.slink_feed.specs.Window.{Window}
use Rattle.slink_live.specs.declared.ready.Interest.{Interest}
use Rattle.slink_live.specs.Awake.{Goes, IsAwake, IsAwakeIn, IsClosedRightly, IsUpToDate, IsReported, has_free}
use Rattle.slink_live.specs.Awake.{is_lost, nothing}
use Rattle.slink_live.specs.Happening.{Happening, Opened, WantsLinks, wants_links}
use Rattle.slink_live.specs.Happening.{Left, is_left, last_interest, left_by, links_by, interest_after}
use Rattle.slink_live.specs.Served.{IsServing, IsSound, LinkState, ServerState}
use Rattle.slink_live.specs.Turns.{Closes}
use Rattle.slink_live.specs.private.Calling.{HasTaken, IfRested}
use Rattle.slink_live.specs.private.Keeping.{Awakens, KeepsAwake, KeepsServing, Updates}
use Rattle.slink_live.proofs.Slots.{Moves, Turns, closes_both, closes_none, goes_one, goes_then}
use Rattle.slink_live.proofs.Slots.{keeps_both, keeps_one, keeps_same, left_last, links_last, turns_keep}
use Rattle.slink_live.proofs.Reported.{after, beside, reported_beside}
use Rattle.slink_live.proofs.Reported.{still_awake}

-- A step, and then one after which no link sleeps.
pub awake_then : {P Q : Type 0} {s t u : ServerState} {a b c : List Happening}
    → ((start : List Window) → IsServing start s a → IsServing start t b) → (P → Q)
    → ((start : List Window) → IsServing start s a → P → Goes (IsClosedRightly start) a b) → (P → Awakens Q t u b c)
    → Awakens P s u a c
awake_then serving to goes on = record {
  awake = λ p. (on p).awake (to p);
  closed = λ start v p. goes_then (goes start v p) ((on p).closed start (serving start v) (to p));
}

-- A slot was updated, where no link slept in another.
abbrev AreAwakeBeside : ℕ → ServerState → List Happening → Type 0
AreAwakeBeside j s log = ((k : ℕ) → k ≢ j → IsAwakeIn s log k) × IsReported s log

pub updates_awake : {j : ℕ} {s t : ServerState} {log last : List Happening} → Updates j s t log last
    → Awakens (AreAwakeBeside j s log) s t log last
updates_awake u = record {
  awake = λ a. record { each = λ k. u.links k (a.0 k); is_reported = u.is_reported a.1 };
  closed = λ start v a. u.closed start v a.1;
}

-- Something happened in a slot, and then it was updated, where no link slept.
pub moves_awake : (s : ServerState) (j : ℕ) (new : Option LinkState) {t : ServerState} {log mid last : List Happening}
    → IsSound s → j < length s.links → Moves s.intake.feed j (get_or s.links j None) new log mid
    → (IsAwake s log → Updates j (after s j new) t mid last) → KeepsAwake s t log last
moves_awake s j new sound lt m updates = awake_then (turns_keep s j new sound lt m.turns).carries.serving
    (λ a. (
      λ k ne. beside s j new m.turns.beside k ne (a.each k),
      reported_beside s j new m.turns.beside m.some a.is_reported,
    )) (λ start v a. m.goes start)
    (λ a. updates_awake (updates a))

-- a link that had room has all, and goes on to have it
pub if_rested : (s : ServerState) (j : ℕ) (o new : Option LinkState) (log mid : List Happening) → IsAwake s log
    → o ≡ get_or s.links j None → HasTaken j o new log mid → IfSome o (λ l. length l.pending + 520 ≤ 6240)
    → IfRested s.intake.feed new
if_rested s j None new log mid a is h room = rw h.0 tt
if_rested s j (Some l) new log mid a is h room =
    let up_to_date : IsUpToDate s.intake.feed s.has_ended l (last_interest j log) = a.each j l (sym is) in
    rw h.1 (record { rests = up_to_date.filled room; stays = λ lost. up_to_date.stands (is_lost lost) })

-- Something more happened that closes no link, and reports of none.
pub said_awake : (s : ServerState) (log : List Happening) (h : Happening)
    → ((k : ℕ) (w : Interest) → interest_after k w h ≡ w) → ((b : Bool) → left_by b h ≡ b)
    → (wants_links log ≡ (not s.has_ended && has_free s.links)
    → links_by (wants_links log) h ≡ (not s.has_ended && has_free s.links))
    → ((start : List Window) → IsClosedRightly start log h) → KeepsAwake s s log (log ++ h ∷ [])
said_awake s log h same left links right = record {
  awake = λ a. record {
    each = λ k. still_awake s log h k (same k) (a.each k);
    is_reported = record {
      links = links_last log h true ∙ links a.is_reported.links;
      left = left_last log h false ∙ (left (is_left log) ∙ a.is_reported.left);
    };
  };
  closed = λ start v a. goes_one h (right start);
}

-- nothing happened
pub awake_same : {s : ServerState} {log : List Happening} → KeepsAwake s s log log
awake_same = record { awake = λ a. a; closed = λ start v a. nothing }

-- A link was taken into a slot, it was reported whether further ones are wanted, and then it was updated.
pub opens_awake : (s : ServerState) (j : ℕ) (new : Option LinkState) {t : ServerState} {log last : List Happening}
    → IsSound s → j < length s.links → Turns s.intake.feed j (get_or s.links j None) new log (log ++ Opened j ∷ [])
    → Updates j (after s j new) t ((log ++ Opened j ∷ [])
    ++ WantsLinks (not s.has_ended && has_free (set s.links j new)) ∷ []) last → KeepsAwake s t log last
opens_awake s j new {t} {log} sound lt turns updates =
    let opened : List Happening = log ++ Opened j ∷ [] in
    let wants : Happening = WantsLinks (not s.has_ended && has_free (set s.links j new)) in
    let x : KeepsServing s (after s j new) log opened = turns_keep s j new sound lt turns in
    awake_then (keeps_both x.carries (keeps_one wants refl (λ k. refl) x.sound)).carries.serving (λ a. (
      λ k ne. still_awake (after s j new) opened wants k (λ w. refl) (beside s j new turns.beside k ne (a.each k)),
      record {
        links = links_last opened wants true;
        left = left_last opened wants false ∙ (left_last log (Opened j) false ∙ a.is_reported.left);
      },
    )) (λ start v a. goes_then (goes_one (Opened j) tt) (goes_one wants tt)) (λ a. updates_awake updates)

-- the input is read no more, and no link is wanted
pub leaves_keep : (s : ServerState) (log : List Happening) → IsSound s
    → KeepsServing s s log ((log ++ Left ∷ []) ++ WantsLinks false ∷ [])
leaves_keep s log sound =
    keeps_both (keeps_one Left refl (λ k. refl) sound).carries (keeps_one (WantsLinks false) refl (λ k. refl) sound)

pub leaves_awake : (s t : ServerState) (log last : List Happening) → IsSound s → s.has_ended ≡ true
    → Awakens (IsReported s ((log ++ Left ∷ []) ++ WantsLinks false ∷ [])) s t
    ((log ++ Left ∷ []) ++ WantsLinks false ∷ []) last → Awakens (Unit {0}) s t log last
leaves_awake s t log last sound over all = awake_then (leaves_keep s log sound).carries.serving (λ u. record {
  links = rw over (links_last (log ++ Left ∷ []) (WantsLinks false) true);
  left = rw over (left_last (log ++ Left ∷ []) (WantsLinks false) false ∙ left_last log Left false);
}) (λ start v u. goes_then (goes_one Left tt) (goes_one (WantsLinks false) tt)) (λ u. all)

-- Slots up to one were updated, but for some whose links didn't sleep.
pub record HasUpdated (Rests : ℕ → Type 0) (s t : ServerState) (n : ℕ) (log last : List Happening) : Type 0 where
  pub keeps : KeepsServing s t log last
  pub closes : Closes log last
  pub each : (k : ℕ) → (n ≤ k → IsAwakeIn s log k) → (Rests k → IsAwakeIn s log k) → IsAwakeIn t last k
  pub rest : (k : ℕ) → n ≤ k → get_or t.links k None ≡ get_or s.links k None
  pub is_reported : IsReported s log → IsReported t last
  pub closed : (start : List Window) → IsServing start s log → IsReported s log → Goes (IsClosedRightly start) log last

pub updated_none : {Rests : ℕ → Type 0} {s : ServerState} {log : List Happening} → IsSound s
    → HasUpdated Rests s s 0 log log
updated_none sound = record {
  keeps = keeps_same sound;
  closes = closes_none;
  each = λ k past rests. past (omega arith);
  rest = λ k le. refl;
  is_reported = λ r. r;
  closed = λ start v r. nothing;
}

pub updated_more : {Rests : ℕ → Type 0} {s t u : ServerState} {n : ℕ} {log mid last : List Happening}
    → HasUpdated Rests s t n log mid → KeepsServing t u mid last → Closes mid last → Updates n t u mid last
    → HasUpdated Rests s u (n + 1) log last
updated_more h keeps closes updates = record {
  keeps = keeps_both h.keeps.carries keeps;
  closes = closes_both h.closes closes;
  each = λ k past rests. updates.links k (λ ne. h.each k (λ le. past (omega (arith, le, ne))) rests);
  rest = λ k le. updates.others k (λ e. omega (arith, le, e)) ∙ h.rest k (omega (arith, le));
  is_reported = λ r. updates.is_reported (h.is_reported r);
  closed = λ start v r. goes_then (h.closed start v r)
      (updates.closed start (h.keeps.carries.serving start v) (h.is_reported r));
}

-- one more, in which no link slept
pub updated_past : {Rests : ℕ → Type 0} {s t : ServerState} {n : ℕ} {log last : List Happening}
    → HasUpdated Rests s t n log last → Rests n → HasUpdated Rests s t (n + 1) log last
updated_past {Rests} {n = n} h here = record {
  keeps = h.keeps;
  closes = h.closes;
  each = λ k past rests. h.each k (λ le. elim (eqb_tells k n) [
    | inl same ↦ rests (subst Rests (sym same.1) here)
    | inr other ↦ past (omega (arith, le, other.1))
  ]) rests;
  rest = λ k le. h.rest k (omega (arith, le));
  is_reported = h.is_reported;
  closed = h.closed;
}

pub updated_awake : {Rests : ℕ → Type 0} {s t : ServerState} {n : ℕ} {log last : List Happening}
    → HasUpdated Rests s t n log last → length s.links ≤ n → IsReported s log
    → ((k : ℕ) → Rests k → IsAwakeIn s log k) → IsAwake t last
updated_awake {s = s} h le reporting rests = record {
  each = λ k. h.each k
      (λ past l is. absurd (none-some l (sym (get_or_past s.links k None (omega (arith, le, past))) ∙ is))) (rests k);
  is_reported = h.is_reported reporting;
}
