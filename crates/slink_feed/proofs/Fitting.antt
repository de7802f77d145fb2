-- A session can be served from its feed after each command.
use Rattle.std.proofs.Common.{◌≡◌, ℕ, ◌+◌, ◌-◌, ◌<◌, ◌≤◌, inl, inr, refl, sym, subst, ◌∙◌, arith, Bool}
use Rattle.std.proofs.Common.{List, [], ◌∷◌, length, length-set, replicate, set, Option, Some, None}
use Rattle.std.proofs.Common.{slice_get, leb}
use Rattle.std.proofs.lemmas.Bool.{cases_cond, leb-true}
use Rattle.std.specs.List.{position_from}
use Rattle.std.specs.Option.{option_and_then}
use Rattle.slink_wire.specs.declared.command.Command.{Command}
use Rattle.slink_wire.specs.declared.command.Command.TheVariants.{Station, Data, Fetch, End, Bye}
use Rattle.slink_feed.specs.declared.grant.Mode.{Mode}
use Rattle.slink_feed.specs.declared.grant.Mode.TheVariants as Modes
use Rattle.slink_feed.specs.declared.session.Phase.{Phase}
use Rattle.slink_feed.specs.declared.session.Phase.TheVariants.{Fresh, Chosen, Granted, Streaming}
use Rattle.slink_feed.specs.Grant.{grant_of}
use Rattle.slink_feed.specs.Rings.{station_at}
use Rattle.slink_feed.specs.Session.{Fits, IsReached, State, IsChosenOf, at, grant_at, answered, answered_in}
use Rattle.slink_feed.specs.Session.{chosen, granted}
use Rattle.slink_feed.specs.Window.{Window, ahead_of_oldest, oldest_of, resolve_of, with_record}
use Rattle.slink_feed.proofs.Reached.{reached_with, reached_without}
use Rattle.std.proofs.lemmas.Option.{cond_some, none-some, same_Some}
use Rattle.slink_feed.proofs.Items.{get_here, get_there, none_but, one_value, same_or_not}
use Rattle.std.proofs.lemmas.Option.{slice_get_within}

-- the first station that passes is a station of the list
first_within : (p : Window → Bool) (i k : ℕ) (ws : List Window) → position_from p i ws ≡ Some k → k < i + length ws
first_within p i k [] e = absurd (none-some k e)
first_within p i k (w ∷ ws) e = elim (cases_cond (p w) (Some i) (position_from p (i + 1) ws) (Some k) (sym e)) [
  | inl here ↦ omega (arith, same_Some k i here)
  | inr there ↦ omega (arith, first_within p (i + 1) k ws (sym there))
]

-- a grant begins within the ring
resolved_at : (w : Window) (seq p : ℕ) → resolve_of w seq ≡ Some p → (oldest_of w ≤ p) × (p ≤ w.next)
resolved_at w seq p e =
    let parts = cond_some (leb (ahead_of_oldest w seq) (w.next - oldest_of w)) (oldest_of w + ahead_of_oldest w seq) p
    e in
    (omega (arith, parts.1), omega (arith, parts.1, leb-true (ahead_of_oldest w seq) (w.next - oldest_of w) parts.0))

pub granted_at : (mode : Mode) (number : Option ℕ) (w : Window) (p : ℕ) → grant_of mode number w ≡ Some p
    → (oldest_of w ≤ p) × (p ≤ w.next)
granted_at Modes.Data None w p e = (omega (arith, same_Some w.next p e), omega (arith, same_Some w.next p e))
granted_at Modes.Fetch None w p e =
    (omega (arith, same_Some (oldest_of w) p e), omega (arith, same_Some (oldest_of w) p e))
granted_at Modes.Data (Some seq) w p e = resolved_at w seq p e
granted_at Modes.Fetch (Some seq) w p e = resolved_at w seq p e

fits_station : (feed : List Window) (s : State) (sta : List ℕ) (net : Option (List ℕ)) (o : Option ℕ)
    → station_at feed sta net ≡ o → Fits feed s → Fits feed (chosen o s).0
fits_station feed s sta net None e f = f
fits_station feed s sta net (Some k) e f =
    (omega (arith, first_within _ 0 k feed e), reached_without feed s.grants k f.1)

fits_called : (feed : List Window) (s : State) (mode : Mode) (k : ℕ) (number : Option ℕ) (r : Option Window)
    (o : Option ℕ) → slice_get feed k ≡ r → option_and_then (grant_of mode number) r ≡ o → k < length feed
    → Fits feed s → Fits feed (granted mode k o s).0
fits_called feed s mode k number r None at is lt f = f
fits_called feed s mode k number None (Some p) at is lt f = absurd (none-some p is)
fits_called feed s mode k number (Some w) (Some p) at is lt f = (
  lt,
  reached_with feed s.grants k (record { mode = mode; position = p }) (w, at, (granted_at mode number w p is).1) f.1,
)

fits_in : (phase : Phase) (feed : List Window) (s : State) (c : Command) → s.phase ≡ phase → Fits feed s
    → Fits feed (answered_in phase feed s c).0
fits_in Fresh feed s (Station sta net) e f = fits_station feed s sta net _ refl f
fits_in Fresh feed s Bye e f = (tt, f.1)
fits_in (Chosen k) feed s (Station sta net) e f = fits_station feed s sta net _ refl f
fits_in (Chosen k) feed s (Data number) e f = fits_called feed s Modes.Data k number _ _ refl refl (rw e at f.0) f
fits_in (Chosen k) feed s (Fetch number) e f = fits_called feed s Modes.Fetch k number _ _ refl refl (rw e at f.0) f
fits_in (Chosen k) feed s Bye e f = (tt, f.1)
fits_in (Granted k) feed s (Station sta net) e f = fits_station feed s sta net _ refl f
fits_in (Granted k) feed s (Data number) e f = fits_called feed s Modes.Data k number _ _ refl refl (rw e at f.0) f
fits_in (Granted k) feed s (Fetch number) e f = fits_called feed s Modes.Fetch k number _ _ refl refl (rw e at f.0) f
fits_in (Granted k) feed s Bye e f = (tt, f.1)
fits_in (Granted k) feed s End e f = (tt, f.1)
fits_in Streaming feed s Bye e f = (tt, f.1)
fits_in phase feed s command e f = f

pub fits_answered : (feed : List Window) (s new : State) (c : Command) → Fits feed s → (answered feed s c).0 ≡ new
    → Fits feed new
fits_answered feed s new c f e = subst (Fits feed) e (fits_in s.phase feed s c refl f)

-- a new session has no grant
pub none_at : (n k : ℕ) → grant_at (replicate n None) k ≡ None
none_at n k = none_but n k None

pub fits_new : (feed : List Window) (s : State) → s ≡ at Fresh (replicate 16 None) → Fits feed s
fits_new feed s e = rw e (tt, λ k g is. absurd (none-some g (sym (none_at 16 k) ∙ is)))

-- once a record was pushed
reached_pushed : (ws : List Window) (k : ℕ) (w : Window) (bytes : List ℕ) (j p : ℕ) → slice_get ws k ≡ Some w
    → IsReached ws j p → IsReached (set ws k (with_record w bytes)) j p
reached_pushed ws k w bytes j p here reached = elim (same_or_not j k) [
  | inl same ↦
      let le : p ≤ w.next = rw (one_value (slice_get ws k) reached.0 w (rw same at reached.1) here) at reached.2 in
      rw same (with_record w bytes, get_here ws k _ (slice_get_within ws k w here), omega (arith, le))
  | inr other ↦ (reached.0, get_there ws k j _ other ∙ reached.1, reached.2)
]

chosen_pushed : (phase : Phase) (ws : List Window) (k : ℕ) (v : Window) → IsChosenOf ws phase
    → IsChosenOf (set ws k v) phase
chosen_pushed (Chosen j) ws k v h = rw (length-set ws k v) h
chosen_pushed (Granted j) ws k v h = rw (length-set ws k v) h
chosen_pushed phase ws k v h = tt

pub fits_pushed : (feed new : List Window) (k : ℕ) (w : Window) (bytes : List ℕ) (s : State)
    → slice_get feed k ≡ Some w → new ≡ set feed k (with_record w bytes) → Fits feed s → Fits new s
fits_pushed feed new k w bytes s here e f =
    rw e (
      chosen_pushed s.phase feed k (with_record w bytes) f.0,
      λ j g is. reached_pushed feed k w bytes j g.position here (f.1 j g is),
    )
