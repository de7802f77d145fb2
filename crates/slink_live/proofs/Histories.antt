-- What each event makes of a slot's history.
use Rattle.std.proofs.Common.{◌≡◌, ℕ, refl, sym, List, [], ◌∷◌, ◌++◌, append_assoc, take, drop}
use Rattle.std.proofs.Common.{take-append-drop, Option, Some, None}
use Rattle.slink_wire.specs.Reply.{reply_bytes}
use Rattle.slink_feed.specs.Serving.{IsNew, Serves, SessionState, none_served, piece_served}
use Rattle.slink_feed.specs.Session.{sent_bytes}
use Rattle.slink_feed.specs.Window.{Window}
use Rattle.slink_live.specs.Happening.{Happening, Opened, Received, Emitted, Gone, Handed, input_of}
use Rattle.slink_live.specs.Input.{IsFed}
use Rattle.slink_live.specs.Served.{IsHistory, LinkState, Matches, link_state}
use Rattle.slink_live.specs.History.{Asks, IsServed, History, history, none_called, one_called, opens, receives}
use Rattle.slink_live.specs.History.{asks, takes, goes, elsewhere}

-- with something stated before
serves_after : {feed : List Window} {s last : SessionState} {bytes way all : List ℕ} (x : List ℕ)
    → Serves feed s bytes way last all → Serves feed s bytes (x ++ way) last (x ++ all)
serves_after x (none_served t w) = none_served t (x ++ w)
serves_after x (piece_served t now u bs piece rest w a reply split taking more) =
    piece_served t now u bs piece rest (x ++ w) (x ++ a) reply split taking
    (rw (← (append_assoc x w (reply_bytes reply))) at (serves_after x more))

asks_after : {feed : List Window} {s : SessionState} {ring : ℕ} {way : List ℕ} {last : SessionState} {turn : ℕ}
    {all : List ℕ} (x : List ℕ) → Asks feed s ring way last turn all → Asks feed s ring (x ++ way) last turn (x ++ all)
asks_after x none_called = none_called
asks_after x (one_called now t m k answer on a before first given held is) =
    one_called now t m k answer (x ++ on) (x ++ a) (asks_after x before) first given held
    (rw is (sym (append_assoc x on (sent_bytes answer))))

-- called, and then called on
pub asks_then : {feed : List Window} {s : SessionState} {ring : ℕ} {way : List ℕ} {now : SessionState} {turn : ℕ}
    {produced : List ℕ} {last : SessionState} {on : ℕ} {all : List ℕ} → Asks feed s ring way now turn produced
    → Asks feed now turn produced last on all → Asks feed s ring way last on all
asks_then before none_called = before
asks_then before (one_called m t p k answer b a earlier first given held is) =
    one_called m t p k answer b a (asks_then before earlier) first given held is

module _ (start : List Window) (k : ℕ) (log : List Happening) where
  -- what a link accepted, and what its session said that it didn't accept yet
  abbrev HasHistory : List Happening → LinkState → List ℕ → Type 0
  HasHistory happened l emitted =
      IsServed start k happened (Some (history l.session l.ring (emitted ++ l.pending) emitted))

  -- the history of a link goes on
  goes_on : (last : List Happening) (l now : LinkState) (past : Option History)
      → ((emitted : List ℕ) → HasHistory log l emitted → (all : List ℕ) × HasHistory last now all)
      → IsServed start k log past → Matches (Some l) past → IsHistory start k (Some now) last
  goes_on last l now None on served m = absurd m
  goes_on last l now (Some t) on served m =
      let further = on t.emitted (rw (← m.0, ← m.1, ← m.2) served) in
      record {
        past = Some (history now.session now.ring (further.0 ++ now.pending) further.0);
        served = further.1;
        matches = (refl, refl, refl);
      }

  pub received_history : (feed : List Window) (l now : LinkState) (bytes : List ℕ) → IsFed start (input_of log) feed
      → Serves feed l.session bytes l.pending now.session now.pending → now.ring ≡ l.ring
      → IsHistory start k (Some l) log → IsHistory start k (Some now) (log ++ Received k bytes ∷ [])
  received_history feed l now bytes fed serves ring s = goes_on _ l now s.past (λ emitted served. (
    emitted,
    rw ring (receives log _ feed l.session now.session l.ring bytes (emitted ++ l.pending) (emitted ++ now.pending)
        emitted served fed (serves_after emitted serves) refl),
  )) s.served s.matches

  pub taken_history : (l : LinkState) (n : ℕ) → IsHistory start k (Some l) log
      → IsHistory start k (Some (link_state l.session l.ring (drop n l.pending)))
      ((log ++ Handed k l.pending ∷ []) ++ Emitted k (take n l.pending) ∷ [])
  taken_history l n s =
      let handed : List Happening = log ++ Handed k l.pending ∷ [] in
      goes_on _ l (link_state l.session l.ring (drop n l.pending)) s.past (λ emitted served.
      let whole : emitted ++ l.pending ≡ (emitted ++ take n l.pending) ++ drop n l.pending =
      rw (append_assoc, take-append-drop n l.pending) refl in (
        emitted ++ take n l.pending,
        rw (← whole) (takes handed _ l.session l.ring (take n l.pending) (emitted ++ l.pending) emitted
            (elsewhere log handed (Handed k l.pending) _ served refl refl) (drop n l.pending, whole) refl),
      )) s.served s.matches

  opens_at : (l : LinkState) (past : Option History) → IsNew l.session → l.pending ≡ [] → l.ring ≡ 0
      → IsServed start k log past → Matches None past → IsHistory start k (Some l) (log ++ Opened k ∷ [])
  opens_at l None fresh none begins served m = record {
    past = Some (history l.session 0 [] []);
    served = opens log _ l.session served fresh refl;
    matches = (refl, sym begins, sym none);
  }
  opens_at l (Some t) fresh none begins served m = absurd m

  pub opened_history : (l : LinkState) → IsNew l.session → l.pending ≡ [] → l.ring ≡ 0 → IsHistory start k None log
      → IsHistory start k (Some l) (log ++ Opened k ∷ [])
  opened_history l fresh none begins s = opens_at l s.past fresh none begins s.served s.matches

  pub gone_history : (o : Option LinkState) → IsHistory start k o log → IsHistory start k None (log ++ Gone k ∷ [])
  gone_history o s = record { past = None; served = goes log _ s.past s.served refl; matches = tt }

  pub filled_history : (feed : List Window) (l now : LinkState) → IsFed start (input_of log) feed
      → Asks feed l.session l.ring l.pending now.session now.ring now.pending → IsHistory start k (Some l) log
      → IsHistory start k (Some now) log
  filled_history feed l now fed called s = goes_on log l now s.past (λ emitted served. (
    emitted,
    asks log feed l.session now.session l.ring now.ring (emitted ++ l.pending) (emitted ++ now.pending) emitted served
        fed (asks_after emitted called),
  )) s.served s.matches
