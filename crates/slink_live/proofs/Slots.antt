-- An event concerns the input or one slot.
use Rattle.std.proofs.Common.{◌≡◌, ◌≢◌, ℕ, ◌+◌, ◌<◌, ◌==◌, ◌∙◌, ap, subst, refl, sym, arith, inl, inr, Bool, true}
use Rattle.std.proofs.Common.{false, List, [], ◌∷◌, ◌++◌, if◌then◌else◌}
use Rattle.std.proofs.Common.{length, append_assoc, append-nil, get_or, drop, take, set, get_or-set_same}
use Rattle.std.proofs.Common.{get_or-set_other, length-set, IfSome, Option, Some, None}
use Rattle.std.proofs.ByRecursion.{All-append}
use Rattle.std.proofs.lemmas.Bool.Decides.{eqb_tells}
use Rattle.std.proofs.lemmas.Option.{none-some, same_Some}
use Rattle.std.specs.List.{AllByRecursion}
use Rattle.std.specs.Option.{is_some}
use Rattle.slink_feed.specs.Serving.{IsNew}
use Rattle.slink_feed.specs.Session.{Fits}
use Rattle.slink_feed.specs.Window.{Window}
use Rattle.slink_feed.specs.Intake.{places_of}
use Rattle.slink_live.specs.declared.ready.Interest.{Interest}
use Rattle.slink_live.specs.Awake.{Goes, IsClosedRightly, further, nothing}
use Rattle.slink_live.specs.Happening.{Happening, Input, Opened, Received, Emitted, Gone}
use Rattle.slink_live.specs.Happening.{Left, Handed, first_interest, input_of, interest_after, interest_from, is_at}
use Rattle.slink_live.specs.Happening.{is_input, is_left, last_interest, left_by, left_from, links_by, links_from}
use Rattle.slink_live.specs.Happening.{piece_of, reads_of, wants_links}
use Rattle.slink_live.specs.Input.{IsFed, IsInput}
use Rattle.slink_live.specs.Served.{GoesOn, IsSound, IsHistory, LinkState, ServerState, link_state}
use Rattle.slink_live.specs.History.{elsewhere}
use Rattle.slink_live.specs.private.Calling.{HasFilled, HasReceived, HasTaken}
use Rattle.slink_live.specs.Turns.{Closes, IsReport, Leaves}
use Rattle.slink_live.specs.private.Keeping.{Carries, KeepsServing}
use Rattle.slink_live.proofs.Histories.{filled_history, gone_history, received_history, opened_history, taken_history}
use Rattle.slink_live.proofs.Own.{no_piece}

-- what the input gave
pub input_append : (xs ys : List Happening) → input_of (xs ++ ys) ≡ input_of xs ++ input_of ys
input_append [] ys = refl
input_append (x ∷ xs) ys = ap (λ b. piece_of x ++ b) (input_append xs ys)
    ∙ sym (append_assoc (piece_of x) (input_of xs) (input_of ys))

pub input_last : (log : List Happening) (h : Happening) → input_of (log ++ h ∷ []) ≡ input_of log ++ piece_of h
input_last log h = input_append log (h ∷ []) ∙ ap (λ b. input_of log ++ b) (append-nil (piece_of h))

-- what isn't of the input leaves it
pub input_quiet : (log : List Happening) (h : Happening) → is_input h ≡ false → input_of (log ++ h ∷ []) ≡ input_of log
input_quiet log h e = input_last log h ∙ (ap (λ b. input_of log ++ b) (no_piece h e) ∙ append-nil (input_of log))

-- how often it was read
pub reads_last : (log : List Happening) (h : Happening)
    → reads_of (log ++ h ∷ []) ≡ reads_of log + (if is_input h then 1 else 0)
reads_last [] h = omega arith
reads_last (x ∷ log) h = omega (arith, reads_last log h)

reads_quiet : (log : List Happening) (h : Happening) → is_input h ≡ false → reads_of (log ++ h ∷ []) ≡ reads_of log
reads_quiet log h e =
    omega (arith, reads_last log h, ap (λ (t : Bool). reads_of log + (if t then 1 else 0)) e)

all_quiet : (gone : List Happening) → AllByRecursion IsReport gone → input_of gone ≡ []
all_quiet [] g = refl
all_quiet (Input bytes ∷ hs) g = absurd g.0
all_quiet (h ∷ hs) g = all_quiet hs g.1

-- links that are closed leave the input
pub closes_input : (log last : List Happening) → Closes log last → input_of last ≡ input_of log
closes_input log last c = ap input_of c.last_is ∙ (input_append log c.gone
    ∙ (ap (λ b. input_of log ++ b) (all_quiet c.gone c.each) ∙ append-nil (input_of log)))

-- an input that is left is as it was
pub leaves_input : (log last : List Happening) → Leaves log last → input_of last ≡ input_of log
leaves_input log last c = closes_input (log ++ Left ∷ []) last c ∙ input_quiet log Left refl

pub closes_none : {log : List Happening} → Closes log log
closes_none {log} = record { gone = []; each = tt; last_is = sym (append-nil log) }

pub closes_one : {log : List Happening} (h : Happening) → IsReport h → Closes log (log ++ h ∷ [])
closes_one {log} h reporting = record { gone = h ∷ []; each = (reporting, tt); last_is = refl }

pub closes_both : {log now last : List Happening} → Closes log now → Closes now last → Closes log last
closes_both {log} a b = record {
  gone = a.gone ++ b.gone;
  each = All-append IsReport a.gone b.gone a.each b.each;
  last_is = b.last_is ∙ (ap (λ x. x ++ b.gone) a.last_is ∙ append_assoc log a.gone b.gone);
}

pub grows_both : (a b c : List Happening) → GoesOn a b → GoesOn b c → GoesOn a c
grows_both a b c x y = (x.0 ++ y.0, y.1 ∙ (ap (λ z. z ++ y.0) x.1 ∙ append_assoc a x.0 y.0))

-- further things happened
pub goes_then : {P : List Happening → Happening → Type 0} {a b c : List Happening} → Goes P a b → Goes P b c → Goes P a
    c
goes_then {P} {a} {b} {c} x nothing = x
goes_then {P} {a} {b} {c} x (further before now h on p e) = further before now h (goes_then x on) p e

pub goes_one : {P : List Happening → Happening → Type 0} {a : List Happening} (h : Happening) → P a h
    → Goes P a (a ++ h ∷ [])
goes_one {P} {a} h p = further a (a ++ h ∷ []) h nothing p refl

-- what was reported
pub interest_last : (k : ℕ) (log : List Happening) (h : Happening) (w : Interest)
    → interest_from k w (log ++ h ∷ []) ≡ interest_after k (interest_from k w log) h
interest_last k [] h w = refl
interest_last k (x ∷ log) h w = interest_last k log h (interest_after k w x)

pub links_last : (log : List Happening) (h : Happening) (b : Bool)
    → links_from b (log ++ h ∷ []) ≡ links_by (links_from b log) h
links_last [] h b = refl
links_last (x ∷ log) h b = links_last log h (links_by b x)

pub left_last : (log : List Happening) (h : Happening) (b : Bool)
    → left_from b (log ++ h ∷ []) ≡ left_by (left_from b log) h
left_last [] h b = refl
left_last (x ∷ log) h b = left_last log h (left_by b x)

pub not_self : (j k : ℕ) → k ≢ j → (j == k) ≡ false
not_self j k ne = elim (eqb_tells j k) [ inl same ↦ absurd (ne (sym same.1)) | inr other ↦ other.0 ]

-- what happens in another slot
pub history_elsewhere : (start : List Window) (k : ℕ) (o : Option LinkState) (log : List Happening) (h : Happening)
    → is_at k h ≡ false → IsHistory start k o log → IsHistory start k o (log ++ h ∷ [])
history_elsewhere start k o log h other s = record {
  past = s.past;
  served = elsewhere log (log ++ h ∷ []) h s.past s.served other refl;
  matches = s.matches;
}

-- Nothing of the input came, and the history of each slot goes on.
pub carries_on : (s : ServerState) (links : List (Option LinkState)) (has_ended : Bool) {log last : List Happening}
    → GoesOn log last → input_of last ≡ input_of log → reads_of last ≡ reads_of log
    → (has_ended ≡ false → s.has_ended ≡ false) → (s.has_ended ≡ true → has_ended ≡ true)
    → length links ≡ length s.links → ((start : List Window) → IsFed start (input_of log) s.intake.feed
    → ((k : ℕ) → IsHistory start k (get_or s.links k None) log)
    → (k : ℕ) → IsHistory start k (get_or links k None) last)
    → Carries s (record s { links = links; has_ended = has_ended }) log last
carries_on s links has_ended grows quiet read on over count slots = record {
  serving = λ start v. record {
    rest = v.rest;
    fed = record {
      records = v.fed.records;
      input = subst (λ b. IsInput (places_of start) b v.fed.records v.rest) (sym quiet) v.fed.input;
      feed_is = v.fed.feed_is;
    };
    counted = v.counted;
    goes_on = λ e. v.goes_on (on e);
    read = v.read ∙ sym read;
    slots = slots start (v.rest, v.fed) v.slots;
  };
  unread = λ e. (over e, quiet);
  slots = count;
  grows = grows;
}

-- something more happened, in no slot, and it is nothing of the input
pub keeps_one : {s : ServerState} {log : List Happening} (h : Happening) → is_input h ≡ false
    → ((k : ℕ) → is_at k h ≡ false) → IsSound s → KeepsServing s s log (log ++ h ∷ [])
keeps_one {s} {log} h none other sound = record {
  sound = sound;
  carries = carries_on s s.links s.has_ended (h ∷ [], refl) (input_quiet log h none) (reads_quiet log h none) (λ e. e)
      (λ e. e) refl
      (λ start fed v k. history_elsewhere start k (get_or s.links k None) log h (other k) (v k));
}

-- nothing happened
pub keeps_same : {s : ServerState} {log : List Happening} → IsSound s → KeepsServing s s log log
keeps_same {s} {log} sound = record {
  sound = sound;
  carries = record {
    serving = λ start v. v;
    unread = λ e. (e, refl);
    slots = refl;
    grows = ([], sym (append-nil log));
  };
}

-- one step, and then another
pub keeps_both : {s t u : ServerState} {a b c : List Happening} → Carries s t a b → KeepsServing t u b c
    → KeepsServing s u a c
keeps_both {a = a} {b = b} {c = c} x y = record {
  sound = y.sound;
  carries = record {
    serving = λ start v. y.carries.serving start (x.serving start v);
    unread = λ e.
        let before = x.unread e in
        let later = y.carries.unread before.0 in (later.0, later.1 ∙ before.1);
    slots = y.carries.slots ∙ x.slots;
    grows = grows_both a b c x.grows y.carries.grows;
  };
}

-- What happened leaves the input, and what concerns all slots but one: their histories, and what was reported of them.
pub record IsBeside (j : ℕ) (log last : List Happening) : Type 0 where
  pub grows : GoesOn log last
  pub quiet : input_of last ≡ input_of log
  pub read : reads_of last ≡ reads_of log
  pub others : (start : List Window) (k : ℕ) → k ≢ j → (o : Option LinkState) → IsHistory start k o log
      → IsHistory start k o last
  pub of_links : (k : ℕ) → k ≢ j → last_interest k last ≡ last_interest k log
  pub links : wants_links last ≡ wants_links log
  pub left : is_left last ≡ is_left log

pub nothing_beside : {j : ℕ} {log : List Happening} → IsBeside j log log
nothing_beside {j} {log} = record {
  grows = ([], sym (append-nil log));
  quiet = refl;
  read = refl;
  others = λ start k ne o s. s;
  of_links = λ k ne. refl;
  links = refl;
  left = refl;
}

pub one_beside : {j : ℕ} {log : List Happening} (h : Happening) → is_input h ≡ false
    → ((k : ℕ) → k ≢ j → is_at k h ≡ false) → ((k : ℕ) → k ≢ j → (w : Interest) → interest_after k w h ≡ w)
    → ((b : Bool) → links_by b h ≡ b) → ((b : Bool) → left_by b h ≡ b) → IsBeside j log (log ++ h ∷ [])
one_beside {j} {log} h none other of_links links left = record {
  grows = (h ∷ [], refl);
  quiet = input_quiet log h none;
  read = reads_quiet log h none;
  others = λ start k ne o s. history_elsewhere start k o log h (other k ne) s;
  of_links = λ k ne. interest_last k log h first_interest ∙ of_links k ne (last_interest k log);
  links = links_last log h true ∙ links (wants_links log);
  left = left_last log h false ∙ left (is_left log);
}

both_beside : {j : ℕ} {log mid last : List Happening} → IsBeside j log mid → IsBeside j mid last → IsBeside j log last
both_beside {j} {log} {mid} {last} a b = record {
  grows = grows_both log mid last a.grows b.grows;
  quiet = b.quiet ∙ a.quiet;
  read = b.read ∙ a.read;
  others = λ start k ne o s. b.others start k ne o (a.others start k ne o s);
  of_links = λ k ne. b.of_links k ne ∙ a.of_links k ne;
  links = b.links ∙ a.links;
  left = b.left ∙ a.left;
}

-- what holds of the link in a slot, of whichever it equals
pub each_some : (P : LinkState → Type 0) (o : Option LinkState) → IfSome o P → (l : LinkState) → o ≡ Some l → P l
each_some P None h l e = absurd (none-some l e)
each_some P (Some m) h l e = subst P (same_Some m l e) h

abbrev FitsIn : List Window → Option LinkState → Type 0
FitsIn feed o = (l : LinkState) → o ≡ Some l → Fits feed l.session.state

-- What happened in a slot, whose link it may change: its session can be served on, and its history goes on.
pub record Turns (feed : List Window) (j : ℕ) (o new : Option LinkState) (log last : List Happening) : Type 0 where
  pub beside : IsBeside j log last
  pub fits : FitsIn feed o → FitsIn feed new
  pub history : (start : List Window) → IsFed start (input_of log) feed → IsHistory start j o log
      → IsHistory start j new last

-- The same, where a link stands that stood before, or none, and none is closed.
pub record Moves (feed : List Window) (j : ℕ) (o new : Option LinkState) (log last : List Happening) : Type 0 where
  pub turns : Turns feed j o new log last
  pub some : is_some new ≡ is_some o
  pub goes : (start : List Window) → Goes (IsClosedRightly start) log last

moves_nothing : {feed : List Window} {j : ℕ} {o : Option LinkState} {log : List Happening} → Moves feed j o o log log
moves_nothing = record {
  turns = record { beside = nothing_beside; fits = λ f. f; history = λ start fed s. s };
  some = refl;
  goes = λ start. nothing;
}

module _ (feed : List Window) (j : ℕ) where
  fits_now : {o : Option LinkState} (now : LinkState) → Fits feed now.session.state → FitsIn feed o
      → FitsIn feed (Some now)
  fits_now now fits before = each_some (λ (l : LinkState). Fits feed l.session.state) (Some now) fits

  moves_on : {l : LinkState} (now : LinkState) {log last : List Happening} → IsBeside j log last
      → (Fits feed l.session.state → Fits feed now.session.state)
      → ((start : List Window) → IsFed start (input_of log) feed → IsHistory start j (Some l) log
      → IsHistory start j (Some now) last) → ((start : List Window) → Goes (IsClosedRightly start) log last)
      → Moves feed j (Some l) (Some now) log last
  moves_on {l} now beside fits history goes = record {
    turns = record { beside = beside; fits = λ f. fits_now now (fits (f l refl)) f; history = history };
    some = refl;
    goes = goes;
  }

  pub received_moves : (o new : Option LinkState) (log last : List Happening) → HasReceived feed j o new log last
      → Moves feed j o new log last
  received_moves None new log last h = rw (h.0, h.1) moves_nothing
  received_moves (Some l) new log last h = rw (h.2, h.3) (moves_on h.1
      (one_beside (Received j h.0) refl (not_self j) (λ k ne w. refl) (λ b. refl) (λ b. refl)) (λ f. h.5)
      (λ start fed. received_history start j log feed l h.1 h.0 fed h.4 h.6) (λ start. goes_one (Received j h.0) tt))

  pub taken_moves : (o new : Option LinkState) (log last : List Happening) → HasTaken j o new log last
      → Moves feed j o new log last
  taken_moves None new log last h = rw (h.0, h.1) moves_nothing
  taken_moves (Some l) new log last h = rw (h.1, h.2)
      (moves_on (link_state l.session l.ring (drop h.0 l.pending)) (both_beside
      (one_beside (Handed j l.pending) refl (λ k ne. refl) (λ k ne w. refl) (λ b. refl) (λ b. refl))
      (one_beside (Emitted j (take h.0 l.pending)) refl (not_self j) (λ k ne w. refl) (λ b. refl) (λ b. refl)))
      (λ f. f) (λ start fed. taken_history start j log l h.0)
      (λ start. goes_then (goes_one (Handed j l.pending) tt) (goes_one (Emitted j (take h.0 l.pending)) tt)))

  pub filled_moves : (o new : Option LinkState) (log : List Happening) → HasFilled feed o new
      → Moves feed j o new log log
  filled_moves None new log h = rw h moves_nothing
  filled_moves (Some l) new log h = rw h.1 (moves_on h.0 nothing_beside (λ f. h.3)
      (λ start fed. filled_history start j log feed l h.0 fed h.2) (λ start. nothing))

  pub opened_turns : (o : Option LinkState) (l : LinkState) (log : List Happening) → o ≡ None → IsNew l.session
      → l.pending ≡ [] → l.ring ≡ 0 → Fits feed l.session.state → Turns feed j o (Some l) log (log ++ Opened j ∷ [])
  opened_turns o l log free fresh none begins fits = rw free (record {
    beside = one_beside (Opened j) refl (not_self j)
        (λ k ne w. ap (λ (t : Bool). if t then first_interest else w) (not_self j k ne)) (λ b. refl) (λ b. refl);
    fits = fits_now l fits;
    history = λ start fed. opened_history start j log l fresh none begins;
  })

  pub gone_turns : (o : Option LinkState) (log : List Happening) → Turns feed j o None log (log ++ Gone j ∷ [])
  gone_turns o log = record {
    beside = one_beside (Gone j) refl (not_self j) (λ k ne w. refl) (λ b. refl) (λ b. refl);
    fits = λ f l e. absurd (none-some l e);
    history = λ start fed. gone_history start j log o;
  }

-- one slot changed
pub at_slot : (P : ℕ → Option LinkState → Type 0) (links : List (Option LinkState)) (j : ℕ) (new : Option LinkState)
    → j < length links → P j new → (k : ℕ) → (k ≢ j → P k (get_or links k None)) → P k (get_or (set links j new) k None)
at_slot P links j new lt own k others = elim (eqb_tells k j) [
  | inl same ↦ rw same.1 (rw (get_or-set_same links j new None lt) own)
  | inr other ↦ rw (get_or-set_other links j k new None other.1) (others other.1)
]

-- what happens in a slot keeps the server serving
pub turns_keep : (s : ServerState) (j : ℕ) (new : Option LinkState) {log last : List Happening} → IsSound s
    → j < length s.links → Turns s.intake.feed j (get_or s.links j None) new log last
    → KeepsServing s (record s { links = set s.links j new }) log last
turns_keep s j new {log} {last} sound lt t = record {
  sound = record {
    short = sound.short;
    begins = sound.begins;
    fit = λ k. at_slot (λ i o. FitsIn s.intake.feed o) s.links j new lt (t.fits (sound.fit j)) k (λ ne. sound.fit k);
    below = sound.below;
    few = sound.few;
    few_reads = sound.few_reads;
  };
  carries = carries_on s (set s.links j new) s.has_ended t.beside.grows t.beside.quiet t.beside.read (λ e. e) (λ e. e)
      (length-set s.links j new) (λ start fed v k. at_slot (λ i o. IsHistory start i o last) s.links j new lt
      (t.history start fed (v j)) k (λ ne. t.beside.others start k ne (get_or s.links k None) (v k)));
}
