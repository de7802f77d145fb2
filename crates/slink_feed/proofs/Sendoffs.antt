-- What a session gave so far, and which of the bytes it accepted were answered.
use Rattle.std.proofs.Common.{◌≡◌, ◌≢◌, ℕ, ◌+◌, ◌-◌, ◌*◌, ◌≤◌, ◌<◌, ◌⊎◌, refl, sym, ap, subst, ◌∙◌, arith}
use Rattle.std.proofs.Common.{inl, inr, List, [], ◌∷◌, ◌++◌, append_assoc, append-nil, length}
use Rattle.std.proofs.Common.{length-append, replicate, take, take-append-drop, drop, Result, Err, IfErr}
use Rattle.std.proofs.Common.{IfOk}
use Rattle.std.proofs.lemmas.Bool.Decides.{nat_tests}
use Rattle.std.proofs.lemmas.List.{replicate_more}
use Rattle.slink_wire.specs.declared.reply.Reply.{Reply}
use Rattle.slink_wire.specs.declared.reply.Reply.TheVariants as replies
use Rattle.slink_wire.specs.Reply.{reply_bytes}
use Rattle.slink_feed.specs.declared.session.Phase.TheVariants.{Closed}
use Rattle.slink_feed.specs.declared.session.Sent.{Sent}
use Rattle.slink_feed.specs.declared.session.Sent.TheVariants as sents
use Rattle.slink_feed.specs.declared.session.Unsent.{Unsent}
use Rattle.slink_feed.specs.declared.session.Unsent.TheVariants as unsents
use Rattle.slink_feed.specs.private.Replying.{HasFailed, HasGiven, HasSent, IsUnwritten, IsWritten, waits_after}
use Rattle.slink_feed.specs.Rounds.{Attending, FailsToSend, Gives, HasWaited, all_sent, place_after}
use Rattle.slink_feed.specs.Serving.{Serves, SessionState, Takes, none_served, piece_served}
use Rattle.slink_feed.specs.Session.{AreReached, State, sent, sent_bytes, sent_without}
use Rattle.slink_feed.specs.Turns.{Emitted}
use Rattle.slink_feed.specs.Window.{Window}
use Rattle.slink_feed.proofs.Items.{given_both}
use Rattle.slink_feed.proofs.Deliveries.{prefix_further, prefix_length, piece_is, emitted_further, emitted_none}
use Rattle.slink_feed.proofs.Dues.{Moves, due, few_due, moved, moves, waits}

pub record SentSoFar (feed : List Window) (old now : Attending) (k waits written : ℕ) : Type 0 where
  pub given : List Sent
  pub gives : Gives feed 0 old.session.state given k now.session.state
  pub waited : HasWaited waits given
  pub held : now.session.held ≡ old.session.held
  pub emitted : Emitted old.written now.written (all_sent given)
  pub counted : written ≡ length (all_sent given)
  pub few : written + 520 * due feed now.session.state ≤ 520 * due feed old.session.state
  pub within : 0 < length feed → k < length feed
  pub waits_few : waits ≤ length feed

pub nothing_sent : (feed : List Window) (s : Attending) → SentSoFar feed s s 0 0 0
nothing_sent feed s = record {
  given = [];
  gives = (refl, refl);
  waited = ([], refl);
  held = refl;
  emitted = emitted_none s.written;
  counted = refl;
  few = omega arith;
  within = λ some. some;
  waits_few = omega arith;
}

gives_more : (feed : List Window) (k last : ℕ) (s t : State) (given : List Sent) (x : State × Sent)
    → sent feed t last ≡ x → Gives feed k s given last t
    → Gives feed k s (given ++ x.1 ∷ []) (place_after feed last) x.0
gives_more feed k last s t [] x is gives = let same : sent feed s k ≡ x = rw (gives.0, gives.1) at is in
    (ap (λ (p : State × Sent). p.1) same, (ap (place_after feed) gives.0, ap (λ (p : State × Sent). p.0) (sym same)))
gives_more feed k last s t (a ∷ more) x is gives =
    (gives.0, gives_more feed (place_after feed k) last (sent feed s k).0 t more x is gives.1)

pub all_joined : (some more : List Sent) → all_sent (some ++ more) ≡ all_sent some ++ all_sent more
all_joined some more = given_both all_sent sent_bytes refl (λ a rest. refl) some more

all_more : (given : List Sent) (a : Sent) → all_sent (given ++ a ∷ []) ≡ all_sent given ++ sent_bytes a
all_more given a = rw (all_joined given (a ∷ []), append-nil (sent_bytes a)) refl

waited_more : (given : List Sent) (a : Sent) (n : ℕ) → HasWaited n given → HasWaited (waits_after a n) (given ++ a ∷ [])
waited_more given sents.Wait n waited = (
  waited.0,
  rw (waited.1, append_assoc waited.0 (replicate n sents.Wait) (sents.Wait ∷ []), replicate_more n sents.Wait) refl,
)
waited_more given a n waited = (given ++ a ∷ [], sym (append-nil (given ++ a ∷ [])))

waits_within : (a : Sent) (n most : ℕ) → n < most → waits_after a n ≤ most
waits_within sents.Wait n most lt = omega (arith, lt)
waits_within answer n most lt = omega arith

pub place_within : (feed : List Window) (k : ℕ) → k < length feed → place_after feed k < length feed
place_within feed k lt = grind (arith, nat_tests)

-- nothing was given, so that nothing was written
few_more : (feed : List Window) (s : State) (x : State × Sent) (written count all : ℕ) → Moves feed s x → count ≤ 520
    → (x.1 ≡ sents.Wait → count ≡ 0) → written + 520 * due feed s ≤ all → (written + count) + 520 * due feed x.0 ≤ all
few_more feed s x written count all (waits is same) short none before =
    omega (arith, none is, ap (due feed) same, before)
few_more feed s x written count all (moves is less) short none before = omega (arith, less, short, before)

module _ (feed : List Window) (old now new : Attending) (k waits_now written : ℕ)
    (so_far : SentSoFar feed old now k waits_now written) (x : State × Sent) (is : sent feed now.session.state k ≡ x)
    (state : new.session.state ≡ x.0) (held : new.session.held ≡ now.session.held) where
  given : List Sent
  given = so_far.given ++ x.1 ∷ []

  gives : Gives feed 0 old.session.state (so_far.given ++ x.1 ∷ []) (place_after feed k) new.session.state
  gives = rw state (gives_more feed 0 k old.session.state now.session.state so_far.given x is so_far.gives)

  pub one_sent : (after : ℕ) → Moves feed now.session.state x → waits_now < length feed → k < length feed
      → length (sent_bytes x.1) ≤ 520 → IsWritten now.written new.written (sent_bytes x.1) written after
      → SentSoFar feed old new (place_after feed k) (waits_after x.1 waits_now) after
  one_sent after moved lt within short done = record {
    given = so_far.given ++ x.1 ∷ [];
    gives = gives;
    waited = waited_more so_far.given x.1 waits_now so_far.waited;
    held = held ∙ so_far.held;
    emitted = emitted_further old.written now.written new.written (all_sent so_far.given) (sent_bytes x.1)
        (all_sent (so_far.given ++ x.1 ∷ [])) (all_more so_far.given x.1) so_far.emitted done.written;
    counted = done.count ∙ (ap (λ n. n + length (sent_bytes x.1)) so_far.counted
        ∙ (sym (length-append (all_sent so_far.given) (sent_bytes x.1)) ∙ ap length (sym (all_more so_far.given x.1))));
    few = rw (state, done.count) (few_more feed now.session.state x written (length (sent_bytes x.1))
        (520 * due feed old.session.state) moved short (ap (λ b. length (sent_bytes b))) so_far.few);
    within = λ some. place_within feed k within;
    waits_few = waits_within x.1 waits_now (length feed) lt;
  }

  pub unsent : (after : ℕ) → IsUnwritten now.written new.written (sent_bytes x.1) written after
      → FailsToSend feed old new after
  unsent after cut =
      let counted : after ≡ length (all_sent so_far.given) + cut.more =
      cut.count ∙ ap (λ n. n + cut.more) so_far.counted in
      record {
        given = so_far.given;
        last = x.1;
        place = place_after feed k;
        gives = gives;
        held = held ∙ so_far.held;
        written = prefix_further old.written now.written new.written (all_sent so_far.given) (sent_bytes x.1)
            (all_sent (so_far.given ++ x.1 ∷ [])) after cut.more (all_more so_far.given x.1) counted so_far.emitted
            cut.written;
        beyond = omega (arith, counted);
      }

-- less is due, or one more call gave nothing
pub less_left : (feed : List Window) (s new : State) (x : State × Sent) (n : ℕ) → Moves feed s x → new ≡ x.0 → n < 16
    → 17 * due feed new + (16 - waits_after x.1 n) < 17 * due feed s + (16 - n)
less_left feed s new x n (waits is same) e lt =
    omega (arith, ap (due feed) (e ∙ same), ap (λ a. waits_after a n) is, lt)
less_left feed s new x n (moves is less) e lt = omega (arith, ap (due feed) e, less, lt)

pub has_moved : (feed : List Window) (k : ℕ) (now new : Attending) (before after n waited : ℕ)
    → now.session.state.phase ≢ Closed → AreReached feed now.session.state.grants
    → (given : HasGiven feed k now new before after n waited)
    → Moves feed now.session.state (new.session.state, given.answer)
has_moved feed k now new before after n waited open_still reached given =
    subst (Moves feed now.session.state) given.is
    (moved feed now.session.state k open_still reached
    (λ bytes w p at. given.few bytes (ap (λ (y : State × Sent). y.1) (sym given.is) ∙ p) w at))

pub has_sent : (feed : List Window) (old now : Attending) (k n written : ℕ) → length feed ≤ 16
    → (now.session.state.phase ≡ Closed) ⊎ (length feed ≤ n) → SentSoFar feed old now k n written
    → HasSent feed old now written
has_sent feed old now k n written most ends so_far = record {
  sends = record {
    given = so_far.given;
    place = k;
    gives = so_far.gives;
    ends = elim ends [
      | inl shut ↦ inl shut
      | inr all ↦ inr (let same : n ≡ length feed = omega (arith, all, so_far.waits_few) in rw same at so_far.waited)
    ];
    held = so_far.held;
    written = so_far.emitted;
  };
  counted = ap length so_far.emitted.bytes
      ∙ (length-append old.written.bytes (all_sent so_far.given)
      ∙ ap (λ m. length old.written.bytes + m) (sym so_far.counted));
  few = omega (arith, so_far.few, few_due feed old.session.state, most);
}

pub few_written : (feed : List Window) (old now : Attending) (k n written : ℕ) → length feed ≤ 16
    → SentSoFar feed old now k n written → written ≤ 1099511627776
few_written feed old now k n written most so_far = omega (arith, so_far.few, few_due feed old.session.state, most)

-- the bytes that a session accepted are answered
pub record RepliedSoFar (feed : List Window) (old now : Attending) (bytes : List ℕ) (start before written : ℕ) : Type
    0 where
  pub within : start ≤ length bytes
  pub serves : Serves feed old.session (take start bytes) old.written.bytes now.session now.written.bytes
  pub failures : now.written.failures ≡ old.written.failures
  pub counted : length now.written.bytes + before ≡ length old.written.bytes + written
  pub few : written ≤ before + 35 * start

pub nothing_replied : (feed : List Window) (s : Attending) (bytes : List ℕ) (before : ℕ)
    → RepliedSoFar feed s s bytes 0 before before
nothing_replied feed s bytes before = record {
  within = omega arith;
  serves = none_served s.session s.written.bytes;
  failures = refl;
  counted = refl;
  few = omega arith;
}

serves_piece : (feed : List Window) (s now last : SessionState) (bytes piece way on : List ℕ) (reply : Reply)
    → Serves feed s bytes way now on → Takes feed now piece last reply
    → Serves feed s (bytes ++ piece) way last (on ++ reply_bytes reply)
serves_piece feed s now last bytes piece way on reply (none_served t w) takes =
    piece_served t last last piece piece [] w (w ++ reply_bytes reply) reply (sym (append-nil piece)) takes
    (none_served last (w ++ reply_bytes reply))
serves_piece feed s now last bytes piece way on reply (piece_served t u v bs prefix rest w all other split one more)
    takes =
    piece_served t u last (bs ++ piece) prefix (rest ++ piece) w (all ++ reply_bytes reply) other
    (ap (λ xs. xs ++ piece) split ∙ append_assoc prefix rest piece) one
    (serves_piece feed u v last rest piece (w ++ reply_bytes other) all reply more takes)

pub reply_short : (reply : Reply) → length (reply_bytes reply) ≤ 35
reply_short replies.Nothing = omega arith
reply_short reply = omega arith

module _ (feed : List Window) (old now new : Attending) (bytes : List ℕ) (start before written used : ℕ) (reply : Reply)
    (so_far : RepliedSoFar feed old now bytes start before written)
    (takes : Takes feed now.session (take used (take (length bytes - start) (drop start bytes))) new.session
    reply) where
  pub one_replied : (after : ℕ) → 0 < used → used ≤ length bytes - start
      → IsWritten now.written new.written (reply_bytes reply) written after
      → RepliedSoFar feed old new bytes (start + used) before after
  one_replied after some bound done = record {
    within = omega (arith, so_far.within, bound);
    serves = rw (done.written.bytes, ← (piece_is bytes start used))
        (serves_piece feed old.session now.session new.session (take start bytes)
        (take used (take (length bytes - start) (drop start bytes))) old.written.bytes now.written.bytes reply
        so_far.serves takes);
    failures = done.written.failures ∙ so_far.failures;
    counted = omega (
      arith,
      ap length done.written.bytes,
      length-append now.written.bytes (reply_bytes reply),
      done.count,
      so_far.counted,
    );
    few = omega (arith, done.count, reply_short reply, so_far.few, some);
  }

  pub unreplied : (after : ℕ) → IsUnwritten now.written new.written (reply_bytes reply) written after
      → HasFailed feed old new bytes before after
  unreplied after cut = record {
    fails = record {
      prefix = take start bytes;
      piece = take used (take (length bytes - start) (drop start bytes));
      rest = drop (start + used) bytes;
      bytes_are = rw (piece_is bytes start used) (sym (take-append-drop (start + used) bytes));
      before = now;
      replies = record { serves = so_far.serves; failures = so_far.failures };
      reply = reply;
      takes = takes;
      count = cut.more;
      written = cut.written;
    };
    counted = omega (
      arith,
      prefix_length now.written new.written (reply_bytes reply) cut.more cut.written,
      cut.count,
      so_far.counted,
    );
  }

-- where no record is sent, no packet is, and few bytes are
pub no_packet : (unsent : Unsent) (bytes : List ℕ) → sent_without unsent ≢ sents.Packet bytes
no_packet unsents.Wait bytes e = cc e
no_packet unsent bytes e = cc e

pub few_without : (unsent : Unsent) → length (sent_bytes (sent_without unsent)) ≤ 520
few_without unsents.Wait = omega arith
few_without unsent = omega arith

-- the fault that a `?` passes on
pub passed_on : {T E : Type 0} (r : Result T E) (fault : E) (P : E → Type 0)
    → ((x : E) × (r ≡ Err x) × (x ≡ fault)) → P fault → IfErr r P
passed_on r fault P got fails = rw (got.1, got.2) fails

-- where a `?` passes a fault on, nothing is said of a result
pub not_ok : {T E : Type 0} {Q : E → Type 0} (r : Result T E) (P : T → Type 0)
    → ((x : E) × (r ≡ Err x) × Q x) → IfOk r P
not_ok r P got = rw got.1 tt
