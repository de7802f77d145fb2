-- What answers leave of the grants of a session.
use Rattle.std.proofs.Common.{◌≡◌, ℕ, ◌≤◌, inl, inr, refl, sym, subst, List, Option, Some, None, slice_get}
use Rattle.std.specs.Option.{option_and_then}
use Rattle.slink_wire.specs.declared.command.Command.{Command}
use Rattle.slink_wire.specs.declared.command.Command.TheVariants.{Station, Data, Fetch, End, Bye}
use Rattle.slink_wire.specs.declared.lines.LineOutcome.{LineOutcome}
use Rattle.slink_wire.specs.declared.lines.LineOutcome.TheVariants.{More, Line, TooLong}
use Rattle.slink_wire.specs.declared.reply.Reply.{Reply}
use Rattle.slink_wire.specs.declared.reply.Reply.TheVariants as replies
use Rattle.slink_feed.specs.declared.grant.Mode.{Mode}
use Rattle.slink_feed.specs.declared.grant.Mode.TheVariants as modes
use Rattle.slink_feed.specs.declared.session.Phase.{Phase}
use Rattle.slink_feed.specs.declared.session.Phase.TheVariants.{Fresh, Chosen, Granted, Streaming, Closed}
use Rattle.slink_feed.specs.Grant.{grant_of}
use Rattle.slink_feed.specs.Rings.{station_at}
use Rattle.slink_feed.specs.Serving.{IsAnswer}
use Rattle.slink_feed.specs.Session.{IsBefore, State, answered_in, called, at, chosen, grant_at, granted}
use Rattle.slink_feed.specs.Session.{answer_chosen, answer_fresh, answer_granted, answer_streaming, reply_at_next}
use Rattle.slink_model.specs.Ties.{IsGranted, Leaves, dropped, given, same}
use Rattle.slink_feed.specs.Window.{Window, oldest_of}
use Rattle.slink_feed.proofs.Fitting.{granted_at}
use Rattle.slink_feed.proofs.Reached.{grant_set}

module _ (feed : List Window) (s : State) where
  abbrev pub Grants_stay : State → Type 0
  Grants_stay new = (k : ℕ) → IsGranted feed k (grant_at s.grants k) (grant_at new.grants k)

  stay : Grants_stay s
  stay k = same refl

  choose : (o : Option ℕ) → Grants_stay (chosen o s).0
  choose None k = same refl
  choose (Some j) k = elim (grant_set s.grants j k None) [ inl here ↦ dropped here.1 | inr there ↦ same there ]

  give : (mode : Mode) (j : ℕ) (w : Window) (o : Option ℕ) → slice_get feed j ≡ Some w
      → ((p : ℕ) → o ≡ Some p → (oldest_of w ≤ p) × (p ≤ w.next)) → Grants_stay (granted mode j o s).0
  give mode j w None here within k = same refl
  give mode j w (Some p) here within k = elim (grant_set s.grants j k (Some (record { mode = mode; position = p }))) [
    | inl at ↦ given (record { mode = mode; position = p }) w at.1
        (subst (λ i. slice_get feed i ≡ Some w) (sym at.0) here) (within p refl).0 (within p refl).1
    | inr there ↦ same there
  ]

  ask_of : (mode : Mode) (j : ℕ) (number : Option ℕ) (r : Option Window) → slice_get feed j ≡ r
      → Grants_stay (granted mode j (option_and_then (grant_of mode number) r) s).0
  ask_of mode j number None here = stay
  ask_of mode j number (Some w) here = give mode j w (grant_of mode number w) here (λ p e. granted_at mode number w p e)

  ask : (mode : Mode) (j : ℕ) (number : Option ℕ) → Grants_stay (called feed j mode number s).0
  ask mode j number = ask_of mode j number (slice_get feed j) refl

  leaves_fresh : (c : Command) → Grants_stay (answer_fresh feed s c).0
  leaves_fresh (Station sta net) = choose (station_at feed sta net)
  leaves_fresh command = stay

  leaves_chosen : (j : ℕ) (c : Command) → Grants_stay (answer_chosen feed j s c).0
  leaves_chosen j (Station sta net) = choose (station_at feed sta net)
  leaves_chosen j (Data number) = ask modes.Data j number
  leaves_chosen j (Fetch number) = ask modes.Fetch j number
  leaves_chosen j command = stay

  leaves_granted : (j : ℕ) (c : Command) → Grants_stay (answer_granted feed j s c).0
  leaves_granted j End = stay
  leaves_granted j c = leaves_chosen j c

  still : s.phase ≡ Streaming → ¬ (IsBefore s.phase)
  still e before = subst IsBefore e before

  leaves_streaming : (c : Command) → s.phase ≡ Streaming → Leaves Streaming feed s (answer_streaming s c)
  leaves_streaming Bye e = (refl, refl, λ before. before)
  leaves_streaming command e = (refl, refl, still e)

  shut : s.phase ≡ Closed → ¬ (IsBefore s.phase)
  shut e before = subst IsBefore e before

  leaves_in : (phase : Phase) (c : Command) → s.phase ≡ phase → Leaves phase feed s (answered_in phase feed s c)
  leaves_in Fresh c e = leaves_fresh c
  leaves_in (Chosen j) c e = leaves_chosen j c
  leaves_in (Granted j) c e = leaves_granted j c
  leaves_in Streaming c e = leaves_streaming c e
  leaves_in Closed c e = (refl, refl, shut e)

  leaves_ended : (phase : Phase) → s.phase ≡ phase → Leaves phase feed s (at Closed s.grants, reply_at_next phase)
  leaves_ended Streaming e = (refl, refl, λ before. before)
  leaves_ended Closed e = (refl, refl, λ before. before)
  leaves_ended phase e = stay

  leaves_nothing : (phase : Phase) → s.phase ≡ phase → Leaves phase feed s (s, replies.Nothing)
  leaves_nothing Streaming e = (refl, refl, still e)
  leaves_nothing Closed e = (refl, refl, shut e)
  leaves_nothing phase e = stay

  -- whatever line came
  pub leaves : (what : LineOutcome) (new : State) (reply : Reply) → IsAnswer feed s what new reply
      → Leaves s.phase feed s (new, reply)
  leaves More new reply is = let a : new ≡ s = is.0 in let b : reply ≡ replies.Nothing = is.1 in
      let p : (s, replies.Nothing) ≡ (new, reply) = cc in subst (Leaves s.phase feed s) p (leaves_nothing s.phase refl)
  leaves (Line line) new reply is = subst (Leaves s.phase feed s) is.2 (leaves_in s.phase is.0 refl)
  leaves TooLong new reply is = subst (Leaves s.phase feed s) is (leaves_ended s.phase refl)
