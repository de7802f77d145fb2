-- How much is due at most: a session that gives something has less to give.
use Rattle.std.proofs.Common.{◌≡◌, ◌≢◌, ℕ, ◌+◌, ◌-◌, ◌*◌, ◌≤◌, ◌<◌, zero, suc, min, refl, ap, arith}
use Rattle.std.proofs.Common.{List, [], ◌∷◌, length, set, Option, Some}
use Rattle.std.proofs.Common.{None, slice_get}
use Rattle.slink_feed.specs.declared.grant.Grant.{Grant}
use Rattle.slink_feed.specs.declared.session.Phase.{Phase}
use Rattle.slink_feed.specs.declared.session.Phase.TheVariants.{Streaming, Closed}
use Rattle.slink_feed.specs.declared.session.Sent.{Sent}
use Rattle.slink_feed.specs.declared.session.Sent.TheVariants as sents
use Rattle.slink_feed.specs.Session.{AreReached, Grants, State, grant_at, sent}
use Rattle.slink_feed.specs.Window.{Window}
use Rattle.slink_feed.proofs.Reached.{position_reached}
use Rattle.slink_feed.proofs.Calls.{Sends, is_done, is_overrun, is_packet, is_shut, is_waiting, sends}
use Rattle.slink_feed.proofs.Items.{read_at}

-- of one station: a ring keeps at most so many records
abbrev left_at : Window → Option Grant → ℕ
left_at w None = 0
left_at w (Some g) = min 1000000 (w.next - g.position)

abbrev left_of : List Window → Grants → ℕ
left_of [] gs = 0
left_of (w ∷ ws) [] = 0
left_of (w ∷ ws) (o ∷ gs) = left_at w o + left_of ws gs

abbrev due_in : Phase → List Window → Grants → ℕ
due_in Closed feed gs = 0
due_in phase feed gs = suc (left_of feed gs)

abbrev pub due : List Window → State → ℕ
due feed s = due_in s.phase feed s.grants

all_few : (ws : List Window) (gs : Grants) → left_of ws gs ≤ 1000000 * length ws
all_few [] gs = omega arith
all_few (w ∷ ws) [] = omega arith
all_few (w ∷ ws) (None ∷ gs) = omega (arith, all_few ws gs)
all_few (w ∷ ws) (Some g ∷ gs) = omega (arith, all_few ws gs)

few_in : (p : Phase) (feed : List Window) (gs : Grants) → due_in p feed gs ≤ 1 + 1000000 * length feed
few_in Closed feed gs = omega arith
few_in phase feed gs = omega (arith, all_few feed gs)

pub few_due : (feed : List Window) (s : State) → due feed s ≤ 1 + 1000000 * length feed
few_due feed s = few_in s.phase feed s.grants

left_set : (ws : List Window) (gs : Grants) (k : ℕ) (w : Window) (g h : Grant) → slice_get ws k ≡ Some w
    → grant_at gs k ≡ Some g → left_at w (Some h) + 1 ≡ left_at w (Some g)
    → left_of ws (set gs k (Some h)) + 1 ≡ left_of ws gs
left_set [] gs k w g h here at one = absurd (let bad : None ≡ Some w = here in cc bad)
left_set (v ∷ ws) [] k w g h here at one = absurd (let bad : None ≡ Some g = at in cc bad)
left_set (v ∷ ws) (o ∷ gs) zero w g h here at one =
    let both : (v ≡ w) × (o ≡ Some g) = (cc here, at) in
    let less : left_at v (Some h) + 1 ≡ left_at v o = rw (both.0, both.1) one in
    omega (arith, less)
left_set (v ∷ ws) (o ∷ gs) (suc k) w g h here at one = omega (arith, left_set ws gs k w g h here at one)

-- Nothing is given, and all stays; or less is due than before.
pub data Moves (feed : List Window) (s : State) (x : State × Sent) : Type 0 where
  waits : x.1 ≡ sents.Wait → x.0 ≡ s → Moves feed s x
  moves : x.1 ≢ sents.Wait → due feed x.0 + 1 ≤ due feed s → Moves feed s x

due_streaming : (feed : List Window) (s : State) → s.phase ≡ Streaming → due feed s ≡ suc (left_of feed s.grants)
due_streaming feed s is = ap (λ (p : Phase). due_in p feed s.grants) is

one_less : (next p : ℕ) → p < next → next ≤ p + 1000000 → min 1000000 (next - (p + 1)) + 1 ≡ min 1000000 (next - p)
one_less next p lt near = omega (arith, lt, near)

moved_by : (feed : List Window) (s : State) (k : ℕ) (x : State × Sent) → Sends feed s k x → s.phase ≢ Closed
    → AreReached feed s.grants
    → ((bytes : List ℕ) (w : Window) → x.1 ≡ sents.Packet bytes → slice_get feed k ≡ Some w
    → length w.records ≤ 1000000) → Moves feed s x
moved_by feed s k x (is_waiting h) open_still reached few = waits refl refl
moved_by feed s k x (is_done on done) open_still reached few =
    moves (λ e. cc e) (omega (arith, due_streaming feed s on))
moved_by feed s k x (is_overrun g on off) open_still reached few =
    moves (λ e. cc e) (omega (arith, due_streaming feed s on))
moved_by feed s k x (is_packet g w bytes on granted here off read) open_still reached few =
    let h : Grant = record { mode = g.mode; position = g.position + 1 } in
    let within : g.position ≤ w.next =
    position_reached feed s.grants k g w (grant_at s.grants k) reached refl granted here in
    let near : w.next ≤ g.position + 1000000 = omega (arith, few _ w refl here, (read_at w g.position bytes read).0) in
    let less : left_of feed (set s.grants k (Some h)) + 1 ≡ left_of feed s.grants =
    left_set feed s.grants k w g h here granted (one_less w.next g.position (omega (arith, within, off)) near) in
    let new : due_in s.phase feed (set s.grants k (Some h)) ≡ suc (left_of feed (set s.grants k (Some h))) =
    rw on refl in
    moves (λ e. cc e) (omega (arith, less, due_streaming feed s on, new))
moved_by feed s k x (is_shut shut) open_still reached few = absurd (open_still shut)

pub moved : (feed : List Window) (s : State) (k : ℕ) → s.phase ≢ Closed → AreReached feed s.grants
    → ((bytes : List ℕ) (w : Window) → (sent feed s k).1 ≡ sents.Packet bytes → slice_get feed k ≡ Some w
    → length w.records ≤ 1000000) → Moves feed s (sent feed s k)
moved feed s k open_still reached few = moved_by feed s k (sent feed s k) (sends feed s k) open_still reached few
