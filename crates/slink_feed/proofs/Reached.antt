-- Grants that the rings of a feed reach.
use Rattle.std.proofs.Common.{◌≡◌, ◌≢◌, ℕ, ◌+◌, ◌<◌, ◌≤◌, ◌⊎◌, inl, inr, refl, sym, ◌∙◌, arith}
use Rattle.std.proofs.Common.{List, set, Option, Some, None, slice_get}
use Rattle.std.proofs.lemmas.Bool.{eq-eqb, ne_eqb}
use Rattle.std.proofs.lemmas.Option.{same_Some}
use Rattle.slink_feed.specs.declared.grant.Grant.{Grant}
use Rattle.slink_feed.specs.declared.session.Phase.TheVariants.{Streaming}
use Rattle.slink_feed.specs.Session.{AreReached, Grants, IsReached, State, has_sent_all, at_next, grant_at, packet_at}
use Rattle.slink_feed.specs.Session.{sent}
use Rattle.slink_feed.specs.Window.{Window, record_at}
use Rattle.slink_feed.proofs.Items.{set_or}

-- a grant once another was written
pub grant_set : (gs : Grants) (k j : ℕ) (o : Option Grant) → ((j ≡ k) × (grant_at (set gs k o) j ≡ o))
    ⊎ (grant_at (set gs k o) j ≡ grant_at gs j)
grant_set gs k j o = set_or gs k j o None

-- a grant that the rings reach is written
pub reached_with : (feed : List Window) (gs : Grants) (k : ℕ) (g : Grant) → IsReached feed k g.position
    → AreReached feed gs → AreReached feed (set gs k (Some g))
reached_with feed gs k g reached before j h is = elim (grant_set gs k j (Some g)) [
  | inl here ↦ rw (same_Some g h (sym here.1 ∙ is)) at (rw (← here.0) at reached)
  | inr there ↦ before j h (sym there ∙ is)
]

-- a grant is dropped
pub reached_without : (feed : List Window) (gs : Grants) (k : ℕ) → AreReached feed gs → AreReached feed (set gs k None)
reached_without feed gs k before j h is = elim (grant_set gs k j None) [
  | inl here ↦ let bad : None ≡ Some h = sym here.1 ∙ is in cc bad
  | inr there ↦ before j h (sym there ∙ is)
]

-- the position of a grant
pub position_reached : (feed : List Window) (gs : Grants) (k : ℕ) (g : Grant) (w : Window) (o : Option Grant)
    → AreReached feed gs → o ≡ grant_at gs k → o ≡ Some g → slice_get feed k ≡ Some w → g.position ≤ w.next
position_reached feed gs k g w o before read is here =
    let reached : IsReached feed k g.position = before k g (sym read ∙ is) in
    rw (same_Some reached.0 w (sym reached.1 ∙ here)) at reached.2

-- a position that goes on to the next record
pub reached_next : (feed : List Window) (k : ℕ) (w : Window) (p : ℕ) → slice_get feed k ≡ Some w → p < w.next
    → IsReached feed k (p + 1)
reached_next feed k w p here lt = (w, here, omega (arith, lt))

-- what is sent at the ring's next record
pub sent_at_next : (feed : List Window) (s : State) (k : ℕ) (g : Grant) (w : Window) (n : ℕ) → s.phase ≡ Streaming
    → grant_at s.grants k ≡ Some g → slice_get feed k ≡ Some w → n ≡ w.next → g.position ≡ n
    → sent feed s k ≡ at_next (has_sent_all feed s.grants) s
sent_at_next feed s k g w n is granted here next at =
    rw (is, granted, here, eq-eqb g.position w.next (at ∙ next)) refl

-- what is sent elsewhere, by the record at the grant's position
pub sent_by_record : (feed : List Window) (s : State) (k : ℕ) (g : Grant) (w : Window) (o : Option (List ℕ))
    → s.phase ≡ Streaming → grant_at s.grants k ≡ Some g → slice_get feed k ≡ Some w → o ≡ record_at w g.position
    → g.position ≢ w.next → sent feed s k ≡ packet_at s k g o
sent_by_record feed s k g w o is granted here read off =
    rw (read, is, granted, here, ne_eqb g.position w.next off) refl
