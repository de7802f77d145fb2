-- A stream of bytes reads as wholes in one way.
use Rattle.std.proofs.Common.{◌≡◌, ℕ, inl, inr, refl, sym, ap, subst, ◌∙◌, arith, List, [], ◌∷◌, ◌++◌, append_assoc}
use Rattle.std.proofs.Common.{append-nil}
use Rattle.std.proofs.lemmas.List.{append_cancel_left}
use Rattle.slink_wire.proofs.Prefixes.{prefixes}
use Rattle.slink_feed.specs.declared.dialogue.Event.{Event}
use Rattle.slink_feed.specs.declared.dialogue.Stage.{Stage}
use Rattle.slink_feed.specs.declared.dialogue.Stage.TheVariants.{Unlinked, Ended}
use Rattle.slink_feed.specs.Cutting.{IsBegun, IsWhole}
use Rattle.slink_feed.specs.Dialogue.{Talk, Whole, read}
use Rattle.slink_feed.specs.Listening.{AreBrought, Brought, IsLinked, Listening, Reads, bytes_of, events_of, talk_after}
use Rattle.slink_feed.proofs.Wholes.{begun_no_whole, prefix_begun, one_whole}

-- a whole that another goes on with is that other
no_further : (stage : Stage) (a z b : List ℕ) (w v : Whole) → IsWhole stage a w → IsWhole stage b v → b ≡ a ++ z → b ≡ a
no_further stage a [] b w v p q e = e ∙ append-nil a
no_further stage a (x ∷ z) b w v p q e =
    absurd (begun_no_whole stage a [] w
    (rw (append-nil a) (prefix_begun stage a (x ∷ z) v (omega arith) (rw e at q))) p)

pub one_prefix : (stage : Stage) (a b x y : List ℕ) (w v : Whole) → IsWhole stage a w → IsWhole stage b v
    → a ++ x ≡ b ++ y → a ≡ b
one_prefix stage a b x y w v p q e = elim (prefixes a b x y e) [
  | inl more ↦ sym (no_further stage a more.0 b w v p q more.1)
  | inr more ↦ no_further stage b more.0 a v w q p more.1
]

brought_same : (b c : Brought) → b.bytes ≡ c.bytes → b.whole ≡ c.whole → b ≡ c
brought_same b c p q = ap (λ (bytes : List ℕ). record { bytes = bytes; whole = b.whole }) p
    ∙ ap (λ (w : Whole). record { bytes = c.bytes; whole = w }) q

-- what is left is begun, where more is taken
abbrev pub IsRest : Stage → List ℕ → Type 0
IsRest stage bytes = IsLinked stage → IsBegun stage bytes

whole_linked : (stage : Stage) (a : List ℕ) (w : Whole) → IsWhole stage a w → IsLinked stage
whole_linked Unlinked a w is = is
whole_linked (Ended ending) a w is = is
whole_linked stage a w is = tt

pub one_brought : (t : Talk) (bs cs : List Brought) (k m : List ℕ) → AreBrought t bs → AreBrought t cs
    → bytes_of bs ++ k ≡ bytes_of cs ++ m → IsRest (talk_after t bs).stage k → IsRest (talk_after t cs).stage m
    → (bs ≡ cs) × (k ≡ m)
one_brought t [] [] k m p q e f g = (refl, e)
one_brought t [] (c ∷ cs) k m p q e f g =
    absurd (begun_no_whole _ _ (bytes_of cs ++ m) _
    (subst (IsBegun t.stage) (e ∙ append_assoc c.bytes (bytes_of cs) m) (f (whole_linked _ _ _ q.0))) q.0)
one_brought t (b ∷ bs) [] k m p q e f g =
    absurd (begun_no_whole _ _ (bytes_of bs ++ k) _
    (subst (IsBegun t.stage) (sym e ∙ append_assoc b.bytes (bytes_of bs) k) (g (whole_linked _ _ _ p.0))) p.0)
one_brought t (b ∷ bs) (c ∷ cs) k m p q e f g =
    let both : b.bytes ++ (bytes_of bs ++ k) ≡ c.bytes ++ (bytes_of cs ++ m) =
    sym (append_assoc b.bytes (bytes_of bs) k) ∙ (e ∙ append_assoc c.bytes (bytes_of cs) m) in
    let prefix : b.bytes ≡ c.bytes =
    one_prefix t.stage b.bytes c.bytes (bytes_of bs ++ k) (bytes_of cs ++ m) b.whole c.whole p.0 q.0 both in
    let rest : bytes_of bs ++ k ≡ bytes_of cs ++ m =
    append_cancel_left c.bytes (bytes_of bs ++ k) (bytes_of cs ++ m)
    (ap (λ xs. xs ++ (bytes_of bs ++ k)) (sym prefix) ∙ both) in
    let whole : b.whole ≡ c.whole =
    one_whole _ _ _ _ (rw prefix at p.0) q.0 in
    let talk : (read t b.whole).0 ≡ (read t c.whole).0 = ap (λ w. (read t w).0) whole in
    let more = one_brought (read t c.whole).0 bs cs k m (rw talk at p.1) q.1 rest
    (subst (λ u. IsRest (talk_after u bs).stage k) talk f) g in
    let one : b ≡ c = brought_same b c prefix whole in
    (cc (one, more.0), more.1)

pub seen_same : (m n : Listening) → m.talk ≡ n.talk → m.kept ≡ n.kept → m ≡ n
seen_same m n p q = ap (λ (t : Talk). record { talk = t; kept = m.kept }) p
    ∙ ap (λ (k : List ℕ). record { talk = n.talk; kept = k }) q

pub one_reading : (start : Talk) (stream : List ℕ) (a b : List Event) (m n : Listening) → Reads start stream a m
    → Reads start stream b n → (a ≡ b) × (m ≡ n)
one_reading start stream a b m n p q =
    let one : (p.brought ≡ q.brought) × (m.kept ≡ n.kept) =
    one_brought start p.brought q.brought m.kept n.kept p.are_brought q.are_brought (sym p.bytes ∙ q.bytes)
    (λ _. rw p.talk at p.is_begun) (λ _. rw q.talk at q.is_begun) in (
      p.events_are ∙ (ap (events_of start) one.0 ∙ sym q.events_are),
      seen_same m n (p.talk ∙ (ap (talk_after start) one.0 ∙ sym q.talk)) one.1,
    )
