-- What is on its way, item by item.
use Rattle.std.proofs.Common.{◌≡◌, ◌≢◌, ℕ, ◌+◌, ◌≤◌, inl, inr, refl, sym, ap, ◌∙◌, arith, ◌==◌, List, [], ◌∷◌, ◌++◌}
use Rattle.std.proofs.Common.{append_assoc, append-nil, length, length-append, Option, Some, if◌then◌else◌, ◌*◌}
use Rattle.std.proofs.Common.{get_or, take}
use Rattle.std.proofs.lemmas.Bool.Decides.{eqb_tells}
use Rattle.slink_wire.specs.declared.reply.Reply.{Reply}
use Rattle.slink_wire.specs.declared.reply.Reply.TheVariants as replies
use Rattle.slink_wire.specs.Reply.{reply_bytes}
use Rattle.slink_model.specs.Ties.{AreOfPlace, Places, Item, Accepted, Refused, Greeted, Carried, Finished, Holds}
use Rattle.slink_model.specs.Ties.{carried_of}
use Rattle.slink_model.specs.Ties.{item_bytes, items_of, of_place, way_bytes}

pub way_more : (xs ys : List Item) → way_bytes (xs ++ ys) ≡ way_bytes xs ++ way_bytes ys
way_more [] ys = refl
way_more (x ∷ xs) ys = ap (λ b. item_bytes x ++ b) (way_more xs ys)
    ∙ sym (append_assoc (item_bytes x) (way_bytes xs) (way_bytes ys))

pub of_more : (k : ℕ) (xs ys : List Item) → of_place k (xs ++ ys) ≡ of_place k xs ++ of_place k ys
of_more k [] ys = refl
of_more k (x ∷ xs) ys = ap (λ b. carried_of k x ++ b) (of_more k xs ys)
    ∙ sym (append_assoc (carried_of k x) (of_place k xs) (of_place k ys))

pub matched_more : (places : Places) (xs ys : List Item) → AreOfPlace places xs → AreOfPlace places ys
    → AreOfPlace places (xs ++ ys)
matched_more places [] ys p q = q
matched_more places (x ∷ xs) ys p q = (p.0, matched_more places xs ys p.1 q)

-- what is sent goes after what is on its way
pub flow_more : (kept way bytes : List ℕ) (xs ys : List Item) → bytes ≡ way_bytes ys → kept ++ way ≡ way_bytes xs
    → kept ++ (way ++ bytes) ≡ way_bytes (xs ++ ys)
flow_more kept way bytes xs ys more flow = sym (append_assoc kept way bytes)
    ∙ (ap (λ b. b ++ bytes) flow ∙ (ap (λ b. way_bytes xs ++ b) more ∙ sym (way_more xs ys)))

pub reply_items : (reply : Reply) → reply_bytes reply ≡ way_bytes (items_of reply)
reply_items replies.Nothing = refl
reply_items reply = refl

pub reply_matched : (places : Places) (reply : Reply) → AreOfPlace places (items_of reply)
reply_matched places replies.Nothing = tt
reply_matched places reply = (tt, tt)

pub reply_carries : (k : ℕ) (reply : Reply) → of_place k (items_of reply) ≡ []
reply_carries k replies.Nothing = refl
reply_carries k reply = refl

pub carries_none : (k : ℕ) (xs ys : List Item) → of_place k ys ≡ [] → of_place k (xs ++ ys) ≡ of_place k xs
carries_none k xs ys none = of_more k xs ys ∙ (ap (λ b. of_place k xs ++ b) none ∙ append-nil (of_place k xs))

module _ {X : Type 0} where
  -- what is chosen by two indices
  pub choice_here : (k : ℕ) (x y : X) → (if k == k then x else y) ≡ x
  choice_here k x y = elim (eqb_tells k k) [
    | inl same ↦ ap (λ t. if t then x else y) same.0
    | inr other ↦ absurd (other.1 refl)
  ]

  pub choice_there : (j k : ℕ) (x y : X) → j ≢ k → (if j == k then x else y) ≡ y
  choice_there j k x y ne =
      elim (eqb_tells j k) [ inl same ↦ absurd (ne same.1) | inr other ↦ ap (λ t. if t then x else y) other.0 ]

pub carried_here : (k n : ℕ) (r : List ℕ) → carried_of k (Carried k n r) ≡ (n, r) ∷ []
carried_here k n r = choice_here k ((n, r) ∷ []) []

pub carried_there : (j k n : ℕ) (r : List ℕ) → j ≢ k → carried_of k (Carried j n r) ≡ []
carried_there j k n r ne = choice_there j k ((n, r) ∷ []) [] ne

-- what the bytes of an item begin with tells it from the others
abbrev pub mark : Item → ℕ
mark Accepted = 20299
mark Refused = 17746
mark Greeted = 21349
mark (Carried k n r) = 21324
mark Finished = 17742

abbrev pub mark_of : List ℕ → ℕ
mark_of bytes = 256 * get_or bytes 0 0 + get_or bytes 1 0

pub marked : (i : Item) (is : List Item) → mark_of (take 2 (way_bytes (i ∷ is))) ≡ mark i
marked Accepted is = refl
marked i is = refl

-- what is held isn't past the last record
pub held_to : (first s : ℕ) (F : List (List ℕ)) (next : Option ℕ) (held : List (List ℕ))
    → Holds first F next held (Some s) → s + length held ≤ first + length F
held_to first s F next held h =
    omega (arith, h.3, ap length h.2, length-append h.0 (held ++ h.1), length-append held h.1)
