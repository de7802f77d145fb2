-- Of a link only what happened in its slot matters, and the input; and each moment has its history.
use Rattle.std.proofs.Common.{◌≡◌, ℕ, ◌∙◌, ap, subst, refl, sym, Bool, true, false, ◌||◌, List, [], ◌∷◌}
use Rattle.std.proofs.Common.{◌++◌, append-nil, Option, None, if◌then◌else◌, arith, length, append_assoc}
use Rattle.std.proofs.lemmas.List.{length_push, same_from_push}
use Rattle.slink_feed.specs.Window.{Window}
use Rattle.slink_live.specs.Happening.{Happening, Input, Opened, Received, Emitted, Gone}
use Rattle.slink_live.specs.Happening.{input_of, is_at, is_input, piece_of, those_of}
use Rattle.slink_live.specs.Input.{IsFed}
use Rattle.slink_live.specs.History.{IsServed, History, no_event, elsewhere, opens, receives, asks, takes, goes}
use Rattle.std.proofs.lemmas.Bool.{eq-eqb}

if_leading : (t : Bool) (h : Happening) (xs ys : List Happening)
    → (if t then h ∷ (xs ++ ys) else xs ++ ys) ≡ (if t then h ∷ xs else xs) ++ ys
if_leading true h xs ys = refl
if_leading false h xs ys = refl

those_append : (k : ℕ) (xs ys : List Happening) → those_of k (xs ++ ys) ≡ those_of k xs ++ those_of k ys
those_append k [] ys = refl
those_append k (x ∷ xs) ys =
    ap (λ zs. if is_input x || is_at k x then x ∷ zs else zs) (those_append k xs ys)
    ∙ if_leading (is_input x || is_at k x) x (those_of k xs) (those_of k ys)

pub no_piece : (h : Happening) → is_input h ≡ false → piece_of h ≡ []
no_piece (Input bytes) e = absurd (let bad : true ≡ false = e in cc bad)
no_piece h e = refl

input_if : (p q : Bool) (h : Happening) (hs : List Happening) → is_input h ≡ p
    → input_of (if p || q then h ∷ hs else hs) ≡ piece_of h ++ input_of hs
input_if true q h hs e = refl
input_if false true h hs e = refl
input_if false false h hs e = ap (λ b. b ++ input_of hs) (sym (no_piece h e))

input_those : (k : ℕ) (log : List Happening) → input_of (those_of k log) ≡ input_of log
input_those k [] = refl
input_those k (h ∷ hs) = input_if (is_input h) (is_at k h) h (those_of k hs) refl
    ∙ ap (λ b. piece_of h ++ b) (input_those k hs)

-- one thing more, which concerns the slot
those_more : (k : ℕ) (before now : List Happening) (h : Happening) → now ≡ before ++ h ∷ []
    → (is_input h || is_at k h) ≡ true → those_of k now ≡ those_of k before ++ h ∷ []
those_more k before now h e t = rw (e, those_append k before (h ∷ []), t) refl

module _ (start : List Window) (k : ℕ) where
  fed_those : (log : List Happening) (feed : List Window) → IsFed start (input_of log) feed
      → IsFed start (input_of (those_of k log)) feed
  fed_those log feed f = subst (λ b. IsFed start b feed) (sym (input_those k log)) f

  own_elsewhere : (p : Bool) (before now : List Happening) (h : Happening) (o : Option History) → is_input h ≡ p
      → is_at k h ≡ false → now ≡ before ++ h ∷ [] → IsServed start k (those_of k before) o
      → IsServed start k (those_of k now) o
  own_elsewhere true before now h o is other e s =
      elsewhere (those_of k before) (those_of k now) h o s other
      (those_more k before now h e (ap (λ t. t || is_at k h) is))
  own_elsewhere false before now h o is other e s =
      rw (e, those_append k before (h ∷ []), is, other, append-nil (those_of k before)) s

  pub own_history : (log : List Happening) (o : Option History) → IsServed start k log o
      → IsServed start k (those_of k log) o
  own_history log o no_event = no_event
  own_history log o (elsewhere before now h x s other e) =
      own_elsewhere (is_input h) before now h x refl other e (own_history before x s)
  own_history log o (opens before now t s fresh e) =
      opens (those_of k before) (those_of k now) t (own_history before None s) fresh
      (those_more k before now (Opened k) e (eq-eqb k k refl))
  own_history log o (receives before now feed t new ring bytes produced all emitted s fed serves e) =
      receives (those_of k before) (those_of k now) feed t new ring bytes produced all emitted (own_history before _ s)
      (fed_those before feed fed) serves (those_more k before now (Received k bytes) e (eq-eqb k k refl))
  own_history log o (asks now feed t new ring turn produced all emitted s fed called) =
      asks (those_of k now) feed t new ring turn produced all emitted (own_history now _ s) (fed_those now feed fed)
      called
  own_history log o (takes before now t ring bytes produced emitted s prefix e) =
      takes (those_of k before) (those_of k now) t ring bytes produced emitted (own_history before _ s) prefix
      (those_more k before now (Emitted k bytes) e (eq-eqb k k refl))
  own_history log o (goes before now x s e) =
      goes (those_of k before) (those_of k now) x (own_history before x s)
      (those_more k before now (Gone k) e (eq-eqb k k refl))

-- What happened before one event more comes to a history.
module _ (start : List Window) (k : ℕ) (before : List Happening) (h : Happening) where
  abbrev HasHistory : Type 0
  HasHistory = (o : Option History) × IsServed start k before o

  so_far : (b now : List Happening) (g : Happening) (o : Option History) → now ≡ b ++ g ∷ [] → IsServed start k b o
      → now ≡ before ++ h ∷ [] → HasHistory
  so_far b now g o is s e = (o, rw (same_from_push before b h g (sym e ∙ is)).0 s)

  before_last : (now : List Happening) (o : Option History) → IsServed start k now o → now ≡ before ++ h ∷ []
      → HasHistory
  before_last now o no_event e = absurd (omega (arith, ap length e, length_push before h))
  before_last now o (elsewhere b last g x s other is) e = so_far b last g x is s e
  before_last now o (opens b last t s fresh is) e = so_far b last _ None is s e
  before_last now o (receives b last feed t new ring bytes produced all emitted s fed serves is) e =
      so_far b last _ _ is s e
  before_last now o (asks last feed t new ring turn produced all emitted s fed called) e = before_last last _ s e
  before_last now o (takes b last t ring bytes produced emitted s prefix is) e = so_far b last _ _ is s e
  before_last now o (goes b last x s is) e = so_far b last _ x is s e

pub each_moment : (start : List Window) (k : ℕ) (before after : List Happening) (o : Option History)
    → IsServed start k (before ++ after) o → (past : Option History) × IsServed start k before past
each_moment start k before [] o s = (o, rw append-nil at s)
each_moment start k before (h ∷ after) o s =
    let on = each_moment start k (before ++ h ∷ []) after o (rw (append_assoc before (h ∷ []) after) s) in
    before_last start k before h _ on.0 on.1 refl
