-- Parts that count, joined: those before and those after.
use Rattle.std.proofs.Common.{◌≡◌, ◌<◌, ◌^◌, List, [], ◌∷◌, ◌++◌, Bool, true, false, Option, Some, None}
use Rattle.std.proofs.Common.{refl, sym, ap, ◌∙◌, subst, arith, ◌⊎◌}
use Rattle.std.specs.List.Sorted.{IsStrictlySortedBy}
use Rattle.std.specs.Option.{is_some}
use Rattle.mseed_stream.specs.declared.fault.StreamFault.{StreamFault}
use Rattle.mseed_join.specs.Parts.{IsAscending}
use Rattle.mseed_join.specs.Written.{Written}
use Rattle.mseed_join.proofs.JoinedParts.{joint_one}
use Rattle.mseed_join.specs.Joined.{AreJoined, none, one, IsNext, IsJointOf, counted, counted_by, nothing}

-- ---- one part and more
pub record IsFirst (a w : Written) (ws : List Written) (h : Written) : Type 0 where
  pub between : Written
  pub next : IsNext a w between
  pub more : AreJoined between ws h

pub first_of : (a w h : Written) (ws : List Written) → AreJoined a (w ∷ ws) h → IsFirst a w ws h
first_of a w h ws (one _ _ b _ _ next more) = record { between = b; next = next; more = more }

pub none_of : (a h : Written) → AreJoined a [] h → a ≡ h
none_of a h (none _) = refl

-- ---- what holds of each joint part
pub record IsGood (a : Written) : Type 0 where
  pub ascending : IsAscending a.part.channels
  pub records : a.part.records < 2 ^ 63
  pub bytes : a.part.bytes < 2 ^ 63
  pub faults : a.faults < 2 ^ 63

next_good : (a w b : Written) → IsNext a w b → IsGood b
next_good a w b n = search arith

pub joined_good : (a h : Written) (ws : List Written) → IsGood a → AreJoined a ws h → IsGood h
joined_good a h [] g j = subst IsGood (none_of a h j) g
joined_good a h (w ∷ ws) g j =
    let f : IsFirst a w ws h = first_of a w h ws j in
    joined_good f.between h ws (next_good a w f.between f.next) f.more

pub nothing_good : IsGood nothing
unfolding IsStrictlySortedBy
nothing_good = record { ascending = tt; records = omega arith; bytes = omega arith; faults = omega arith }

-- ---- those before, and those after
joined_append : (a b c : Written) (ws vs : List Written) → AreJoined a ws b → AreJoined b vs c
    → AreJoined a (ws ++ vs) c
joined_append a b c [] vs j k = rw (none_of a b j) k
joined_append a b c (w ∷ ws) vs j k =
    let f : IsFirst a w ws b = first_of a w b ws j in
    one a w f.between c (ws ++ vs) f.next (joined_append f.between b c ws vs f.more k)

pub joined_one_more : (a b c w : Written) (ws : List Written) → AreJoined a ws b → IsNext b w c
    → AreJoined a (ws ++ w ∷ []) c
joined_one_more a b c w ws j next = joined_append a b c ws (w ∷ []) j (one b w c c [] next (none c))

pub joined_split : (a c : Written) (ws vs : List Written) → AreJoined a (ws ++ vs) c
    → (b : Written) × (AreJoined a ws b × AreJoined b vs c)
joined_split a c [] vs j = (a, (none a, j))
joined_split a c (w ∷ ws) vs j =
    let f : IsFirst a w (ws ++ vs) c = first_of a w c (ws ++ vs) j in
    let s = joined_split f.between c ws vs f.more in
    (s.0, (one a w f.between s.0 ws f.next s.1.0, s.1.1))

-- ---- which of them count
-- a fault that isn't passed: no part counts after it
abbrev closes_by : Bool → Option StreamFault → Bool → Bool
closes_by past None rest = rest
closes_by true (Some f) rest = rest
closes_by false (Some f) rest = true

abbrev closes : Bool → List Written → Bool
closes past [] = false
closes past (w ∷ ws) = closes_by past w.end (closes past ws)

on_by : (past : Bool) (w : Written) (end : Option StreamFault) (c : Bool) (xs ys zs : List Written)
    → closes_by past end c ≡ false → (c ≡ false → xs ≡ ys ++ zs)
    → counted_by past w end xs ≡ counted_by past w end ys ++ zs
on_by past w end c xs ys zs h1 h2 = grind arith

on : (past : Bool) (ws vs : List Written) → closes past ws ≡ false
    → counted past (ws ++ vs) ≡ counted past ws ++ counted past vs
on past [] vs e = refl
on past (w ∷ ws) vs e = search (arith, on_by, on past ws vs)

stop_by : (past : Bool) (w : Written) (end : Option StreamFault) (c : Bool) (xs ys : List Written)
    → closes_by past end c ≡ true → (c ≡ true → xs ≡ ys) → counted_by past w end xs ≡ counted_by past w end ys
stop_by past w end c xs ys h1 h2 = grind arith

stops : (past : Bool) (ws vs : List Written) → closes past ws ≡ true → counted past (ws ++ vs) ≡ counted past ws
stops past [] vs e = cc e
stops past (w ∷ ws) vs e = search (arith, stop_by, stops past ws vs)

-- and with one their joint part ends
closed_by : (past : Bool) (a w : Written) (ws : List Written) (b : Written) (end : Option StreamFault) → w.end ≡ end
    → ((c : Written) → c.end ≡ None → AreJoined c (counted past ws) b → closes past ws ≡ is_some b.end)
    → AreJoined a (counted_by past w end (counted past ws)) b → closes_by past end (closes past ws) ≡ is_some b.end
closed_by past a w ws b end h1 h2 h3 = grind (arith, first_of, none_of)

closed : (past : Bool) (a : Written) (ws : List Written) (b : Written) → a.end ≡ None → AreJoined a (counted past ws) b
    → closes past ws ≡ is_some b.end
closed past a [] b n j = sym (ap (λ (c : Written). is_some c.end) (sym (none_of a b j)) ∙ ap is_some n)
closed past a (w ∷ ws) b n j = closed_by past a w ws b w.end refl (λ c m k. closed past c ws b m k) j

-- after parts whose joint part ends without a fault
pub counted_on : (past : Bool) (ws vs : List Written) (b : Written) → b.end ≡ None → IsJointOf past ws b
    → counted past (ws ++ vs) ≡ counted past ws ++ counted past vs
counted_on past ws vs b n j = on past ws vs (closed past nothing ws b refl j ∙ ap is_some n)

pub glue : (past : Bool) (ws vs : List Written) (b h : Written) → b.end ≡ None → IsJointOf past ws b
    → AreJoined b (counted past vs) h → IsJointOf past (ws ++ vs) h
glue past ws vs b h n j k = search (arith, counted_on, joined_append)

-- or with one
pub counted_stop : (past : Bool) (ws vs : List Written) (b : Written) (x : StreamFault) → b.end ≡ Some x
    → IsJointOf past ws b → counted past (ws ++ vs) ≡ counted past ws
counted_stop past ws vs b x n j = stops past ws vs (closed past nothing ws b refl j ∙ ap is_some n)

pub stop : (past : Bool) (ws vs : List Written) (b : Written) (x : StreamFault) → b.end ≡ Some x
    → IsJointOf past ws b → IsJointOf past (ws ++ vs) b
stop past ws vs b x n j = rw (counted_stop past ws vs b x n j) j

-- where faults are passed no joint part ends with one
never_closes : (ws : List Written) → closes true ws ≡ false
never_closes [] = refl
never_closes (w ∷ ws) = search (arith, never_closes ws)

pub not_past : (past : Bool) (ws : List Written) (h : Written) (f : StreamFault) → h.end ≡ Some f
    → IsJointOf past ws h → past ≡ false
not_past past ws h f h1 h2 = grind (arith, never_closes, closed)

-- the joint part of those before, to which the others are joined; or it ends with a fault, and is that of all
pub record IsSplit (past : Bool) (ws vs : List Written) (h : Written) : Type 0 where
  pub before : Written
  pub joined : IsJointOf past ws before
  pub others : ((before.end ≡ None) × AreJoined before (counted past vs) h)
      ⊎ ((fault : StreamFault) × (h.end ≡ Some fault) × (before ≡ h))

pub split : (past : Bool) (ws vs : List Written) (h : Written) → IsJointOf past (ws ++ vs) h → IsSplit past ws vs h
split past ws vs h j = search (arith, joined_split, on, closed, stops)

-- ---- there is one joint part
next_one : (a w b c : Written) → IsNext a w b → IsNext a w c → b ≡ c
next_one a w b c n m =
    let part : b.part ≡ c.part = joint_one a.part w.part b.part c.part n.part m.part in
    λ i. record { part = part i; faults = (n.faults ∙ sym m.faults) i; end = (n.end ∙ sym m.end) i }

pub joined_one : (a : Written) (ws : List Written) (b c : Written) → AreJoined a ws b → AreJoined a ws c
    → b ≡ c
joined_one a [] b c j k = sym (none_of a b j) ∙ none_of a c k
joined_one a (w ∷ ws) b c j k =
    let f : IsFirst a w ws b = first_of a w b ws j in
    let g : IsFirst a w ws c = first_of a w c ws k in
    joined_one f.between ws b c f.more
    (rw (next_one a w f.between g.between f.next g.next) g.more)
