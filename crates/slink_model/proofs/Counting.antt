-- Lists and counts of bytes: which replies and packets are whole in so many, and whether a line waits.
use Rattle.std.proofs.Common.{◌≡◌, ℕ, ◌+◌, ◌-◌, ◌<◌, ◌≤◌, inl, inr, min, suc, zero, refl, sym, ap, ◌∙◌, arith}
use Rattle.std.proofs.Common.{List, [], ◌∷◌, ◌++◌, append_assoc, length, length-append, map, take, drop}
use Rattle.std.proofs.Common.{take-append-drop, ◌%◌, ◌^◌, codes}
use Rattle.std.proofs.Math.Seq.{take-add, take-append-add, drop-append-add}
use Rattle.std.proofs.lemmas.Bool.Decides.{leb_tells}
use Rattle.std.proofs.lemmas.List.{append_cancel_right, drop-drop, drop_min, take_min}
use Rattle.slink_feed.specs.Dialogue.{Whole, Reply, Packet, End, Garbage}
use Rattle.slink_feed.specs.Listening.{Brought, bytes_of}
use Rattle.slink_model.specs.Ties.{Item, Accepted, Refused, Greeted, Carried, Finished, item_bytes, way_bytes}
use Rattle.slink_model.specs.Counted.{undelivered, part, wholes}

-- what a client reads in an item
abbrev pub whole_of : Item → Whole
whole_of Accepted = Reply (codes "OK")
whole_of Refused = Reply (codes "ERROR")
whole_of Greeted = Garbage
whole_of (Carried k n r) = Packet (n % 2 ^ 24) r
whole_of Finished = End

abbrev pub brought_of : Item → Brought
brought_of i = record { bytes = item_bytes i; whole = whole_of i }

-- more of a list is taken
pub take_on : (xs : List ℕ) (a n : ℕ) → take (min (a + n) (length xs)) xs ≡ take a xs ++ take n (drop a xs)
take_on xs a n = take_min (a + n) xs ∙ take-add a n xs

pub drop_on : (xs : List ℕ) (a n : ℕ) → drop (min (a + n) (length xs)) xs ≡ drop n (drop a xs)
drop_on xs a n = drop_min (a + n) xs ∙ sym (drop-drop n a xs)

pub item_some : (i : Item) → 0 < length (item_bytes i)
item_some Accepted = omega arith
item_some i = omega arith

-- by whether an item is whole
pub whole_or : (i : Item) (is : List Item) (d : ℕ) (P : List Item → List Item → ℕ → Type 0)
    → (length (item_bytes i) ≤ d
    → P (i ∷ wholes (d - length (item_bytes i)) is) (undelivered (d - length (item_bytes i)) is)
    (part (d - length (item_bytes i)) is))
    → (d < length (item_bytes i) → P [] (i ∷ is) d) → P (wholes d (i ∷ is)) (undelivered d (i ∷ is)) (part d (i ∷ is))
whole_or i is d P fit lack = elim (leb_tells (length (item_bytes i)) d) [
  | inl fits ↦ rw fits.0 (fit fits.1)
  | inr short ↦ rw short.0 (lack short.1)
]

past : (xs ys : List ℕ) (d : ℕ) → length xs ≤ d → drop d (xs ++ ys) ≡ drop (d - length xs) ys
past xs ys d le = ap (λ n. drop n (xs ++ ys)) (let e : d ≡ length xs + (d - length xs) = omega (arith, le) in e)
    ∙ drop-append-add xs ys (d - length xs)

taken_past : (xs ys : List ℕ) (d : ℕ) → length xs ≤ d → take d (xs ++ ys) ≡ xs ++ take (d - length xs) ys
taken_past xs ys d le = ap (λ n. take n (xs ++ ys)) (let e : d ≡ length xs + (d - length xs) = omega (arith, le) in e)
    ∙ take-append-add xs ys (d - length xs)

-- what isn't delivered
pub drop_after : (is : List Item) (d : ℕ) → drop d (way_bytes is) ≡ drop (part d is) (way_bytes (undelivered d is))
drop_after [] zero = refl
drop_after [] (suc d) = refl
drop_after (i ∷ is) d = whole_or i is d (λ ws bs p. drop d (way_bytes (i ∷ is)) ≡ drop p (way_bytes bs))
    (λ le. past (item_bytes i) (way_bytes is) d le ∙ drop_after is (d - length (item_bytes i))) (λ lt. refl)

-- what is
pub take_wholes : (is : List Item) (d : ℕ)
    → take d (way_bytes is) ≡ bytes_of (map brought_of (wholes d is)) ++ take (part d is) (way_bytes (undelivered d is))
take_wholes [] zero = refl
take_wholes [] (suc d) = refl
take_wholes (i ∷ is) d =
    whole_or i is d (λ ws bs p. take d (way_bytes (i ∷ is)) ≡ bytes_of (map brought_of ws) ++ take p (way_bytes bs))
    (λ le. taken_past (item_bytes i) (way_bytes is) d le
    ∙ (ap (λ b. item_bytes i ++ b) (take_wholes is (d - length (item_bytes i)))
    ∙ sym (append_assoc (item_bytes i) (bytes_of (map brought_of (wholes (d - length (item_bytes i)) is)))
    (take (part (d - length (item_bytes i)) is) (way_bytes (undelivered (d - length (item_bytes i)) is))))))
    (λ lt. refl)

-- the items that are whole, and the others
pub wholes_beyond : (is : List Item) (d : ℕ) → is ≡ wholes d is ++ undelivered d is
wholes_beyond [] d = refl
wholes_beyond (i ∷ is) d =
    whole_or i is d (λ ws bs p. i ∷ is ≡ ws ++ bs)
    (λ fits. ap (λ xs. i ∷ xs) (wholes_beyond is (d - length (item_bytes i)))) (λ lt. refl)

-- What goes after stays after, and isn't whole yet.
pub more_cut : (xs ys : List Item) (d : ℕ) → d ≤ length (way_bytes xs)
    → (wholes d (xs ++ ys) ≡ wholes d xs) × (undelivered d (xs ++ ys) ≡ undelivered d xs ++ ys)
more_cut [] [] d le = (refl, refl)
more_cut [] (y ∷ ys) d le =
    whole_or y ys d (λ ws bs p. (ws ≡ []) × (bs ≡ y ∷ ys)) (λ fits. absurd (omega (arith, le, fits, item_some y)))
    (λ lt. (refl, refl))
more_cut (x ∷ xs) ys d le =
    let size : ℕ = length (item_bytes x) in
    whole_or x xs d (λ ws bs p. (wholes d (x ∷ (xs ++ ys)) ≡ ws) × (undelivered d (x ∷ (xs ++ ys)) ≡ bs ++ ys))
    (λ fits. whole_or x (xs ++ ys) d
    (λ vs cs q. (vs ≡ x ∷ wholes (d - size) xs) × (cs ≡ undelivered (d - size) xs ++ ys))
    (λ _. let more = more_cut xs ys (d - size) (omega (arith, le, fits, length-append (item_bytes x) (way_bytes xs))) in
    (ap (λ ws. x ∷ ws) more.0, more.1)) (λ lt. absurd (omega (arith, fits, lt))))
    (λ lt. whole_or x (xs ++ ys) d (λ vs cs q. (vs ≡ []) × (cs ≡ x ∷ (xs ++ ys)))
    (λ fits. absurd (omega (arith, fits, lt))) (λ _. (refl, refl)))

all_cut : (is : List Item) (d : ℕ) → length (way_bytes is) ≤ d → (wholes d is ≡ is) × (undelivered d is ≡ [])
all_cut [] d le = (refl, refl)
all_cut (i ∷ is) d le =
    whole_or i is d (λ ws bs p. (ws ≡ i ∷ is) × (bs ≡ []))
    (λ fits. let more = all_cut is (d - length (item_bytes i))
    (omega (arith, le, fits, length-append (item_bytes i) (way_bytes is))) in (ap (λ ws. i ∷ ws) more.0, more.1))
    (λ lt. absurd (omega (arith, le, lt, length-append (item_bytes i) (way_bytes is))))

-- what is whole where more bytes come, and what is left
on_cut : (is : List Item) (d n : ℕ)
    → (wholes (d + n) is ≡ wholes d is ++ wholes (part d is + n) (undelivered d is))
    × (undelivered (d + n) is ≡ undelivered (part d is + n) (undelivered d is))
on_cut [] d n = (refl, refl)
on_cut (i ∷ is) d n =
    let rest : ℕ = d - length (item_bytes i) in
    whole_or i is d (λ ws bs p. (wholes (d + n) (i ∷ is) ≡ ws ++ wholes (p + n) bs)
    × (undelivered (d + n) (i ∷ is) ≡ undelivered (p + n) bs))
    (λ fits. whole_or i is (d + n)
    (λ vs cs q. (vs ≡ i ∷ (wholes rest is ++ wholes (part rest is + n) (undelivered rest is)))
    × (cs ≡ undelivered (part rest is + n) (undelivered rest is)))
    (λ _. let more = on_cut is rest n in
    let e : d + n - length (item_bytes i) ≡ rest + n = omega (arith, fits) in
    (ap (λ m. i ∷ wholes m is) e ∙ ap (λ ws. i ∷ ws) more.0, ap (λ m. undelivered m is) e ∙ more.1))
    (λ lt. absurd (omega (arith, fits, lt)))) (λ lt. (refl, refl))

pub after_cut : (is : List Item) (d n : ℕ)
    → (wholes (min (d + n) (length (way_bytes is))) is ≡ wholes d is ++ wholes (part d is + n) (undelivered d is))
    × (undelivered (min (d + n) (length (way_bytes is))) is ≡ undelivered (part d is + n) (undelivered d is))
after_cut is d n = elim (leb_tells (d + n) (length (way_bytes is))) [
  | inl few ↦ let e : min (d + n) (length (way_bytes is)) ≡ d + n = omega (arith, few.1) in
      (ap (λ m. wholes m is) e ∙ (on_cut is d n).0, ap (λ m. undelivered m is) e ∙ (on_cut is d n).1)
  | inr many ↦ let some = all_cut is (min (d + n) (length (way_bytes is))) (omega (arith, many.1)) in
      let all = all_cut is (d + n) (omega (arith, many.1)) in
      (some.0 ∙ (sym all.0 ∙ (on_cut is d n).0), some.1 ∙ (sym all.1 ∙ (on_cut is d n).1))
]

pub wholes_length : (is : List Item) (d : ℕ) → d ≤ length (way_bytes is)
    → length (way_bytes (wholes d is)) + part d is ≡ d
wholes_length [] d le = omega (arith, le)
wholes_length (i ∷ is) d le =
    whole_or i is d (λ ws bs p. length (way_bytes ws) + p ≡ d)
    (λ fits. let rest = wholes_length is (d - length (item_bytes i))
    (omega (arith, le, fits, length-append (item_bytes i) (way_bytes is))) in
    omega (arith, rest, fits, length-append (item_bytes i) (way_bytes (wholes (d - length (item_bytes i)) is))))
    (λ lt. omega arith)

-- what is kept of a stream that goes on with what isn't delivered
pub kept_part : (kept : List ℕ) (is : List Item) (d : ℕ) → kept ++ drop d (way_bytes is) ≡ way_bytes (undelivered d is)
    → kept ≡ take (part d is) (way_bytes (undelivered d is))
kept_part kept is d flow =
    let w : List ℕ = way_bytes (undelivered d is) in
    append_cancel_right kept (take (part d is) w) (drop (part d is) w) (ap (λ b. kept ++ b) (sym (drop_after is d))
    ∙ (flow ∙ sym (take-append-drop (part d is) w)))
