-- The elements of a list, by their indices, and what a window shows.
use Rattle.std.proofs.Common.{◌≡◌, ◌≢◌, ℕ, ◌+◌, ◌-◌, ◌<◌, ◌≤◌, ◌⊎◌, inl, inr, zero, suc, refl, sym, ap, ◌∙◌, arith}
use Rattle.std.proofs.Common.{false, List, [], ◌∷◌, ◌++◌, length, length-append, length-drop, drop, map}
use Rattle.std.proofs.Common.{set, get_or, Option, Some, None, option_map, slice_get, nat_lt, unwrap_or}
use Rattle.std.proofs.Common.{append_assoc, replicate}
use Rattle.circular_buffer.proofs.Places.{slice_get-drop, slice_get-set_other, slice_get-set_same, slice_get-some}
use Rattle.std.proofs.lemmas.Bool.Decides.{eqb_tells, leb_tells, nat_tests}
use Rattle.std.proofs.lemmas.Option.{get_or_from_slice_get, slice_get-map, slice_get_within}
use Rattle.std.proofs.lemmas.Option.{unwrap_or-slice_get}
use Rattle.std.proofs.lemmas.List.{drop-append-le, drop-drop, drop_more, get_or-set_other, get_or-set_same}
use Rattle.slink_feed.specs.Window.{Shows, Window, oldest_of, record_at, window, with_record}

-- what is set at an index, and elsewhere
module _ {X : Type 0} where
  pub set_here : (xs : List X) (k : ℕ) (x d : X) → k < length xs → get_or (set xs k x) k d ≡ x
  set_here xs k x d lt = get_or-set_same xs k x d lt

  pub set_there : (xs : List X) (k j : ℕ) (x d : X) → j ≢ k → get_or (set xs k x) j d ≡ get_or xs j d
  set_there xs k j x d ne = get_or-set_other xs k j x d ne

  pub put_here : (xs : List X) (k : ℕ) (x d : X) → k < length xs → unwrap_or (slice_get (set xs k x) k) d ≡ x
  put_here xs k x d lt = unwrap_or-slice_get (set xs k x) k d ∙ get_or-set_same xs k x d lt

  pub put_there : (xs : List X) (k j : ℕ) (x d : X) → j ≢ k
      → unwrap_or (slice_get (set xs k x) j) d ≡ unwrap_or (slice_get xs j) d
  put_there xs k j x d ne = unwrap_or-slice_get (set xs k x) j d
      ∙ (get_or-set_other xs k j x d ne ∙ sym (unwrap_or-slice_get xs j d))

  pub get_here : (xs : List X) (k : ℕ) (x : X) → k < length xs → slice_get (set xs k x) k ≡ Some x
  get_here xs k x lt = slice_get-set_same xs k x lt

  pub get_there : (xs : List X) (k j : ℕ) (x : X) → j ≢ k → slice_get (set xs k x) j ≡ slice_get xs j
  get_there xs k j x ne = slice_get-set_other xs k j x ne

  -- what is set at an index stands there, if anything does, and all else stays
  pub set_or : (xs : List X) (k j : ℕ) (x d : X) → ((j ≡ k) × (unwrap_or (slice_get (set xs k x) j) d ≡ x))
      ⊎ (unwrap_or (slice_get (set xs k x) j) d ≡ unwrap_or (slice_get xs j) d)
  set_or [] k j x d = inr refl
  set_or (y ∷ xs) zero zero x d = inl (refl, refl)
  set_or (y ∷ xs) zero (suc j) x d = inr refl
  set_or (y ∷ xs) (suc k) zero x d = inr refl
  set_or (y ∷ xs) (suc k) (suc j) x d =
      elim (set_or xs k j x d) [ inl here ↦ inl (ap suc here.0, here.1) | inr there ↦ inr there ]

  pub no_value : (x : X) → Some x ≡ None → ⊥
  no_value x e = let bad : Some x ≡ None = e in cc bad

  -- what is set where something stood
  pub wrote_here : (xs : List (Option X)) (k : ℕ) (o : Option X) (x : X) → unwrap_or (slice_get xs k) None ≡ Some x
      → unwrap_or (slice_get (set xs k o) k) None ≡ o
  wrote_here [] k o x h = absurd (no_value x (sym h))
  wrote_here (y ∷ xs) zero o x h = refl
  wrote_here (y ∷ xs) (suc k) o x h = wrote_here xs k o x h

  pub none_but : (n k : ℕ) (d : X) → unwrap_or (slice_get (replicate n d) k) d ≡ d
  none_but zero k d = refl
  none_but (suc n) zero d = refl
  none_but (suc n) (suc k) d = none_but n k d

  pub drop_at : (xs : List X) (k : ℕ) (x : X) → slice_get xs k ≡ Some x → drop k xs ≡ x ∷ drop (k + 1) xs
  drop_at xs k x here = drop_more xs k x (slice_get_within xs k x here)
      ∙ ap (λ y. y ∷ drop (k + 1) xs) (get_or_from_slice_get xs k x x here)

  pub within_is : (xs : List X) (k : ℕ) → k < length xs → (x : X) × (slice_get xs k ≡ Some x)
  within_is xs k lt = slice_get-some xs k lt

  pub one_value : (o : Option X) (x y : X) → o ≡ Some x → o ≡ Some y → x ≡ y
  one_value o x y p q = let both : Some x ≡ Some y = sym p ∙ q in cc both

module _ {X Y : Type 0} where
  -- what stands in a list that was mapped
  pub get_mapped : (f : X → Y) (xs : List X) (k : ℕ) (y : Y) → slice_get (map f xs) k ≡ Some y
      → (x : X) × (slice_get xs k ≡ Some x) × (f x ≡ y)
  get_mapped f [] k y is = absurd (let bad : None ≡ Some y = is in cc bad)
  get_mapped f (x ∷ xs) zero y is = (x, refl, cc is)
  get_mapped f (x ∷ xs) (suc k) y is = get_mapped f xs k y is

  pub map_got : (f : X → Y) (xs : List X) (k : ℕ) (x : X) → slice_get xs k ≡ Some x
      → slice_get (map f xs) k ≡ Some (f x)
  map_got f xs k x is = slice_get-map f xs k ∙ ap (option_map f) is

  -- what elements give, one after another
  pub given_both : (f : List X → List Y) (g : X → List Y) → f [] ≡ [] → ((x : X) (xs : List X)
      → f (x ∷ xs) ≡ g x ++ f xs) → (xs ys : List X) → f (xs ++ ys) ≡ f xs ++ f ys
  given_both f g none more [] ys = ap (λ zs. zs ++ f ys) (sym none)
  given_both f g none more (x ∷ xs) ys = more x (xs ++ ys) ∙ (ap (λ zs. g x ++ zs) (given_both f g none more xs ys)
      ∙ (sym (append_assoc (g x) (f xs) (f ys)) ∙ ap (λ zs. zs ++ f ys) (sym (more x xs))))

-- two indices are one, or not
pub same_or_not : (j k : ℕ) → (j ≡ k) ⊎ (j ≢ k)
same_or_not j k = elim (eqb_tells j k) [ inl same ↦ inl same.1 | inr other ↦ inr other.1 ]

-- the window begins where the last records begin
pub oldest_is : (w : Window) (first : ℕ) (F : List (List ℕ)) → Shows w first F
    → oldest_of w ≡ first + (length F - w.capacity)
oldest_is w first F h = omega (arith, h.next, ap length h.records, length-drop (length F - w.capacity) F)

pub lt_false : (m n : ℕ) → nat_lt m n ≡ false → n ≤ m
lt_false m n h = grind (arith, nat_tests)

pub get_drop : (d : ℕ) (xs : List (List ℕ)) (i : ℕ) → slice_get (drop d xs) i ≡ slice_get xs (d + i)
get_drop d xs i = slice_get-drop d xs i (d + i) refl

-- a record of the window is that of the list
pub read_at : (w : Window) (p : ℕ) (x : List ℕ) → record_at w p ≡ Some x
    → (oldest_of w ≤ p) × (slice_get w.records (p - oldest_of w) ≡ Some x)
read_at w p x h = elim (leb_tells (suc p) (oldest_of w)) [
  | inl below ↦ absurd (no_value x (sym (rw below.0 at h)))
  | inr above ↦ (omega (arith, above.1), rw above.0 at h)
]

pub number_from : (w : Window) (first : ℕ) (F : List (List ℕ)) (p : ℕ) (r : List ℕ) → Shows w first F
    → record_at w p ≡ Some r → first ≤ p
number_from w first F p r h e = omega (arith, oldest_is w first F h, (read_at w p r e).0)

pub at_number : (w : Window) (first : ℕ) (F : List (List ℕ)) (p : ℕ) (r : List ℕ) → Shows w first F
    → record_at w p ≡ Some r → slice_get F (p - first) ≡ Some r
at_number w first F p r h e =
    let d : ℕ = length F - w.capacity in
    let got = read_at w p r e in
    let at : d + (p - oldest_of w) ≡ p - first = omega (arith, oldest_is w first F h, got.0) in
    ap (slice_get F) (sym at)
    ∙ (sym (get_drop d F (p - oldest_of w)) ∙ (ap (λ xs. slice_get xs (p - oldest_of w)) (sym h.records) ∙ got.1))

pub drop_none : (n : ℕ) → ◌≡◌ {A = List (List ℕ)} (drop n []) []
drop_none zero = refl
drop_none (suc n) = refl

pub keep_more : (n : ℕ) (xs : List (List ℕ)) (r : List ℕ) → window n (window n xs ++ r ∷ []) ≡ window n (xs ++ r ∷ [])
keep_more n xs r =
    let d : ℕ = length xs - n in
    let long : d + (length (drop d xs ++ r ∷ []) - n) ≡ length (xs ++ r ∷ []) - n =
    omega (arith, length-append (drop d xs) (r ∷ []), length-append xs (r ∷ []), length-drop d xs) in
    ap (drop (length (drop d xs ++ r ∷ []) - n)) (sym (drop-append-le d xs (r ∷ []) (omega arith)))
    ∙ (drop-drop (length (drop d xs ++ r ∷ []) - n) d (xs ++ r ∷ []) ∙ ap (λ k. drop k (xs ++ r ∷ [])) long)

-- the ring shows one record more
pub shows_more : (w : Window) (first : ℕ) (F : List (List ℕ)) (r : List ℕ) → Shows w first F
    → Shows (with_record w r) first (F ++ r ∷ [])
shows_more w first F r h = record {
  records = ap (λ xs. window w.capacity (xs ++ r ∷ [])) h.records ∙ keep_more w.capacity F r;
  next = omega (arith, h.next, length-append F (r ∷ []));
}
