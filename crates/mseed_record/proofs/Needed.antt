-- Where the framing steps need more bytes, and which.
use Rattle.std.proofs.Common.{◌≡◌, ℕ, zero, suc, ◌+◌, ◌-◌, ◌^◌, ◌<◌, ◌≤◌, ◌++◌, List, [], ◌∷◌, length, get_or}
use Rattle.std.proofs.Common.{replicate, Some, refl, subst, arith, lit<, ⊎_elim, length-append}
use Rattle.std.specs.List.{AllByRecursion}
use Rattle.std.proofs.lemmas.Bool.{cases_lt}
use Rattle.std.proofs.lemmas.Bool.Decides.{nat_tests}
use Rattle.std.proofs.lemmas.List.{length-replicate, append_assoc, take_all, get_or-append-add}
use Rattle.std.proofs.Math.ListN.{get_or-append}
use Rattle.mseed_time.specs.declared.order.Order.{Order}
use Rattle.mseed_time.specs.declared.order.Order.TheVariants.{Big, Little}
use Rattle.mseed_record.specs.declared.framer.Scan.TheVariants.{Need}
use Rattle.mseed_record.specs.declared.framer.Reached.{Reached}
use Rattle.mseed_record.specs.Header.{blockette_at}
use Rattle.mseed_record.specs.Chain.{type_at}
use Rattle.mseed_record.specs.Record.{exponent_at}
use Rattle.mseed_record.specs.Scan.{at_offset, HasRecord, Needs, header, blockette, exponent, record_end}
use Rattle.mseed_record.specs.Framer.{HasReached}
use Rattle.mseed_record.proofs.Answered.{header_needed}
use Rattle.mseed_record.proofs.Framed.{framed}
use Rattle.mseed_record.proofs.Passing.{at_more, passes_to}
use Rattle.mseed_record.proofs.Prefixes.{Octets, number_more}
use Rattle.mseed_record.proofs.Reached.{reached_more, Comes, before, at}
pub use Rattle.mseed_record.proofs.Prefixes.{number_more, fixed_more, order_more}

-- each of these is a byte
octets_each : (b : List ℕ) → AllByRecursion (λ x. x < 256) b → Octets b
octets_each [] h i = lit< tt
octets_each (x ∷ xs) h zero = h.0
octets_each (x ∷ xs) h (suc i) = octets_each xs h.1 i

octets_append : (xs ys : List ℕ) → Octets xs → Octets ys → Octets (xs ++ ys)
octets_append [] ys h k i = k i
octets_append (x ∷ xs) ys h k zero = h 0
octets_append (x ∷ xs) ys h k (suc i) = octets_append xs ys (λ j. h (suc j)) k i

octets_zeros : (n : ℕ) → Octets (replicate n 0)
octets_zeros zero i = lit< tt
octets_zeros (suc n) zero = lit< tt
octets_zeros (suc n) (suc i) = octets_zeros n i

-- the first four bytes of a 1000, and the other four, with the length of the longest record that there is
abbrev opening : Order → List ℕ
opening Big = 3 ∷ 232 ∷ 0 ∷ 0 ∷ []
opening Little = 232 ∷ 3 ∷ 0 ∷ 0 ∷ []

abbrev exponent_bytes : List ℕ
exponent_bytes = 0 ∷ 0 ∷ 20 ∷ 0 ∷ []

octets_opening : (order : Order) → Octets (opening order)
octets_opening Big = octets_each (opening Big) (lit< tt, (lit< tt, (lit< tt, (lit< tt, tt))))
octets_opening Little = octets_each (opening Little) (lit< tt, (lit< tt, (lit< tt, (lit< tt, tt))))

length-opening : (order : Order) → length (opening order) ≡ 4
length-opening Big = refl
length-opening Little = refl

-- bytes after a prefix
after : (xs ys : List ℕ) (p i : ℕ) → p ≡ length xs + i → get_or (xs ++ ys) p 0 ≡ get_or ys i 0
after xs ys p i e = rw e (get_or-append-add xs ys i 0)

type-opening : (order : Order) (prefix : List ℕ) (o : ℕ) → o ≡ length prefix
    → type_at order (prefix ++ opening order) o ≡ 1000
type-opening Big prefix o e =
    rw (after prefix (opening Big) o 0 (omega arith), after prefix (opening Big) (suc o) 1 (omega arith)) refl
type-opening Little prefix o e =
    rw (after prefix (opening Little) o 0 (omega arith), after prefix (opening Little) (suc o) 1 (omega arith)) refl

-- a record that may come of a prefix and of what is put after it may come of the prefix
then : (r : Reached) (prefix middle : List ℕ) → Octets prefix → Octets middle → HasReached r prefix
    → (Octets (prefix ++ middle) → HasReached r (prefix ++ middle) → HasRecord (prefix ++ middle)) → HasRecord prefix
then r prefix middle octets more h whole =
    let later = whole (octets_append prefix middle octets more) (reached_more r prefix middle h) in
    (middle ++ later.0, rw append_assoc at later.1)

-- a record whose end isn't there yet: what is missing may be zeros
at_end : (r : Reached) (prefix : List ℕ) (k : ℕ) → Octets prefix → HasReached r prefix
    → at_offset r.order prefix r.low r.offset ≡ Some (Need k) → r.offset + 8 ≤ length prefix → HasRecord prefix
at_end r prefix k octets h e l =
    let more : List ℕ = replicate (k - length prefix) 0 in
    let short : length prefix < k = grind (arith, nat_tests, e) in
    let size : length (prefix ++ more) ≡ k =
    omega (arith, length-append prefix more, length-replicate {A = ℕ} (k - length prefix) 0) in
    let type : type_at r.order (prefix ++ more) r.offset ≡ type_at r.order prefix r.offset =
    number_more r.order prefix more r.offset (omega arith) in
    let exponent : exponent_at (prefix ++ more) r.offset ≡ exponent_at prefix r.offset =
    get_or-append prefix more 0 (r.offset + 6) (omega arith) in
    let it = framed r (prefix ++ more) k (octets_append prefix more octets (octets_zeros (k - length prefix)))
    (reached_more r prefix more h) (grind (arith, nat_tests, e, l, type, exponent, size)) in
    (more, rw (take_all k (prefix ++ more) (omega (arith, size))) at it.1)

at_exponent : (r : Reached) (prefix : List ℕ) → Octets prefix → HasReached r prefix
    → at_offset r.order prefix r.low r.offset ≡ Some (Need (r.offset + 8)) → length prefix ≡ r.offset + 4
    → HasRecord prefix
at_exponent r prefix octets h e size =
    let wide : length (prefix ++ exponent_bytes) ≡ r.offset + 8 =
    omega (arith, size, length-append prefix exponent_bytes) in
    let type : type_at r.order (prefix ++ exponent_bytes) r.offset ≡ type_at r.order prefix r.offset =
    number_more r.order prefix exponent_bytes r.offset (omega (arith, size)) in
    let exponent : exponent_at (prefix ++ exponent_bytes) r.offset ≡ 20 =
    after prefix exponent_bytes (r.offset + 6) 2 (omega (arith, size)) in
    then r prefix exponent_bytes octets (octets_each exponent_bytes (lit< tt, (lit< tt, (lit< tt, (lit< tt, tt))))) h
    (λ all there. at_end r (prefix ++ exponent_bytes) (2 ^ 20) all there
    (grind (arith, nat_tests, e, type, exponent, size, wide, h.small)) (omega (arith, wide)))

at_its_place : (r : Reached) (prefix : List ℕ) → Octets prefix → HasReached r prefix
    → at_offset r.order prefix r.low r.offset ≡ Some (Need (r.offset + 4)) → r.offset ≡ length prefix
    → HasRecord prefix
at_its_place r prefix octets h e size =
    let wide : length (prefix ++ opening r.order) ≡ r.offset + 4 =
    omega (arith, size, length-append prefix (opening r.order), length-opening r.order) in
    then r prefix (opening r.order) octets (octets_opening r.order) h
    (λ all there. at_exponent r (prefix ++ opening r.order) all there
    (grind (arith, nat_tests, e, type-opening r.order prefix r.offset size, wide)) wide)

ahead_of_it : (r : Reached) (prefix : List ℕ) → Octets prefix → HasReached r prefix
    → at_offset r.order prefix r.low r.offset ≡ Some (Need (r.offset + 4)) → length prefix ≤ r.offset
    → HasRecord prefix
ahead_of_it r prefix octets h e l =
    let zeros : List ℕ = replicate (r.offset - length prefix) 0 in
    let size : r.offset ≡ length (prefix ++ zeros) =
    omega (arith, l, length-append prefix zeros, length-replicate {A = ℕ} (r.offset - length prefix) 0) in
    then r prefix zeros octets (octets_zeros (r.offset - length prefix)) h
    (λ all there. at_its_place r (prefix ++ zeros) all there
    (at_more r.order prefix zeros r.low r.offset (Some (Need (r.offset + 4))) e
    (λ k same. let is : r.offset + 4 ≡ k = cc in omega (arith, size))) size)

needs_at : (r : Reached) (prefix : List ℕ) (k : ℕ) → Octets prefix → HasReached r prefix
    → at_offset r.order prefix r.low r.offset ≡ Some (Need k) → Needs prefix k
needs_at r prefix k octets h e =
    let o : ℕ = r.offset in
    let on : r.low ≤ o = grind (arith, nat_tests, e) in
    let passed = passes_to r.order prefix 48 (blockette_at r.order prefix) h.passed.0 r.low o h.passed.1 on in ⊎_elim
    (λ (s : length prefix < o + 4).
    let is : o + 4 ≡ k = grind (arith, nat_tests, e, s) in
    subst (λ (n : ℕ). Needs prefix n) is (⊎_elim
    (λ (i : o < length prefix). blockette r.order h.passed.0 o h.order_is passed.1 i s)
    (λ (l : length prefix ≤ o). record_end (o + 4) s (ahead_of_it r prefix octets h (rw (← is) at e) l))
    (cases_lt o (length prefix))))
    (λ (l : o + 4 ≤ length prefix). ⊎_elim
    (λ (s : length prefix < o + 8).
    let is : o + 8 ≡ k = grind (arith, nat_tests, e, l, s) in
    let type : type_at r.order prefix o ≡ 1000 = grind (arith, nat_tests, e, l) in
    subst (λ (n : ℕ). Needs prefix n) is (⊎_elim
    (λ (i : o + 4 < length prefix). exponent r.order h.passed.0 o h.order_is passed.1 type i s)
    (λ (m : length prefix ≤ o + 4). record_end (o + 8) s (at_exponent r prefix octets h (rw (← is) at e) (omega arith)))
    (cases_lt (o + 4) (length prefix))))
    (λ (g : o + 8 ≤ length prefix). record_end k (grind (arith, nat_tests, e)) (at_end r prefix k octets h e g))
    (cases_lt (length prefix) (o + 8)))
    (cases_lt (length prefix) (o + 4))

-- the steps ask for bytes only where they are needed
pub needed : (prefix : List ℕ) (k : ℕ) → Octets prefix → Comes prefix (Need k) → Needs prefix k
needed prefix k octets (before e) =
    let it = header_needed prefix k e in
    rw it.0 (header (omega arith))
needed prefix k octets (at r h e) = needs_at r prefix k octets h e
