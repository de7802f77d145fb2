-- The framing steps have one answer, which is the record where one is there, and they refuse nothing that may come
-- to be a record, and ask for no more than it has.
use Rattle.std.proofs.Common.{◌≡◌, ℕ, ◌+◌, ◌<◌, ◌≤◌, ◌++◌, List, [], ◌∷◌, length, take, drop, if◌then◌else◌}
use Rattle.std.proofs.Common.{Bool, Option, Some, None, subst, arith, true, false, ◌∙◌, ⊎_elim, length-append}
use Rattle.std.specs.Prelude.{nat_lt, not}
use Rattle.std.proofs.lemmas.Bool.{cases_lt, false≢true, false_from_ne_true, true_from_ne_false}
use Rattle.std.proofs.lemmas.Bool.Decides.{nat_tests}
use Rattle.std.proofs.lemmas.List.{length-take-le, take-append-drop}
use Rattle.mseed_time.specs.declared.order.Order.{Order}
use Rattle.mseed_record.specs.declared.framer.Scan.{Scan}
use Rattle.mseed_record.specs.declared.framer.Scan.TheVariants.{Need, Record, Not}
use Rattle.mseed_record.specs.declared.fault.FrameFault.{FrameFault}
use Rattle.mseed_record.specs.declared.fault.FrameFault.TheVariants.{NotData, Order as NoOrder, Version3}
use Rattle.mseed_record.specs.Header.{has_fixed_bytes, blockette_at}
use Rattle.mseed_record.specs.Order.{order_of}
use Rattle.mseed_record.specs.Chain.{next_at, Passes}
use Rattle.mseed_record.specs.Record.{IsRecordBy, IsRecord}
use Rattle.mseed_record.specs.Scan.{is_version3, DecidesFrom, Decides, version3, short, no_data, no_order}
use Rattle.mseed_record.specs.Scan.{by_chain, HasNoRecord}
use Rattle.mseed_record.proofs.Passing.{none_within, at_more, passes_above, record_room}
use Rattle.mseed_record.proofs.Prefixes.{number_more, fixed_more, order_more, version3_more}
pub use Rattle.mseed_record.proofs.Passing.{none_at}

-- no header begins as miniSEED 3 does
other_version : (b : List ℕ) → has_fixed_bytes b ≡ true → is_version3 b ≡ true → ⊥
other_version [] h v = false≢true v
other_version (x ∷ xs) h v = grind (arith, nat_tests, h, v)

pub no_version3 : (b : List ℕ) → has_fixed_bytes b ≡ true → is_version3 b ≡ false
no_version3 b h = false_from_ne_true (is_version3 b) (λ v. other_version b h v)

-- what is decided before the chain: by the version, the length, the fixed bytes and the order
abbrev undated : Option Order → Option Scan
undated None = Some (Not NoOrder)
undated (Some order) = None

abbrev early_by : Bool → ℕ → Bool → Option Order → Option Scan
early_by version long fixed order =
    if version then Some (Not Version3)
    else if nat_lt long 48 then Some (Need 48)
    else if not fixed then Some (Not NotData)
    else undated order

abbrev pub early_of : List ℕ → Option Scan
early_of b = early_by (is_version3 b) (length b) (has_fixed_bytes b) (order_of b)

early_none : (version : Bool) (long : ℕ) (fixed : Bool) (order : Option Order)
    → early_by version long fixed order ≡ None → (version ≡ false) × (48 ≤ long) × (fixed ≡ true)
early_none version long fixed order e =
    (grind (arith, nat_tests, e), grind (arith, nat_tests, e), grind (arith, nat_tests, e))

early_need : (version : Bool) (long : ℕ) (fixed : Bool) (order : Option Order) (k : ℕ)
    → early_by version long fixed order ≡ Some (Need k) → (k ≡ 48) × (long < k)
early_need version long fixed order k e = (grind (arith, nat_tests, e), grind (arith, nat_tests, e))

early_record : (version : Bool) (long : ℕ) (fixed : Bool) (order : Option Order) (k : ℕ)
    → early_by version long fixed order ≡ Some (Record k) → ⊥
early_record version long fixed order k e = grind (arith, nat_tests, e)

-- a header before the chain has its length, and what each header has
pub chain_begins : (b : List ℕ) → early_of b ≡ None
    → (is_version3 b ≡ false) × (48 ≤ length b) × (has_fixed_bytes b ≡ true)
chain_begins b e = early_none (is_version3 b) (length b) (has_fixed_bytes b) (order_of b) e

-- before the chain the rest of the header is requested, or nothing, and no record is answered
pub header_needed : (b : List ℕ) (k : ℕ) → early_of b ≡ Some (Need k) → (k ≡ 48) × (length b < k)
header_needed b k e = early_need (is_version3 b) (length b) (has_fixed_bytes b) (order_of b) k e

pub no_record_yet : (b : List ℕ) (k : ℕ) → early_of b ≡ Some (Record k) → ⊥
no_record_yet b k e = early_record (is_version3 b) (length b) (has_fixed_bytes b) (order_of b) k e

-- an answer is decided before the chain, or along it
pub data Settles (b : List ℕ) (a : Scan) : Type 0 where
  early : early_of b ≡ Some a → Settles b a
  late : (order : Order) (os : List ℕ) → early_of b ≡ None → order_of b ≡ Some order
      → DecidesFrom order b 48 (blockette_at order b) os a → Settles b a

pub settles : (b : List ℕ) (a : Scan) → Decides b a → Settles b a
settles b _ (version3 v) = early (grind (arith, nat_tests, v))
settles b _ (short v s) = early (grind (arith, nat_tests, v, s))
settles b _ (no_data v s f) = early (grind (arith, nat_tests, v, s, f))
settles b _ (no_order v s f o) = early (grind (arith, nat_tests, v, s, f, o))
settles b a (by_chain order os answer v s f o d) = late order os (grind (arith, nat_tests, v, s, f, o)) o d

-- the steps along a chain decide one thing
one_from : (order : Order) (prefix : List ℕ) (low o : ℕ) (os ps : List ℕ) (a c : Scan)
    → DecidesFrom order prefix low o os a → DecidesFrom order prefix low o ps c → a ≡ c
one_from order prefix low o [] [] a c d e = cc
one_from order prefix low o [] (p ∷ ps) a c d e = cc (d, e.1)
one_from order prefix low o (p ∷ os) [] a c d e = cc (d.1, e)
one_from order prefix low o (p ∷ os) (q ∷ ps) a c d e =
    one_from order prefix (o + 4) (next_at order prefix o) os ps a c d.2 e.2

pub one_settled : (b : List ℕ) (a c : Scan) → Settles b a → Settles b c → a ≡ c
one_settled b a c (early d) (early e) = cc (d, e)
one_settled b a c (early d) (late order os e o f) = cc (d, e)
one_settled b a c (late order os d o f) (early e) = cc (d, e)
one_settled b a c (late order os d o f) (late other ps e p g) =
    let same : order ≡ other = cc (o, p) in
    one_from other b 48 (blockette_at other b) os ps a c
    (subst (λ (x : Order). DecidesFrom x b 48 (blockette_at x b) os a) same f) g

-- an answer stays where bytes follow, while there are fewer than it asks for beyond the header
abbrev pub Stays : Scan → List ℕ → Type 0
Stays a all = (k : ℕ) → a ≡ Need k → (48 < k) × (length all < k)

version3_kept : (b more : List ℕ) → is_version3 b ≡ true → is_version3 (b ++ more) ≡ true
version3_kept [] more v = absurd (false≢true v)
version3_kept (x ∷ []) more v = grind (arith, nat_tests, v)
version3_kept (x ∷ y ∷ []) more v = grind (arith, nat_tests, v)
version3_kept (x ∷ y ∷ z ∷ rest) more v = v

early_more : (b more : List ℕ) (a : Scan) → Stays a (b ++ more) → early_of b ≡ Some a → early_of (b ++ more) ≡ Some a
early_more b more a still e = ⊎_elim
    (λ (s : length b < 48).
    let version = true_from_ne_false (is_version3 b) (λ w.
    let short : early_of b ≡ Some (Need 48) = rw w (grind (arith, nat_tests, s)) in
    omega (arith, (still 48 (cc (e, short))).0)) in
    rw (version3_kept b more version) (rw version at e))
    (λ (l : 48 ≤ length b).
    rw (version3_more b more (omega arith), fixed_more b more l, order_more b more l)
    (grind (arith, nat_tests, e, length-append b more)))
    (cases_lt (length b) 48)

from_more : (order : Order) (b more : List ℕ) (low o : ℕ) (os : List ℕ) (a : Scan) → Stays a (b ++ more)
    → DecidesFrom order b low o os a → DecidesFrom order (b ++ more) low o os a
from_more order b more low o [] a still d =
    at_more order b more low o (Some a) d (λ k e. (still k (cc e)).1)
from_more order b more low o (p ∷ os) a still d =
    let within = none_within order b low o d.1 in
    let next : next_at order (b ++ more) o ≡ next_at order b o = number_more order b more (o + 2) (omega arith) in
    let later = from_more order b more (o + 4) (next_at order b o) os a still d.2 in
    (d.0, at_more order b more low o None d.1 (λ k e. cc e), rw next later)

pub stays : (b more : List ℕ) (a : Scan) → Stays a (b ++ more) → Settles b a → Settles (b ++ more) a
stays b more a still (early e) = early (early_more b more a still e)
stays b more a still (late order os e o d) =
    let long = (chain_begins b e).1 in
    let begins : blockette_at order (b ++ more) ≡ blockette_at order b = number_more order b more 46 (omega arith) in
    let later = from_more order b more 48 (blockette_at order b) os a still d in
    late order os (rw (version3_more b more (omega arith), fixed_more b more long, order_more b more long)
    (grind (arith, nat_tests, e, length-append b more))) (order_more b more long ∙ o) (rw begins later)

-- the steps along the chain of a record
decided : (order : Order) (b : List ℕ) (low o : ℕ) (os ps : List ℕ) (last : ℕ) → IsRecordBy order ps last b → low ≤ o
    → 0 < low → Passes order b o os last → DecidesFrom order b low o os (Record (length b))
decided order b low o [] ps last r h z p =
    let room = record_room order ps last b r in
    rw p (grind (arith, nat_tests, r.chain.found, r.exponent_low, r.exponent_high, r.inside, r.size, p))
decided order b low o (q ∷ os) ps last r h z p =
    let room = record_room order ps last b r in
    let above = passes_above order b (next_at order b o) os last p.3 in
    let none = none_at order b low o h z (omega (arith, p.2)) p.1 in
    let later = decided order b (o + 4) (next_at order b o) os ps last r p.2 (omega arith) p.3 in
    (p.0, none, later)

-- a record is answered, whatever follows it
pub settled_record : (b more : List ℕ) → IsRecord b → Settles (b ++ more) (Record (length b))
settled_record b more (order, (os, (last, r))) =
    let room = record_room order os last b r in
    let begun : early_of b ≡ None =
    rw (no_version3 b r.fixed, r.fixed, r.order_is) (grind (arith, nat_tests)) in
    stays b more (Record (length b)) (λ k e. cc e) (late order os begun r.order_is
    (decided order b 48 (blockette_at order b) os os last r r.chain.low (omega arith) r.chain.others))

pub settled_there : (prefix : List ℕ) (k : ℕ) → k ≤ length prefix → IsRecord (take k prefix)
    → Settles prefix (Record k)
settled_there prefix k l r =
    rw (take-append-drop k prefix, length-take-le k prefix l) at (settled_record (take k prefix) (drop k prefix) r)

-- the steps answer k where the first k bytes are a record
pub answered : (prefix : List ℕ) (k : ℕ) (a : Scan) → Decides prefix a → k ≤ length prefix → IsRecord (take k prefix)
    → a ≡ Record k
answered prefix k a d l r = one_settled prefix a (Record k) (settles prefix a d) (settled_there prefix k l r)

-- refused for good: no bytes that follow make a record of such a prefix
pub refused : (prefix : List ℕ) (f : FrameFault) → Decides prefix (Not f) → HasNoRecord prefix
refused prefix f d more k r =
    let all : List ℕ = prefix ++ more in
    let whole = rw (take-append-drop k all) at (settled_record (take k all) (drop k all) r) in
    cc (one_settled all (Not f) (Record (length (take k all)))
    (stays prefix more (Not f) (λ k e. cc e) (settles prefix (Not f) d)) whole)
