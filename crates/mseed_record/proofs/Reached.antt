-- Framing goes on along a chain, and where it ended stays where more bytes come.
use Rattle.std.proofs.Common.{◌≡◌, ℕ, ◌+◌, ◌^◌, ◌<◌, ◌≤◌, ◌++◌, List, [], ◌∷◌, length, Some, None, Option, IfSome}
use Rattle.std.proofs.Common.{true, false, refl, sym, ◌∙◌, arith, length-append}
use Rattle.mseed_time.specs.declared.order.Order.{Order}
use Rattle.mseed_record.specs.declared.framer.Scan.{Scan}
use Rattle.mseed_record.specs.declared.framer.Framer.{Framer}
use Rattle.mseed_record.specs.declared.framer.Reached.{Reached}
use Rattle.mseed_record.specs.Header.{blockette_at}
use Rattle.mseed_record.specs.Chain.{next_at}
use Rattle.byteorder.specs.Numbers.{big_from-lt, little_from-lt}
use Rattle.mseed_time.specs.declared.order.Order.TheVariants.{Big, Little}
use Rattle.mseed_time.specs.Fields.{number_at}
use Rattle.mseed_record.specs.Header.{has_fixed_bytes}
use Rattle.mseed_record.specs.Order.{order_of}
use Rattle.mseed_record.specs.Scan.{is_version3, at_offset, Decides, DecidesFrom, by_chain}
use Rattle.mseed_record.proofs.Answered.{early_of, Settles, early, late, chain_begins}
use Rattle.mseed_record.specs.Framer.{PassesTo, HasReached, IsFramerOf}
use Rattle.mseed_record.proofs.Prefixes.{Octets, number_more, fixed_more, order_more}
use Rattle.mseed_record.proofs.Passing.{none_within, at_more, passes_more, passes_decides}
pub use Rattle.mseed_record.proofs.Prefixes.{version3_more}

-- what is decided where the look stands
pub reached_decides : (r : Reached) (prefix : List ℕ) (answer : Scan) → HasReached r prefix
    → at_offset r.order prefix r.low r.offset ≡ Some answer → Decides prefix answer
reached_decides r prefix answer h e =
    by_chain r.order h.passed.0 answer h.other_version h.header h.fixed h.order_is
    (passes_decides r.order prefix 48 (blockette_at r.order prefix) h.passed.0 r.low r.offset answer h.passed.1 e)

-- one blockette further on
pub reached_next : (r : Reached) (prefix : List ℕ) (next : ℕ) → HasReached r prefix
    → at_offset r.order prefix r.low r.offset ≡ None → next ≡ next_at r.order prefix r.offset → next < 2 ^ 16
    → HasReached (record { order = r.order; low = r.offset + 4; offset = next }) prefix
reached_next r prefix next h e is small =
    let more = passes_more r.order prefix 48 (blockette_at r.order prefix) h.passed.0 r.low r.offset h.passed.1 e in
    let passed : (os : List ℕ) × PassesTo r.order prefix 48 (blockette_at r.order prefix) os (r.offset + 4) next =
    (h.passed.0 ++ r.offset ∷ [], rw is more) in
    assumption ((none_within r.order prefix r.low r.offset e).1, passed)

-- at the first blockette
pub reached_first : (order : Order) (prefix : List ℕ) (offset : ℕ) → is_version3 prefix ≡ false → 48 ≤ length prefix
    → has_fixed_bytes prefix ≡ true → order_of prefix ≡ Some order → offset ≡ blockette_at order prefix
    → offset < 2 ^ 16 → HasReached (record { order = order; low = 48; offset = offset }) prefix
reached_first order prefix offset version long fixed dated is small =
    let passed : (os : List ℕ) × PassesTo order prefix 48 (blockette_at order prefix) os 48 offset =
    ([], (refl, sym is)) in
    assumption passed

-- offsets have 16 bits
number_small : (order : Order) (b : List ℕ) (o : ℕ) → Octets b → number_at order 2 o b < 2 ^ 16
number_small Big b o octets = big_from-lt o 2 b octets
number_small Little b o octets = little_from-lt o 2 b octets

along : (r : Reached) (prefix : List ℕ) (os : List ℕ) (a : Scan) → Octets prefix
    → HasReached r prefix → DecidesFrom r.order prefix r.low r.offset os a
    → (s : Reached) × (HasReached s prefix × (at_offset s.order prefix s.low s.offset ≡ Some a))
along r prefix [] a octets h d = (r, (h, d))
along r prefix (p ∷ os) a octets h d =
    let next : ℕ = next_at r.order prefix r.offset in
    along (record { order = r.order; low = r.offset + 4; offset = next }) prefix os a octets
    (reached_next r prefix next h d.1 refl (number_small r.order prefix (r.offset + 2) octets)) d.2

-- an answer is decided before the chain, or where the steps have come to
pub data Comes (b : List ℕ) (a : Scan) : Type 0 where
  before : early_of b ≡ Some a → Comes b a
  at : (r : Reached) → HasReached r b → at_offset r.order b r.low r.offset ≡ Some a → Comes b a

pub comes : (b : List ℕ) (a : Scan) → Octets b → Settles b a → Comes b a
comes b a octets (early e) = before e
comes b a octets (late order os e o d) =
    let begins = chain_begins b e in
    let it = along (record { order = order; low = 48; offset = blockette_at order b }) b os a octets
    (reached_first order b (blockette_at order b) begins.0 begins.1 begins.2 o refl (number_small order b 46 octets))
    d in
    at it.0 it.1.0 it.1.1

-- a blockette that is passed is passed in all bytes that begin so
pub none_more : (order : Order) (prefix more : List ℕ) (low o : ℕ) → 0 < low → at_offset order prefix low o ≡ None
    → at_offset order (prefix ++ more) low o ≡ None
none_more order prefix more low o some e = at_more order prefix more low o None e (λ k other. cc other)

passes_to_more : (order : Order) (prefix more : List ℕ) (low o : ℕ) (os : List ℕ) (least q : ℕ)
    → PassesTo order prefix low o os least q → PassesTo order (prefix ++ more) low o os least q
passes_to_more order prefix more low o [] least q h = h
passes_to_more order prefix more low o (p ∷ os) least q h =
    let within = none_within order prefix low o h.1 in
    let next : next_at order (prefix ++ more) o ≡ next_at order prefix o =
    number_more order prefix more (o + 2) (omega arith) in
    let later = passes_to_more order prefix more (o + 4) (next_at order prefix o) os least q h.2 in
    (h.0, at_more order prefix more low o None h.1 (λ k other. cc other), rw next later)

pub reached_more : (r : Reached) (prefix more : List ℕ) → HasReached r prefix → HasReached r (prefix ++ more)
reached_more r prefix more h =
    let long = h.header in
    let begins : blockette_at r.order (prefix ++ more) ≡ blockette_at r.order prefix =
    number_more r.order prefix more 46 (omega arith) in
    let passed = passes_to_more r.order prefix more 48 (blockette_at r.order prefix) h.passed.0 r.low r.offset
    h.passed.1 in
    record {
      other_version = version3_more prefix more (omega arith) ∙ h.other_version;
      header = omega (arith, long, length-append prefix more);
      fixed = fixed_more prefix more long ∙ h.fixed;
      order_is = order_more prefix more long ∙ h.order_is;
      low = omega (arith, h.low, length-append prefix more);
      small = h.small;
      passed = (h.passed.0, rw begins passed);
    }

-- a framer goes on while bytes come
pub framer_more : (framer : Framer) (prefix more : List ℕ) → IsFramerOf framer prefix
    → IsFramerOf framer (prefix ++ more)
framer_more framer prefix more h = some_more framer.reached h
  where
    some_more : (o : Option Reached) → IfSome o (λ r. HasReached r prefix)
        → IfSome o (λ r. HasReached r (prefix ++ more))
    some_more None h = h
    some_more (Some r) h = reached_more r prefix more h
