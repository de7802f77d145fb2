-- The framing steps along a chain.
use Rattle.std.proofs.Common.{◌≡◌, ◌≢◌, ℕ, ◌+◌, ◌<◌, ◌≤◌, ◌++◌, List, [], ◌∷◌, length, Option, Some, None, sym, ap}
use Rattle.std.proofs.Common.{arith}
use Rattle.std.proofs.Common.{◌^◌, ⊎_elim, length-append}
use Rattle.std.proofs.lemmas.Bool.{cases_lt}
use Rattle.std.proofs.lemmas.Bool.Decides.{nat_tests}
use Rattle.std.proofs.Math.ListN.{get_or-append}
use Rattle.mseed_time.specs.declared.order.Order.{Order}
use Rattle.mseed_record.specs.declared.framer.Scan.{Scan}
use Rattle.mseed_record.specs.declared.framer.Scan.TheVariants.{Need}
use Rattle.mseed_record.specs.Chain.{type_at, next_at, Passes}
use Rattle.mseed_record.specs.Record.{exponent_at, IsRecordBy}
use Rattle.mseed_record.specs.Header.{blockette_at}
use Rattle.mseed_record.specs.Scan.{at_offset, DecidesFrom}
use Rattle.mseed_record.specs.Framer.{PassesTo}
use Rattle.mseed_record.proofs.Prefixes.{number_more}

pub none_within : (order : Order) (prefix : List ℕ) (low o : ℕ) → at_offset order prefix low o ≡ None
    → (low ≤ o) × (o + 4 ≤ length prefix)
none_within order prefix low o e = grind (arith, nat_tests)

pub none_at : (order : Order) (prefix : List ℕ) (low o : ℕ) → low ≤ o → 0 < low → o + 4 ≤ length prefix
    → (type_at order prefix o ≡ 1000 → ⊥) → at_offset order prefix low o ≡ None
none_at order prefix low o h z l t = grind (arith, nat_tests, t)

pub other_at : (order : Order) (prefix : List ℕ) (low o : ℕ) → at_offset order prefix low o ≡ None
    → type_at order prefix o ≢ 1000
other_at order prefix low o e = λ t. absurd (grind (arith, nat_tests, e, t))

-- what is decided at an offset stays where bytes follow, while there are fewer than it asks for
pub at_more : (order : Order) (prefix more : List ℕ) (low o : ℕ) (r : Option Scan) → at_offset order prefix low o ≡ r
    → ((k : ℕ) → r ≡ Some (Need k) → length (prefix ++ more) < k) → at_offset order (prefix ++ more) low o ≡ r
at_more order prefix more low o r e still =
    let wide : length prefix ≤ length (prefix ++ more) = omega (arith, length-append prefix more) in ⊎_elim
    (λ (s : length prefix < o + 4). grind (arith, nat_tests, e, still (o + 4)))
    (λ (l : o + 4 ≤ length prefix).
    let type : type_at order (prefix ++ more) o ≡ type_at order prefix o =
    number_more order prefix more o (omega arith) in ⊎_elim
    (λ (s : length prefix < o + 8). grind (arith, nat_tests, e, still (o + 8), type))
    (λ (g : o + 8 ≤ length prefix).
    let exponent : exponent_at (prefix ++ more) o ≡ exponent_at prefix o =
    get_or-append prefix more 0 (o + 6) (omega arith) in
    grind (arith, nat_tests, e, still (2 ^ exponent_at prefix o), type, exponent))
    (cases_lt (length prefix) (o + 8)))
    (cases_lt (length prefix) (o + 4))

pub passes_more : (order : Order) (prefix : List ℕ) (low o : ℕ) (os : List ℕ) (least q : ℕ)
    → PassesTo order prefix low o os least q → at_offset order prefix least q ≡ None
    → PassesTo order prefix low o (os ++ q ∷ []) (q + 4) (next_at order prefix q)
passes_more order prefix low o [] least q h e =
    let same : at_offset order prefix low o ≡ None = rw (h.0, h.1) e in
    (sym h.1, same, (ap (λ (n : ℕ). n + 4) h.1, ap (λ (n : ℕ). next_at order prefix n) h.1))
passes_more order prefix low o (p ∷ os) least q h e =
    (h.0, h.1, passes_more order prefix (o + 4) (next_at order prefix o) os least q h.2 e)

pub passes_decides : (order : Order) (prefix : List ℕ) (low o : ℕ) (os : List ℕ) (least q : ℕ) (answer : Scan)
    → PassesTo order prefix low o os least q → at_offset order prefix least q ≡ Some answer
    → DecidesFrom order prefix low o os answer
passes_decides order prefix low o [] least q answer h e = rw (h.0, h.1) e
passes_decides order prefix low o (p ∷ os) least q answer h e =
    (h.0, h.1, passes_decides order prefix (o + 4) (next_at order prefix o) os least q answer h.2 e)

-- what the steps pass on their way to an offset that isn't too low is a chain of blockettes
pub passes_to : (order : Order) (prefix : List ℕ) (low o : ℕ) (os : List ℕ) (least q : ℕ)
    → PassesTo order prefix low o os least q → least ≤ q → (low ≤ o) × Passes order prefix o os q
passes_to order prefix low o [] least q h l = (omega (arith, h.0, h.1), h.1)
passes_to order prefix low o (p ∷ os) least q h l =
    let later = passes_to order prefix (o + 4) (next_at order prefix o) os least q h.2 l in
    ((none_within order prefix low o h.1).0, (h.0, other_at order prefix low o h.1, later.0, later.1))

pub passes_above : (order : Order) (b : List ℕ) (o : ℕ) (os : List ℕ) (last : ℕ) → Passes order b o os last → o ≤ last
passes_above order b o [] last h = omega (arith, h)
passes_above order b o (q ∷ os) last h =
    let later = passes_above order b (next_at order b o) os last h.3 in
    omega (arith, h.2)

-- the fixed section lies within a record, its chain begins at its first blockette 1000 or before, and that lies within
-- it after the fixed section
pub record_room : (order : Order) (os : List ℕ) (last : ℕ) (b : List ℕ) → IsRecordBy order os last b
    → (48 ≤ last) × (last + 8 ≤ length b) × (blockette_at order b ≤ last)
record_room order os last b r =
    let on = passes_above order b (blockette_at order b) os last r.chain.others in
    (omega (arith, on, r.chain.low), omega (arith, r.inside, r.size), on)
