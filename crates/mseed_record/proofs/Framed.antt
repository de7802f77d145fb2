-- Where the framing steps answer a record, one is there.
use Rattle.std.proofs.Common.{◌≡◌, ℕ, ◌+◌, ◌^◌, ◌≤◌, List, [], ◌∷◌, length, take, Some, sym, arith, ◌∙◌}
use Rattle.std.proofs.lemmas.Bool.Decides.{nat_tests}
use Rattle.std.proofs.lemmas.List.{get_or-take, length-take-le}
use Rattle.mseed_time.specs.declared.order.Order.{Order}
use Rattle.mseed_record.specs.declared.framer.Scan.TheVariants.{Record}
use Rattle.mseed_record.specs.declared.framer.Reached.{Reached}
use Rattle.mseed_record.specs.Header.{blockette_at}
use Rattle.mseed_record.specs.Chain.{type_at, next_at, Passes}
use Rattle.mseed_record.specs.Record.{exponent_at, IsRecordBy, IsRecord}
use Rattle.mseed_record.specs.Scan.{at_offset}
use Rattle.mseed_record.specs.Framer.{HasReached}
use Rattle.mseed_record.proofs.Passing.{passes_to, passes_above}
use Rattle.mseed_record.proofs.Prefixes.{Octets, octets_prefix}
pub use Rattle.mseed_record.proofs.Prefixes.{number_prefix, fixed_prefix, order_prefix}

-- what the first 1000 of a record of k bytes says
record Stands (order : Order) (prefix : List ℕ) (low o k : ℕ) : Type 0 where
  on : low ≤ o
  type : type_at order prefix o ≡ 1000
  exponent_low : 7 ≤ exponent_at prefix o
  exponent_high : exponent_at prefix o ≤ 20
  inside : o + 8 ≤ k
  whole : k ≤ length prefix
  size : k ≡ 2 ^ exponent_at prefix o

stands : (order : Order) (prefix : List ℕ) (low o k : ℕ) → at_offset order prefix low o ≡ Some (Record k)
    → Stands order prefix low o k
stands order prefix low o k e = record {
  on = grind (arith, nat_tests, e);
  type = grind (arith, nat_tests, e);
  exponent_low = grind (arith, nat_tests, e);
  exponent_high = grind (arith, nat_tests, e);
  inside = grind (arith, nat_tests, e);
  whole = grind (arith, nat_tests, e);
  size = grind (arith, nat_tests, e);
}

-- the same blockettes stand in the first k bytes
passes_prefix : (order : Order) (b : List ℕ) (k o : ℕ) (os : List ℕ) (last : ℕ) → last + 8 ≤ k
    → Passes order b o os last → Passes order (take k b) o os last
passes_prefix order b k o [] last w h = h
passes_prefix order b k o (q ∷ os) last w h =
    let above = passes_above order b (next_at order b o) os last h.3 in
    let type : type_at order (take k b) o ≡ type_at order b o = number_prefix order b o k (omega (arith, h.2)) in
    let next : next_at order (take k b) o ≡ next_at order b o = number_prefix order b (o + 2) k (omega (arith, h.2)) in
    let later = passes_prefix order b k (next_at order b o) os last w h.3 in
    (h.0, λ t. h.1 (sym type ∙ t), rw next h.2, rw next later)

-- the first k bytes are a record where the steps came to its first 1000
pub reached_record : (r : Reached) (prefix : List ℕ) (k : ℕ) → Octets prefix
    → HasReached r prefix → at_offset r.order prefix r.low r.offset ≡ Some (Record k)
    → (k ≤ length prefix) × ((os : List ℕ) × IsRecordBy r.order os r.offset (take k prefix))
reached_record r prefix k octets h e =
    let it = stands r.order prefix r.low r.offset k e in
    let begin : ℕ = blockette_at r.order prefix in
    let passed = passes_to r.order prefix 48 begin h.passed.0 r.low r.offset h.passed.1 it.on in
    let above = passes_above r.order prefix begin h.passed.0 r.offset passed.1 in
    let least : 48 ≤ k = omega (arith, passed.0, above, it.inside) in
    let exponent : exponent_at (take k prefix) r.offset ≡ exponent_at prefix r.offset =
    get_or-take k prefix (r.offset + 6) 0 (omega (arith, it.inside)) in
    let begins : blockette_at r.order (take k prefix) ≡ begin =
    number_prefix r.order prefix 46 k (omega arith) in
    let type : type_at r.order (take k prefix) r.offset ≡ type_at r.order prefix r.offset =
    number_prefix r.order prefix r.offset k (omega (arith, it.inside)) in (
      it.whole,
      (
        h.passed.0,
        record {
          octets = octets_prefix k prefix octets;
          fixed = fixed_prefix prefix k least ∙ h.fixed;
          order_is = order_prefix prefix k least ∙ h.order_is;
          chain = record {
            low = rw begins passed.0;
            others = rw begins (passes_prefix r.order prefix k begin h.passed.0 r.offset it.inside passed.1);
            found = type ∙ it.type;
          };
          exponent_low = rw exponent it.exponent_low;
          exponent_high = rw exponent it.exponent_high;
          inside = rw (exponent, ← it.size) it.inside;
          size = length-take-le k prefix it.whole ∙ rw exponent it.size;
        },
      ),
    )

pub framed : (r : Reached) (prefix : List ℕ) (k : ℕ) → Octets prefix
    → HasReached r prefix → at_offset r.order prefix r.low r.offset ≡ Some (Record k)
    → (k ≤ length prefix) × IsRecord (take k prefix)
framed r prefix k octets h e =
    let it = reached_record r prefix k octets h e in
    (it.0, (r.order, (it.1.0, (r.offset, it.1.1))))
