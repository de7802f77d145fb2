-- Bytes that begin no record begin none whatever comes after them, for the same reason.
use Rattle.std.proofs.Common.{◌≡◌, ℕ, ◌+◌, ◌<◌, ◌≤◌, ◌++◌, List, [], ◌∷◌, length, ltb}
use Rattle.std.proofs.Common.{Bool, true, false, cond, Some, None, sym, ap, subst, ◌∙◌, arith, length-append}
use Rattle.std.specs.Prelude.{nat_eq, not}
use Rattle.std.proofs.Math.ListN.{get_or-append}
use Rattle.std.proofs.lemmas.Bool.{and_parts, false≢true, le-ltb, ltb-false}
use Rattle.mseed_time.specs.declared.order.Order.{Order}
use Rattle.std.proofs.lemmas.Option.{same_Some}
use Rattle.mseed_record.specs.Chain.{next_at, type_at}
use Rattle.mseed_record.specs.Header.{blockette_at}
use Rattle.mseed_record.specs.Scan.{Decides, DecidesFrom, at_1000, at_offset, by_chain, is_version3, no_data, no_order}
use Rattle.mseed_record.specs.Scan.{version3}
use Rattle.mseed_record.specs.declared.fault.FrameFault.{FrameFault}
use Rattle.mseed_record.specs.declared.fault.FrameFault.TheVariants.{Chain, Length, No1000, Outside}
use Rattle.mseed_record.specs.declared.framer.Scan.{Scan}
use Rattle.mseed_record.specs.declared.framer.Scan.TheVariants.{Need, Record, Not}
use Rattle.mseed_record.proofs.Needed.{fixed_more, number_more, order_more}
use Rattle.mseed_record.proofs.Passing.{none_within}
use Rattle.mseed_record.proofs.Reached.{none_more, version3_more}

-- ---- the header
version3_long : (b : List ℕ) → is_version3 b ≡ true → 3 ≤ length b
version3_long b h1 = grind (arith, false≢true, and_parts)

-- ---- a blockette
-- the first 1000, by its exponent
by_exponent : (low short long wide : Bool) (e k : ℕ) (f : FrameFault)
    → cond low (Not (Length e)) (cond short (Not Outside) (cond long (Need k) (Record k))) ≡ Not f
    → cond low (Not (Length e)) (cond short (Not Outside) (cond wide (Need k) (Record k))) ≡ Not f
by_exponent low short long wide e k f h1 = grind arith

at_1000_more : (prefix more : List ℕ) (o : ℕ) (f : FrameFault) → o + 8 ≤ length prefix → at_1000 prefix o ≡ Not f
    → at_1000 (prefix ++ more) o ≡ Not f
at_1000_more prefix more o f h d = search (arith, get_or-append, by_exponent)

-- where the steps stand: nothing that is missing is requested
by_offset : (none back four other eight far off wide : Bool) (k n : ℕ) (x y : Scan) (f : FrameFault)
    → (four ≡ false → far ≡ false) → (four ≡ false → off ≡ other) → (eight ≡ false → wide ≡ false)
    → (eight ≡ false → x ≡ Not f → y ≡ Not f)
    → cond none (Some (Not No1000)) (cond back (Some (Not Chain)) (cond four (Some (Need k)) (cond other None
    (cond eight (Some (Need n)) (Some x))))) ≡ Some (Not f)
    → cond none (Some (Not No1000)) (cond back (Some (Not Chain)) (cond far (Some (Need k)) (cond off None
    (cond wide (Some (Need n)) (Some y))))) ≡ Some (Not f)
by_offset none back four other eight far off wide k n x y f h1 h2 h3 h4 h5 = grind (arith, same_Some)

-- what has so many bytes has them with more after
still : (n m k : ℕ) → n ≤ m → ltb n k ≡ false → ltb m k ≡ false
still n m k l e = le-ltb m k (omega (arith, ltb-false n k e, l))

at_offset_more : (order : Order) (prefix more : List ℕ) (low o : ℕ) (f : FrameFault)
    → at_offset order prefix low o ≡ Some (Not f) → at_offset order (prefix ++ more) low o ≡ Some (Not f)
at_offset_more order prefix more low o f h =
    let all : List ℕ = prefix ++ more in
    let wide : length prefix ≤ length all = omega (arith, length-append prefix more) in
    by_offset (nat_eq o 0) (ltb o low) (ltb (length prefix) (o + 4)) (not (nat_eq (type_at order prefix o) 1000))
    (ltb (length prefix) (o + 8)) (ltb (length all) (o + 4)) (not (nat_eq (type_at order all o) 1000))
    (ltb (length all) (o + 8)) (o + 4) (o + 8) (at_1000 prefix o) (at_1000 all o) f
    (still (length prefix) (length all) (o + 4) wide)
    (λ e. ap (λ (n : ℕ). not (nat_eq n 1000))
    (number_more order prefix more o (omega (arith, ltb-false (length prefix) (o + 4) e))))
    (still (length prefix) (length all) (o + 8) wide)
    (λ e. at_1000_more prefix more o f (ltb-false (length prefix) (o + 8) e)) h

from_more : (order : Order) (prefix more : List ℕ) (low o : ℕ) (os : List ℕ) (f : FrameFault) → 0 < low
    → DecidesFrom order prefix low o os (Not f) → DecidesFrom order (prefix ++ more) low o os (Not f)
from_more order prefix more low o [] f some d = at_offset_more order prefix more low o f d
from_more order prefix more low o (p ∷ os) f some d =
    let later = from_more order prefix more (o + 4) (next_at order prefix o) os f (omega arith) d.2 in
    search (arith, none_within, number_more, none_more, later)

pub refused_more : (prefix more : List ℕ) (f : FrameFault) → Decides prefix (Not f) → Decides (prefix ++ more) (Not f)
refused_more prefix more _ (version3 e) = version3 (version3_more prefix more (version3_long prefix e) ∙ e)
refused_more prefix more _ (no_data e l k) =
    no_data (version3_more prefix more (omega (arith, l)) ∙ e) (omega (arith, l, length-append prefix more))
    (fixed_more prefix more l ∙ k)
refused_more prefix more _ (no_order e l k m) =
    no_order (version3_more prefix more (omega (arith, l)) ∙ e) (omega (arith, l, length-append prefix more))
    (fixed_more prefix more l ∙ k) (order_more prefix more l ∙ m)
refused_more prefix more f (by_chain order os _ e l k m d) =
    let begins = number_more order prefix more 46 (omega (arith, l)) in
    by_chain order os (Not f) (version3_more prefix more (omega (arith, l)) ∙ e)
    (omega (arith, l, length-append prefix more)) (fixed_more prefix more l ∙ k) (order_more prefix more l ∙ m)
    (subst (λ (n : ℕ). DecidesFrom order (prefix ++ more) 48 n os (Not f)) (sym begins)
    (from_more order prefix more 48 (blockette_at order prefix) os f (omega arith) d))
