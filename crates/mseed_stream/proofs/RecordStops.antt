-- A record's end is a stop: the framing steps ask for its bytes up to there, and no further.
use Rattle.std.proofs.Common.{◌≡◌, ℕ, ◌+◌, ◌^◌, ◌<◌, ◌≤◌, List, [], ◌∷◌, length, take, drop, Some, refl, sym}
use Rattle.std.proofs.Common.{◌∙◌, subst, arith, false, true, Ok, zero, suc, ⊎_elim}
use Rattle.std.proofs.lemmas.Bool.{cases_lt}
use Rattle.std.proofs.lemmas.Bool.Decides.{nat_tests}
use Rattle.std.proofs.lemmas.Grind.{common_steps}
use Rattle.std.proofs.lemmas.List.{drop-append-le, get_or-take, length-take-le, take-append-drop, take_all}
use Rattle.mseed_time.specs.declared.order.Order.{Order}
use Rattle.mseed_record.specs.declared.framer.Scan.TheVariants.{Need}
use Rattle.mseed_record.specs.Header.{blockette_at}
use Rattle.mseed_record.specs.Chain.{type_at, next_at, Passes}
use Rattle.mseed_record.specs.Record.{exponent_at, IsRecord, IsRecordBy}
use Rattle.mseed_record.specs.Scan.{at_offset, DecidesFrom, Decides, short, by_chain}
use Rattle.mseed_record.proofs.Answered.{none_at, no_version3}
use Rattle.mseed_record.proofs.Called.{called, record_long}
use Rattle.mseed_record.proofs.Framed.{number_prefix, fixed_prefix, order_prefix}
use Rattle.mseed_stream.specs.Cutting.{IsRead, IsStop, at_start, called_for, lent_whole}
use Rattle.mseed_stream.specs.CutterState.{CutterState}
use Rattle.mseed_stream.specs.Device.{BytesRead}
use Rattle.mseed_stream.specs.private.Steps.{IsCut}
use Rattle.mseed_stream.proofs.Passed.{record_few}

-- more than the first m bytes of a record are asked for, from a place of its chain on
abbrev AsksFrom : Order → List ℕ → ℕ → ℕ → ℕ → Type 0
AsksFrom order b m low o = (ps : List ℕ) × ((n : ℕ) × ((m < n) × DecidesFrom order (take m b) low o ps (Need n)))

-- before the first four bytes of a blockette are there, these
asks_four : (order : Order) (b : List ℕ) (m low o : ℕ) → low ≤ o → 0 < low → m ≤ length b → m < o + 4
    → AsksFrom order b m low o
asks_four order b m low o h z w l =
    let size : length (take m b) ≡ m = length-take-le m b w in
    let asked : at_offset order (take m b) low o ≡ Some (Need (o + 4)) =
    grind (arith, nat_tests, size) in
    ([], (o + 4, (l, asked)))

-- at the first 1000, the rest of its eight bytes, and then of the record
asks_last : (order : Order) (b : List ℕ) (m low o : ℕ) (os : List ℕ) → low ≤ o → 0 < low
    → m < length b → o + 4 ≤ m
    → IsRecordBy order os o b → AsksFrom order b m low o
asks_last order b m low o os h z w l r =
    let size : length (take m b) ≡ m = length-take-le m b (omega (arith, w)) in
    let type : type_at order (take m b) o ≡ 1000 =
    number_prefix order b o m (omega (arith, l)) ∙ r.chain.found in
    ⊎_elim
    (λ (less : m < o + 8). ([], (o + 8, (less, grind (arith, nat_tests, size, type)))))
    (λ (more : o + 8 ≤ m).
    let exponent : exponent_at (take m b) o ≡ exponent_at b o =
    get_or-take m b (o + 6) 0 (omega (arith, more)) in
    let low_e : 7 ≤ exponent_at (take m b) o = rw exponent r.exponent_low in
    let high_e : exponent_at (take m b) o ≤ 20 = rw exponent r.exponent_high in
    let inside : o + 8 ≤ 2 ^ exponent_at (take m b) o = rw exponent r.inside in
    let further : m < 2 ^ exponent_at (take m b) o = rw exponent (omega (arith, w, r.size)) in
    ([], (_, (further, grind (arith, nat_tests, size, type, low_e, high_e, inside, further)))))
    (cases_lt m (o + 8))

asks_from : (order : Order) (b : List ℕ) (m low o : ℕ) (os : List ℕ) (last : ℕ) (all : List ℕ)
    → low ≤ o → 0 < low
    → m < length b → Passes order b o os last → IsRecordBy order all last b → AsksFrom order b m low o
asks_from order b m low o [] last all h z w p r =
    ⊎_elim (λ (l : m < o + 4). asks_four order b m low o h z (omega (arith, w)) l)
    (λ (l : o + 4 ≤ m). asks_last order b m low o all h z w l (rw p r)) (cases_lt m (o + 4))
asks_from order b m low o (q ∷ os) last all h z w p r =
    ⊎_elim (λ (l : m < o + 4). asks_four order b m low o h z (omega (arith, w)) l)
    (λ (l : o + 4 ≤ m).
    let size : length (take m b) ≡ m = length-take-le m b (omega (arith, w)) in
    let type : type_at order (take m b) o ≡ type_at order b o =
    number_prefix order b o m (omega (arith, l)) in
    let next : next_at order (take m b) o ≡ next_at order b o =
    number_prefix order b (o + 2) m (omega (arith, l)) in
    let none = none_at order (take m b) low o h z (omega (arith, size, l)) (λ t. p.1 (sym type ∙ t)) in
    let later = asks_from order b m (o + 4) (next_at order b o) os last all p.2 (omega arith) w p.3 r in
    (o ∷ later.0, (later.1.0, (later.1.1.0, (refl, none, rw next later.1.1.1)))))
    (cases_lt m (o + 4))

-- after its header, a record's beginning asks for more
asks_more : (b : List ℕ) (m : ℕ) → IsRecord b → 48 ≤ m → m < length b
    → (n : ℕ) × ((m < n) × Decides (take m b) (Need n))
asks_more b m is long w =
    let order : Order = is.0 in
    let r = is.1.1.1 in
    let size : length (take m b) ≡ m = length-take-le m b (omega (arith, w)) in
    let fixed = fixed_prefix b m long ∙ r.fixed in
    let begins = number_prefix order b 46 m (omega (arith, long)) in
    let from = asks_from order b m 48 (blockette_at order b) is.1.0 is.1.1.0 is.1.0 r.chain.low (omega arith) w
    r.chain.others r in
    let steps =
    subst (λ (k : ℕ). DecidesFrom order (take m b) 48 k from.0 (Need from.1.0)) (sym begins) from.1.1.1 in
    let decides = by_chain order from.0 (Need from.1.0) (no_version3 (take m b) fixed) (omega (arith, size, long)) fixed
    (order_prefix b m long ∙ r.order_is) steps in
    (from.1.0, (from.1.1.0, decides))

stops_on : (fuel : ℕ) (b : List ℕ) (m : ℕ) → IsRecord b → 48 ≤ m → m ≤ length b
    → length b ≤ m + fuel → IsStop b m
    → IsStop b (length b)
stops_on zero b m is long w f stop = subst (λ (n : ℕ). IsStop b n) (omega (arith, w, f)) stop
stops_on (suc fuel) b m is long w f stop = ⊎_elim
    (λ (less : m < length b).
    let asked = asks_more b m is long less in
    let n : ℕ = asked.0 in
    let all : take (length b) b ≡ b = take_all (length b) b (omega arith) in
    let fits : n ≤ length b = rw (take-append-drop m b, all) at
    (called (take m b) (drop m b) n (length b) asked.1.1 (rw (take-append-drop m b, all) is)) in
    stops_on fuel b n is (omega (arith, long, asked.1.0)) fits (omega (arith, f, asked.1.0))
    (called_for m n stop w asked.1.1))
    (λ (more : length b ≤ m). subst (λ (n : ℕ). IsStop b n) (omega (arith, w, more)) stop)
    (cases_lt m (length b))

pub record_stop : (b : List ℕ) → IsRecord b → IsStop b (length b)
record_stop b is =
    let long = record_long b is in
    stops_on (length b) b 48 is (omega arith) long (omega arith)
    (called_for 0 48 at_start (omega arith) (short refl (omega arith)))

-- what was read then, by the view of what begins the bytes that are lent
pub lent_read : (old new : BytesRead) (lent view bytes : List ℕ) → view ≡ bytes
    → bytes ≡ take (length bytes) lent
    → new ≡ lent_whole old (take (length view) lent) → new ≡ lent_whole old bytes
lent_read old new lent view bytes same prefix read = cc

-- a record that the source holds whole is read at once
pub lent_cut : (c after : CutterState) (old new : BytesRead) (bytes : List ℕ) → IsRead old c → c.is_lent ≡ false
    → c.prefix ≡ [] → old.is_at_end ≡ false → IsRecord bytes → new ≡ lent_whole old bytes
    → after ≡ record c { prefix = bytes; reads = c.reads + 2 } → c.reads + 2 ≤ 2 ^ 40 → length bytes ≤ c.room
    → IsCut (Ok true) c after old new
lent_cut c after old new bytes is lent none going_on one read stands few within =
    let small = record_few bytes one in
    rw (read, stands) (record {
      holds = grind (arith, common_steps, drop-append-le);
      stop = rw going_on (record_stop bytes one);
      found = (one, going_on, refl, omega arith);
    })
