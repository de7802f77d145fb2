-- What the framing steps ask for: no more than a record has that may come, and no more than the longest has.
use Rattle.std.proofs.Common.{◌≡◌, ℕ, ◌+◌, ◌-◌, ◌^◌, ◌<◌, ◌≤◌, ◌++◌, List, [], ◌∷◌, length, take, drop, sym, ap, ◌∙◌}
use Rattle.std.proofs.Common.{arith}
use Rattle.std.proofs.Common.{⊎_elim, length-append, length-take}
use Rattle.std.proofs.lemmas.Bool.{cases_lt}
use Rattle.std.proofs.lemmas.Bool.Decides.{nat_tests}
use Rattle.std.proofs.lemmas.List.{take-append-drop}
use Rattle.std.proofs.Math.Nat.{pow-le-pow_right}
use Rattle.std.proofs.Math.Seq.{take-append-add}
use Rattle.mseed_time.specs.declared.order.Order.{Order}
use Rattle.mseed_record.specs.declared.framer.Scan.TheVariants.{Need, Record}
use Rattle.mseed_record.specs.Chain.{next_at}
use Rattle.mseed_record.specs.Record.{exponent_at, IsRecord}
use Rattle.mseed_record.specs.Scan.{DecidesFrom, Decides}
use Rattle.mseed_record.proofs.Answered.{Settles, early, late, settles, settled_record, one_settled, stays}
use Rattle.mseed_record.proofs.Answered.{header_needed}
use Rattle.mseed_record.proofs.Passing.{record_room}
use Rattle.mseed_record.proofs.Reached.{Comes, before, at}

-- bytes are requested after those that are there
asks_from : (order : Order) (b : List ℕ) (low o : ℕ) (os : List ℕ) (n : ℕ) → DecidesFrom order b low o os (Need n)
    → length b < n
asks_from order b low o [] n d = grind (arith, nat_tests, d)
asks_from order b low o (p ∷ os) n d = asks_from order b (o + 4) (next_at order b o) os n d.2

pub asks_more : (b : List ℕ) (n : ℕ) → Settles b (Need n) → length b < n
asks_more b n (early e) = (header_needed b n e).1
asks_more b n (late order os e o d) = asks_from order b 48 _ os n d

pub record_more : (b : List ℕ) → IsRecord b → 48 < length b
record_more b r = omega (arith, record_room r.0 r.1.0 r.1.1.0 b r.1.1.1)

pub record_long : (b : List ℕ) → IsRecord b → 48 ≤ length b
record_long b r = omega (arith, record_more b r)

-- a record has all the bytes that are requested at its beginning
pub called : (prefix more : List ℕ) (n k : ℕ) → Decides prefix (Need n) → IsRecord (take k (prefix ++ more))
    → n ≤ length (take k (prefix ++ more))
called prefix more n k d r =
    let all : List ℕ = prefix ++ more in
    let b : List ℕ = take k all in
    let p : ℕ = length prefix - length b in
    let q : ℕ = length b - length prefix in
    let both : prefix ++ take q more ≡ b ++ take p (drop k all) =
    sym (take-append-add prefix more q) ∙ ap (λ (m : ℕ). take m all) (omega arith)
    ∙ ap (λ (xs : List ℕ). take (length b + p) xs) (sym (take-append-drop k all))
    ∙ take-append-add b (drop k all) p in
    let long = record_long b r in
    let asked = settles prefix (Need n) d in
    let more_asked = asks_more prefix n asked in ⊎_elim
    (λ (s : length b < n).
    let stayed = stays prefix (take q more) (Need n) (λ m e. let is : n ≡ m = cc in
    (omega arith, omega (arith, length-append prefix (take q more), length-take q more))) asked in
    cc (one_settled (b ++ take p (drop k all)) (Need n) (Record (length b)) (rw both at stayed)
    (settled_record b (take p (drop k all)) r)))
    (λ (l : n ≤ length b). l)
    (cases_lt (length b) n)

-- no more bytes are requested than the longest record has
pub few_called : (prefix : List ℕ) (n : ℕ) → Comes prefix (Need n) → n ≤ 2 ^ 20
few_called prefix n (before e) = omega (arith, header_needed prefix n e)
few_called prefix n (at r h e) =
    let power : exponent_at prefix r.offset ≤ 20 → 2 ^ exponent_at prefix r.offset ≤ 2 ^ 20 =
    pow-le-pow_right {n = 2} (omega arith) in
    grind (arith, nat_tests, e, h.small, power)
