-- Where the bytes of a record are looked at: no record ends before the framing steps have what they ask for.
use Rattle.std.proofs.Common.{◌≡◌, ℕ, ◌≤◌, ◌++◌, List, length, take, drop, subst, arith, length-append}
use Rattle.std.proofs.Common.{length-take}
use Rattle.std.proofs.lemmas.List.{take-append-le, take-append-drop, length-take-le, take_all}
use Rattle.std.proofs.Math.Seq.{take-length}
use Rattle.mseed_record.specs.declared.framer.Scan.TheVariants.{Need}
use Rattle.mseed_record.specs.Record.{IsRecord}
use Rattle.mseed_record.specs.Scan.{Decides}
use Rattle.mseed_record.proofs.Called.{called, record_long}
use Rattle.mseed_stream.specs.Archive.{HasNoFurther}
use Rattle.mseed_stream.specs.Cutting.{IsStop, at_start, called_for, FallsShort}

-- stops stay where more is read
pub stop_grows : (b more : List ℕ) (n : ℕ) → IsStop b n → IsStop (b ++ more) n
stop_grows b more _ at_start = at_start
stop_grows b more n (called_for m _ s l d) = called_for m n (stop_grows b more m s)
    (omega (arith, length-append b more)) (rw (take-append-le m b more l) d)

-- the next stop, where all that was requested is there
pub stop_next : (b : List ℕ) (n : ℕ) → IsStop b (length b) → Decides b (Need n) → IsStop b n
stop_next b n s d = called_for (length b) n s (omega arith) (rw (take-length b) d)

-- no record ends before a stop
pub stop_record : (b : List ℕ) (n k : ℕ) → IsStop b n → IsRecord (take k b) → n ≤ length (take k b)
stop_record b _ k at_start r = omega (arith, record_long (take k b) r)
stop_record b n k (called_for m _ s l d) r =
    let whole_is = take-append-drop m b in
    rw whole_is at (called (take m b) (drop m b) n k d (rw whole_is r))

-- short of a stop there's no record
pub none_short : (b : List ℕ) → FallsShort b → HasNoFurther b
none_short b short k within r =
    omega (arith, stop_record b short.0 k short.1.0 r, short.1.1, length-take k b)

-- at a stop, what begins with a record is one
pub record_whole : (b : List ℕ) (n k : ℕ) → IsStop b n → length b ≤ n → k ≤ length b → IsRecord (take k b)
    → IsRecord b × (n ≤ length b)
record_whole b n k s l w r =
    let far : n ≤ length (take k b) = stop_record b n k s r in
    let size : length (take k b) ≡ k = length-take-le k b w in
    let all : length b ≤ k = omega arith in
    (subst (λ (xs : List ℕ). IsRecord xs) (take_all k b all) r, omega arith)
