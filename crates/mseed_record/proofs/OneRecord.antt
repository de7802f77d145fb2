-- At most one prefix of some bytes is a record.
use Rattle.std.proofs.Common.{◌≡◌, ℕ, ◌≤◌, List, ◌++◌, length, length-append, take, sym, ap}
use Rattle.std.proofs.Common.{subst, ◌∙◌, arith}
use Rattle.std.proofs.lemmas.List.{append_cancel_left}
use Rattle.std.proofs.Math.Seq.{take-append_seam}
use Rattle.mseed_record.specs.Record.{IsRecord}
use Rattle.mseed_record.specs.declared.framer.Scan.TheVariants.{Record}
use Rattle.mseed_record.proofs.Answered.{one_settled, settled_there}

-- at most one length has so many bytes a record
pub one_record : (b : List ℕ) (j k : ℕ) → j ≤ length b → k ≤ length b → IsRecord (take j b) → IsRecord (take k b)
    → j ≡ k
one_record b j k h l r s =
    cc (one_settled b (Record j) (Record k) (settled_there b j h r) (settled_there b k l s))

-- what bytes begin with
pub prefix_is : (r rest bytes : List ℕ) → bytes ≡ r ++ rest → take (length r) bytes ≡ r
prefix_is r rest bytes e = ap (take (length r)) e ∙ take-append_seam r rest

-- a first record, and what is left after it, are the only ones
pub one_first : (bytes r s tail rest : List ℕ) → IsRecord r → IsRecord s → bytes ≡ r ++ tail → bytes ≡ s ++ rest
    → (r ≡ s) × (tail ≡ rest)
one_first bytes r s tail rest is it d e =
    let fits : length r ≤ length bytes = omega (arith, ap (λ (xs : List ℕ). length xs) d, length-append r tail) in
    let within : length s ≤ length bytes = omega (arith, ap (λ (xs : List ℕ). length xs) e, length-append s rest) in
    let one : take (length r) bytes ≡ r = prefix_is r tail bytes d in
    let two : take (length s) bytes ≡ s = prefix_is s rest bytes e in
    let size : length r ≡ length s = one_record bytes (length r) (length s) fits within (subst IsRecord (sym one) is)
    (subst IsRecord (sym two) it) in
    let same : r ≡ s = sym one ∙ (ap (λ (n : ℕ). take n bytes) size ∙ two) in
    (same, append_cancel_left s tail rest (ap (λ (x : List ℕ). x ++ tail) (sym same) ∙ (sym d ∙ e)))
