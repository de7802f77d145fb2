-- What one more read adds to what a cutter holds.
use Rattle.std.proofs.Common.{◌≡◌, ℕ, ◌+◌, ◌-◌, ◌^◌, ◌<◌, ◌≤◌, ◌++◌, List, length, take, drop, false, Result, sym, ap}
use Rattle.std.proofs.Common.{◌∙◌, arith}
use Rattle.std.proofs.lemmas.Grind.{common_steps}
use Rattle.std.proofs.lemmas.List.{drop-append-le}
use Rattle.std.proofs.Math.Seq.{take-add, take-append_seam}
use Rattle.std.specs.Prelude.{slice_range}
use Rattle.mseed_stream.specs.Device.{BytesRead, passed, read_also}
use Rattle.mseed_stream.specs.CutterState.{CutterState}
use Rattle.mseed_stream.specs.Cutting.{held_of}
use Rattle.mseed_stream.specs.private.Steps.{HoldsMore}

-- a write back of as many bytes is all of them
pub written_back : (held items : List ℕ) (n : ℕ) → length held ≡ n
    → take n (held ++ drop (length held) items) ≡ held
written_back held items n e = ap (λ (k : ℕ). take k (held ++ drop (length held) items)) (sym e)
    ∙ take-append_seam held (drop (length held) items)

-- n bytes more after those that there were
pub prefix_more : (held now : List ℕ) (have n needed : ℕ) → take have now ≡ take have held → have + n ≤ needed
    → take (have + n) now ≡ take have held ++ take n (slice_range now have needed)
prefix_more held now have n needed same fits = grind (arith, common_steps, take-add)

pub held_is : (c : CutterState) → c.is_lent ≡ false → held_of c ≡ c.prefix
held_is c e = rw e

-- one read more, of some bytes or none
pub holds_pull : {E : Type 0} (a c : CutterState) (h old new : BytesRead) (r : Result ℕ E) (buf prefix : List ℕ)
    → HoldsMore a c h old → new ≡ read_also old r buf → c.reads < 2 ^ 40 → prefix ≡ c.prefix ++ passed r buf
    → length prefix ≤ c.room → HoldsMore a (record c { prefix = prefix; reads = c.reads + 1 }) h new
holds_pull a c h old new r buf prefix is read few more within =
    grind (arith, common_steps, drop-append-le, held_is c is.not_lent)

-- the header, and then the rest, are all of them
pub two_parts : (bytes : List ℕ) (m n : ℕ) → m ≤ n → take n bytes ≡ take m bytes ++ take (n - m) (drop m bytes)
two_parts bytes m n l = grind (arith, take-add m (n - m) bytes)
