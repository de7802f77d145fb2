-- Integers that are written one after another.
use Rattle.std.proofs.Common.{◌≡◌, ℕ, ◌+◌, ◌-◌, ◌*◌, ◌^◌, ◌<◌, ◌≤◌, List, [], ◌++◌, length, take, drop, get_or}
use Rattle.std.proofs.Common.{ap, ◌∙◌, arith, ℤ, pos, negsuc, append_assoc, of_z, w16, w32}
use Rattle.std.proofs.Common.{◌/◌, min, FitsSigned}
use Rattle.std.specs.List.{flat_map}
use Rattle.std.specs.Prelude.{slice_range}
use borrow.Rule.Slice.PartMut.{put_mid, post_of}
use Rattle.std.proofs.lemmas.Int.{ints}
use Rattle.std.proofs.lemmas.List.{length-drop, take_at, drop_at, drop_all, append-nil}
use Rattle.std.proofs.lemmas.List.{drop-drop}
use Rattle.mseed_steim.specs.Spelling.{residue, IsWithin}
use Rattle.mseed_pack.specs.declared.integers.Width.{Width}
use Rattle.mseed_pack.specs.declared.integers.Width.TheVariants.{Two as Short, Four as Long}
use Rattle.mseed_pack.specs.declared.payload.Remaining.{Remaining}
use Rattle.std.proofs.lemmas.List.Concat.{flat_map-append}
use Rattle.std.proofs.lemmas.List.Edits.{between_more}
use Rattle.mseed_pack.specs.private.Filling.{AreRemaining, AreTaken, bytes_in, integer_bytes}

pub residue_16 : (z : ℤ) → IsWithin 16 z → of_z w16 z ≡ residue (2 ^ 16) z
residue_16 (pos n) h = omega (arith, ints, h.1)
residue_16 (negsuc n) h = omega (arith, ints, h.0)

pub residue_32 : (z : ℤ) → IsWithin 32 z → of_z w32 z ≡ residue (2 ^ 32) z
residue_32 (pos n) h = omega (arith, ints, h.1)
residue_32 (negsuc n) h = omega (arith, ints, h.0)

pub fits_16 : (z : ℤ) → IsWithin 16 z → FitsSigned w16 z
fits_16 (pos n) h = record { sfits = omega (arith, ints, h.1) }
fits_16 (negsuc n) h = record { sfits = omega (arith, ints, h.0) }

-- one more before what stood there
pub one_more : (w size index : ℕ) (prefix bytes p q buf : List ℕ) → length prefix ≡ w * index → w * index + w ≤ size
    → length p ≡ size → p ≡ prefix ++ drop (w * index) q
    → buf ≡ bytes ++ drop w (drop (w * index) p) → put_mid (w * index) (length p - w * index) p buf ≡ (prefix ++ bytes)
    ++ drop (w * (index + 1)) q
one_more w size index prefix bytes p q buf count room long parts e =
    let a = w * index in
    let none : post_of a (length p - a) p ≡ [] =
    drop_all (length p - a) (drop a p) (omega (arith, length-drop a p)) in
    let rest : drop a p ≡ drop a q = ap (λ (l : List ℕ). drop a l) parts ∙ drop_at prefix (drop a q) a count in
    let head : take a p ≡ prefix = ap (λ (l : List ℕ). take a l) parts ∙ take_at prefix (drop a q) a count in
    let further : a + w ≡ w * (index + 1) = omega arith in
    rw (none, append-nil, e, rest, head, drop-drop, further, append_assoc)

-- and the samples of which they are
pub flat_more : (w : ℕ) (xs : List ℤ) (first index : ℕ) → first + index < length xs
    → flat_map (λ (z : ℤ). integer_bytes w z) (slice_range xs first (first + (index + 1)))
    ≡ flat_map (λ (z : ℤ). integer_bytes w z) (slice_range xs first (first + index)) ++ integer_bytes w
    (get_or xs (first + index) (pos 0))
flat_more w xs first index h =
    let next : first + (index + 1) ≡ first + index + 1 = omega arith in
    rw (next, between_more xs first (first + index) (pos 0) (omega arith) h) (simp (flat_map-append, append-nil))

-- some are taken, and all of them stand before the end
pub taken : (w : Width) (xs : List ℤ) (left : Remaining) (size r count : ℕ) → r ≡ bytes_in w
    → count ≡ min (left.end - left.first) (size / r) → AreRemaining xs left → 64 ≤ size → size ≤ 4032
    → AreTaken left count
taken Short xs left size r count e m l long short =
    let most = rw e at m in
    record { some = omega (arith, most, l.some); within = omega (arith, most, l.some); few = omega (arith, most) }
taken Long xs left size r count e m l long short =
    let most = rw e at m in
    record { some = omega (arith, most, l.some); within = omega (arith, most, l.some); few = omega (arith, most) }
