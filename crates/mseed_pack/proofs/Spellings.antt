-- A payload of integers begins with them.
use Rattle.std.proofs.Common.{◌≡◌, ℕ, ◌+◌, ◌*◌, ◌^◌, List, [], ◌∷◌, ◌++◌, length, refl, sym, ap, ◌∙◌}
use Rattle.std.proofs.Common.{append_assoc, length-append, arith, ℤ, All}
use Rattle.std.specs.List.{flat_map}
use Rattle.mseed_steim.proofs.Words.{residue_lt}
use Rattle.std.proofs.lemmas.Nat.{pow_pos}
use Rattle.std.proofs.lemmas.List.Elements.{All-head, All-tail}
use Rattle.byteorder.proofs.Bytes.{pow256}
use Rattle.byteorder.specs.Endian.{big_from}
use Rattle.byteorder.specs.Numbers.{big_from-cons, big_number-reads_back, length-bytes_high_first}
use Rattle.mseed_time.specs.declared.order.Order.TheVariants.{Big}
use Rattle.mseed_steim.specs.Spelling.{residue, IsWithin}
use Rattle.mseed_steim.specs.Samples.{BeginsWith}
use Rattle.mseed_pack.specs.private.Filling.{integer_bytes}

-- bytes before it move the places on
pub from_after : (prefix xs : List ℕ) (n : ℕ) → big_from (length prefix) n (prefix ++ xs) ≡ big_from 0 n xs
from_after [] xs n = refl
from_after (a ∷ prefix) xs n = big_from-cons (length prefix) n a (prefix ++ xs) ∙ from_after prefix xs n

length-bytes_of : (width : ℕ) (z : ℤ) → length (integer_bytes width z) ≡ width
length-bytes_of width z = length-bytes_high_first width (residue (2 ^ (8 * width)) z)

read_back : (width : ℕ) (prefix : List ℕ) (z : ℤ) (rest : List ℕ)
    → big_from (length prefix) width (prefix ++ (integer_bytes width z ++ rest)) ≡ residue (2 ^ (8 * width)) z
read_back width prefix z rest =
    from_after prefix (integer_bytes width z ++ rest) width
    ∙ big_number-reads_back width (residue (2 ^ (8 * width)) z) rest
    (rw (pow256 width) (residue_lt (2 ^ (8 * width)) z (pow_pos (8 * width))))

pub length-all : (width : ℕ) (zs : List ℤ) → length (flat_map (λ (z : ℤ). integer_bytes width z) zs) ≡ width * length zs
length-all width [] = omega arith
length-all width (z ∷ zs) = rw (length-append, length-bytes_of) (omega (arith, length-all width zs))

-- After any bytes stand these integers.
pub begins : (width : ℕ) (zs : List ℤ) (prefix rest bytes : List ℕ) (place : ℕ)
    → bytes ≡ prefix ++ (flat_map (λ (z : ℤ). integer_bytes width z) zs ++ rest) → place ≡ length prefix
    → All (IsWithin (8 * width)) zs
    → BeginsWith Big width bytes place zs
begins width [] prefix rest bytes place e at all = tt
begins width (z ∷ zs) prefix rest bytes place e at all =
    let more : List ℕ = flat_map (λ (x : ℤ). integer_bytes width x) zs in
    let cut : bytes ≡ prefix ++ (integer_bytes width z ++ (more ++ rest)) = e ∙ rw append_assoc in
    let size = simp (length-append, length-bytes_of) at (ap (λ (xs : List ℕ). length xs) cut) in
    let here : place + width ≡ length (prefix ++ integer_bytes width z) =
    omega (arith, at, length-append prefix (integer_bytes width z), length-bytes_of width z) in (
      omega (arith, size, at),
      All-head (IsWithin (8 * width)) z zs all,
      rw (at, cut) (read_back width prefix z (more ++ rest)),
      begins width zs (prefix ++ integer_bytes width z) rest bytes (place + width)
          (cut ∙ sym (append_assoc prefix (integer_bytes width z) (more ++ rest))) here
          (All-tail (IsWithin (8 * width)) z zs all),
    )
