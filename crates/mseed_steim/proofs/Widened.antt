-- Bytes that are widened in lanes.
use Rattle.std.proofs.Common.{◌≡◌, ℕ, zero, suc, ◌+◌, ◌<◌, ◌≤◌, List, [], ◌∷◌, map, length, take, ℤ, arith, refl}
use Rattle.std.proofs.Common.{ap, ◌∙◌, w32, to_z, cond}
use Rattle.byteorder.specs.Endian.{twos_complement}
use Rattle.std.proofs.lemmas.List.{length-map, map-append}
use Rattle.std.proofs.lemmas.Simd.{length-chunk, take_more_put_chunk}
use Rattle.std.proofs.Math.Seq.{take-add}
use lib.Lanes.{zip2, sel_l, top, chunk, put_chunk, Each1}
use lib.ListN.{replicate}

pub widened : (lt sub : ℕ → ℕ → ℕ) (cast : ℕ → ℕ)
    → ((x : ℕ) → x < 256 → to_z w32 (cond (top 31 (lt 127 (cast x))) (sub (cast x) 256) (cast x)) ≡ twos_complement 1 x)
    → (n : ℕ) (v : List ℕ) → length v ≡ n → Each1 (λ x. x < 256) v
    → map (to_z w32) (sel_l (map (top 31) (zip2 lt (replicate n 127) (map cast v)))
    (zip2 sub (map cast v) (replicate n 256)) (map cast v)) ≡ map (λ byte. twos_complement 1 byte) v
widened lt sub cast lane zero [] long small = refl
widened lt sub cast lane (suc n) (x ∷ v) long small =
    grind (arith, replicate, sel_l, top, zip2, widened lt sub cast lane n v (omega arith) small.1)
widened lt sub cast lane _ _ long small = absurd (omega arith)

-- sixteen places more
pub stored : (i m : ℕ) (bytes : List ℕ) (out w : List ℤ) → m ≡ i + 16 → m ≤ length out → length out ≡ length bytes
    → take i out ≡ map (λ byte. twos_complement 1 byte) (take i bytes)
    → w ≡ map (λ byte. twos_complement 1 byte) (chunk i 16 bytes)
    → take m (put_chunk i out w) ≡ map (λ byte. twos_complement 1 byte) (take m bytes)
stored i m bytes out w at inside room so_far is =
    let long : length w ≡ 16 = ap length is
    ∙ length-map (chunk i 16 bytes) (λ byte. twos_complement 1 byte) ∙ length-chunk i 16 bytes (omega arith) in
    grind (arith, map-append, take-add, take_more_put_chunk)
