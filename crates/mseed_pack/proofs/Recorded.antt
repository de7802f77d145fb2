-- A header before a payload, and the lengths of records.
use Rattle.std.proofs.Common.{◌≡◌, ℕ, ◌+◌, ◌-◌, ◌*◌, ◌%◌, ◌^◌, ◌≤◌, List, ◌++◌, length, take, drop, ap, ◌∙◌}
use Rattle.std.proofs.Common.{arith, length-append}
use borrow.Rule.Slice.PartMut.{put_mid, post_of}
use Rattle.std.proofs.Math.Pow.{pow_mono}
use Rattle.std.proofs.lemmas.List.{length-drop, length-take-le, take_at, drop_at, drop_all, append-nil}
use Rattle.std.proofs.lemmas.Nat.{pow-add}
use Rattle.mseed_pack.specs.declared.record.TheConstants.{LONGEST, SHORTEST}
use Rattle.mseed_pack.specs.declared.options.Options.{Options}

pub header_first : (header out payload new : List ℕ) → 64 ≤ length out → length payload ≡ length out - 64
    → length new ≡ length out → new ≡ header ++ drop 64 (put_mid 64 (length out - 64) out payload)
    → (take 64 new ≡ header) × (drop 64 new ≡ payload)
header_first header out payload new long rest size whole =
    let behind : drop 64 (put_mid 64 (length out - 64) out payload) ≡ payload =
    drop_at (take 64 out) (payload ++ post_of 64 (length out - 64) out) 64 (length-take-le 64 out long)
    ∙ rw (drop_all (length out - 64) (drop 64 out) (omega (arith, length-drop 64 out)), append-nil) in
    let both : new ≡ header ++ payload = whole ∙ ap (λ (l : List ℕ). header ++ l) behind in
    let first : length header ≡ 64 =
    omega (arith, rest, size, long, simp length-append at (ap (λ (l : List ℕ). length l) both)) in
    (rw both (take_at header payload 64 first), rw both (drop_at header payload 64 first))

-- a power of two as a multiple of a smaller one
pub power_more : (k e : ℕ) → k ≤ e → 2 ^ e ≡ 2 ^ k * 2 ^ (e - k)
power_more k e h = let more : k + (e - k) ≡ e = omega (arith, h) in rw (← pow-add, more)

-- the lengths of records
pub lengths_of : (o : Options) (n : ℕ) → n ≡ 2 ^ o.exponent → (SHORTEST ≤ n) × (n ≤ LONGEST) × (n % 64 ≡ 0)
lengths_of o n is = rw is (
  pow_mono {i = 7} {j = o.exponent} o.long,
  pow_mono {i = o.exponent} {j = 12} o.short,
  omega (arith, power_more 7 o.exponent o.long),
)
