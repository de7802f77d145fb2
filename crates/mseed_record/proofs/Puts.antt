-- Writing one part of a slice after another.
use Rattle.std.proofs.Common.{◌≡◌, ℕ, ◌+◌, List, ◌++◌, length, take, drop, sym, subst, ◌∙◌, refl, arith}
use Rattle.std.proofs.Math.Seq.{take-append_seam, drop-append-add, take-length}
use Rattle.std.proofs.lemmas.List.{drop-drop, length-append}
use Rattle.mseed_record.proofs.Bytes.{bytes_from, take-drop-bytes}

-- a list is its items, one by one
pub each_byte : (xs : List ℕ) (n : ℕ) → length xs ≡ n → bytes_from xs 0 n ≡ xs
each_byte xs n h =
    let whole : take n xs ≡ xs = subst (λ (k : ℕ). take k xs ≡ xs) h (take-length xs) in
    sym (take-drop-bytes xs 0 n (omega arith)) ∙ whole

-- a prefix has been written over the first n bytes
pub record Begins (old new prefix : List ℕ) (n : ℕ) : Type 0 where
  pub bytes : new ≡ prefix ++ drop n old
  pub size : length prefix ≡ n

-- a part put after it makes it longer
pub put_next : (old before after prefix part : List ℕ) (n m : ℕ) → n + length part ≡ m → Begins old before prefix n
    → after ≡ take n before ++ part ++ drop (n + length part) before → Begins old after (prefix ++ part) m
put_next old before after prefix part n m sizes begins put =
    let bytes = begins.bytes in
    let size = sym begins.size in
    let kept : take n before ≡ prefix = rw (bytes, size) (take-append_seam prefix (drop (length prefix) old)) in
    let rest : drop (n + length part) before ≡ drop (n + length part) old =
    rw (bytes, size) (drop-append-add prefix (drop (length prefix) old) (length part)
    ∙ drop-drop (length part) (length prefix) old) in
    record {
      bytes = put ∙ (rw (kept, rest, sizes) refl);
      size = omega (arith, length-append prefix part);
    }
