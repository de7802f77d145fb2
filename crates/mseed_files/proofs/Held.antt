-- What is held of what was read, where some of it is handed on.
use Rattle.std.proofs.Common.{◌≡◌, ℕ, ◌+◌, ◌-◌, ◌≤◌, ◌++◌}
use Rattle.std.proofs.Common.{List, drop, take, slice_range, arith, length}
use Rattle.std.proofs.Common.{Option, Some, None, is_some, Result, Ok}
use Rattle.std.proofs.Common.{false, ap, sym, refl, ◌∙◌, append_assoc}
use Rattle.std.proofs.lemmas.List.{drop-drop, drop-take, length-take, take-append-drop}
use Rattle.std.specs.Io.KnownBytes.{Consumes, prepend_known}
use Rattle.mseed_files.specs.ChainState.{ChainState, IsChain}
use Rattle.mseed_files.specs.ReaderState.{file_due}

-- no more is handed on than is held
pub held_within : (xs : List ℕ) (begin end amount : ℕ) → begin ≤ end → amount ≤ length (slice_range xs begin end)
    → begin + amount ≤ end
held_within xs begin end amount order few = omega (arith, order, few, length-take (end - begin) (drop begin xs))

-- the rest of what is held
pub held_rest : (xs : List ℕ) (begin end amount : ℕ) → begin + amount ≤ end
    → slice_range xs (begin + amount) end ≡ drop amount (slice_range xs begin end)
held_rest xs begin end amount within =
    let count : end - begin ≡ amount + (end - (begin + amount)) = omega (arith, within) in
    rw (count, drop-take amount (end - (begin + amount)) (drop begin xs), drop-drop amount begin xs)

-- what is left is that, and what isn't read
pub left_rest : (held : List ℕ) (rest : Option (List ℕ)) (amount : ℕ)
    → Consumes (prepend_known held rest) (prepend_known (drop amount held) rest) (take amount held)
left_rest held None amount = tt
left_rest held (Some xs) amount =
    ap (λ (ys : List ℕ). ys ++ xs) (sym (take-append-drop amount held))
    ∙ append_assoc (take amount held) (drop amount held) xs

-- no file failed where none is told
pub none_of : (failed : Option ℕ) {told : Option ℕ} → told ≡ failed → false ≡ is_some told → failed ≡ None
none_of None same none = refl
none_of (Some file) same none = absurd (cc (none ∙ ap (λ (o : Option ℕ). is_some o) same))

-- so many were read
pub same_count : {E : Type 0} (n m : ℕ) → ◌≡◌ {A = Result ℕ E} (Ok n) (Ok m) → n ≡ m
same_count n m same = cc same

-- a chain that isn't at its end is one after a read that didn't fail
pub chain_on : (s : ChainState) → s.read.is_at_end ≡ false → s.files.failed ≡ None → s.read.failures ≡ 0 → IsChain s
chain_on s goes_on none fine = record {
  ended = λ end. absurd (cc (sym goes_on ∙ end));
  none_held = λ end. absurd (cc (sym goes_on ∙ end));
  fine = λ _. fine;
  counted = λ _. none;
  failed = rw none tt;
}

-- and after one that failed
pub chain_off : (s : ChainState) (n : ℕ) → s.read.is_at_end ≡ false → s.files.failed ≡ Some (file_due s.files)
    → s.read.failures ≡ n + 1 → IsChain s
chain_off s n goes_on some more = record {
  ended = λ end. absurd (cc (sym goes_on ∙ end));
  none_held = λ end. absurd (cc (sym goes_on ∙ end));
  fine = λ none. absurd (cc (sym some ∙ none));
  counted = λ none. absurd (omega (arith, more, none));
  failed = rw some refl;
}
