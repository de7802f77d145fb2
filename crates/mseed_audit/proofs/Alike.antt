-- Lists in the order of their keys that have the same at each key are one list.
use Rattle.std.proofs.Common.{◌≡◌, ℕ, List, [], ◌∷◌, true, refl}
use Rattle.std.specs.FinMap.Entries.{below_all, is_sorted, same_entries}
use Rattle.std.specs.Map.{lookup, keys_of}
use Rattle.std.specs.Ordering.{nat_cmp}
use Rattle.std.specs.Cmp.Lexicographic.{slice_cmp}
use Rattle.std.specs.List.{AllByRecursion}
use Rattle.std.specs.List.Sorted.{IsStrictlySortedBy}
use Rattle.std.specs.declared.cmp.Ordering.TheVariants.{Less}
use Rattle.std.proofs.lemmas.Cmp.{nat_list_cmp_total}
use Rattle.std.proofs.lemmas.Map.Lookups.{exact_bytes}
use Rattle.mseed_audit.specs.Channels.{same_key}

module _ {X : Type 0} where
  -- a key below others is below all of them by that test
  below : (key : List ℕ) (es : List (List ℕ × X)) → AllByRecursion (λ k. slice_cmp nat_cmp key k ≡ Less) (keys_of es)
      → below_all (slice_cmp nat_cmp) key es ≡ true
  below key [] all = refl
  below key (e ∷ es) all = rw all.0 (below key es all.1)

  -- keys that ascend pass the test of the standard library
  rising : (es : List (List ℕ × X)) → IsStrictlySortedBy (slice_cmp nat_cmp) (keys_of es)
      → is_sorted (slice_cmp nat_cmp) es ≡ true
  unfolding IsStrictlySortedBy
  rising [] s = refl
  rising (e ∷ es) s = rw (below e.0 es s.0) (rising es s.1)

  pub one_list : (es fs : List (List ℕ × X)) → IsStrictlySortedBy (slice_cmp nat_cmp) (keys_of es)
      → IsStrictlySortedBy (slice_cmp nat_cmp) (keys_of fs)
      → ((key : List ℕ) → lookup (same_key key) es ≡ lookup (same_key key) fs) → es ≡ fs
  one_list es fs s t h =
      same_entries (slice_cmp nat_cmp) nat_list_cmp_total exact_bytes es fs (rw (rising es s) tt)
      (rw (rising fs t) tt) h
