-- Which reason a text spells: the first whose word it begins with.
use Rattle.std.proofs.Common.{◌≡◌, ◌∙◌, ◌-◌, ◌^◌, ℕ, List, Option, Some, None, ap, codes, sym, arith}
use Rattle.mseed_steim.specs.declared.fault.ReadFault.{ReadFault}
use Rattle.mseed_steim.specs.declared.fault.ReadFault.TheVariants.{Blockette100}
use Rattle.mseed_join.specs.private.Reading.{◌>>=◌, after, bad_word_at, counted_at, else_by, last_differs_at}
use Rattle.mseed_join.specs.private.Reading.{number_after, read_fault_at, word_at}

-- what isn't spelled is passed over
passed_over : {X : Type 0} (first rest : Option X) → first ≡ None → else_by first rest ≡ rest
passed_over {X} first rest none = ap (λ (o : Option X). else_by o rest) none

taken_first : {X : Type 0} (first rest : Option X) (x : X) → first ≡ Some x → else_by first rest ≡ Some x
taken_first {X} first rest x is = ap (λ (o : Option X). else_by o rest) is

no_word : {X : Type 0} (word : List ℕ) (x : X) (bytes : List ℕ) → None ≡ after word bytes → word_at word x bytes ≡ None
no_word word x bytes none = ap (λ (o : Option (List ℕ)). o >>= λ rest. Some (x, rest)) (sym none)

no_count : {X : Type 0} (word : List ℕ) (largest : ℕ) (made : ℕ → X) (bytes : List ℕ)
    → None ≡ number_after word largest bytes → counted_at word largest made bytes ≡ None
no_count word largest made bytes none = search arith

module _ (bytes : List ℕ) where
  -- the words that stand for a reason
  pub first_word : (rest : List ℕ) → Some rest ≡ after (codes "blockette100") bytes
      → Some (Blockette100, rest) ≡ read_fault_at bytes
  unfolding read_fault_at
  first_word rest is = search (arith, taken_first)

  -- after the words and the counts, two reasons of two numbers each
  pub after_counts : None ≡ after (codes "blockette100") bytes → None ≡ after (codes "littlesteim") bytes
      → None ≡ after (codes "dataoffset") bytes → None ≡ number_after (codes "encoding ") (2 ^ 8 - 1) bytes
      → None ≡ number_after (codes "short ") (2 ^ 63 - 1) bytes
      → None ≡ number_after (codes "overflow ") (2 ^ 63 - 1) bytes
      → read_fault_at bytes ≡ else_by (bad_word_at bytes) (last_differs_at bytes)
  unfolding read_fault_at
  after_counts a b c d e f = search (arith, passed_over, no_word, no_count)

  pub bad_word_first : (x : ReadFault × List ℕ)
      → read_fault_at bytes ≡ else_by (bad_word_at bytes) (last_differs_at bytes) → Some x ≡ bad_word_at bytes
      → Some x ≡ read_fault_at bytes
  bad_word_first x before is = sym (before ∙ taken_first (bad_word_at bytes) (last_differs_at bytes) x (sym is))

  pub last_differs_then : (o : Option (ReadFault × List ℕ))
      → read_fault_at bytes ≡ else_by (bad_word_at bytes) (last_differs_at bytes) → None ≡ bad_word_at bytes
      → o ≡ last_differs_at bytes → o ≡ read_fault_at bytes
  last_differs_then o before none is = search (arith, passed_over)
