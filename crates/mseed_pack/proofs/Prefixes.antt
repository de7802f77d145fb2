-- What two sinks that failed accepted of one series.
use Rattle.std.proofs.Common.{◌≡◌, ◌⊎◌, inl, inr, ℕ, ◌+◌, ◌<◌, ◌≤◌, List, [], ◌∷◌, ◌++◌, length, length-append, take}
use Rattle.std.proofs.Common.{drop, arith, ℤ}
use Rattle.std.specs.List.{concat}
use Rattle.std.proofs.lemmas.Bool.{cases_lt}
use Rattle.std.proofs.lemmas.List.{take-append-drop, take-append-le, take-take}
use Rattle.mseed_stream.specs.Device.{BytesWritten, IsPrefixOf}
use Rattle.mseed_audit.specs.Series.{Trace}
use Rattle.mseed_pack.specs.declared.options.Options.{Options}
use Rattle.mseed_pack.specs.Prefixes.{ArePrefixes, HaveTakenPrefixes}
use Rattle.mseed_pack.specs.Outcome.{EmittedPrefix}
use Rattle.mseed_pack.specs.Packing.{PacksUpTo}
use Rattle.std.proofs.lemmas.List.Folds.{concat-append}
use Rattle.mseed_pack.proofs.Growing.{concat_more}

-- what is given of records
abbrev pub OnePrefix : Type 0
OnePrefix = (s : Trace) (o : Options) (records others : List (List ℕ)) (left rest : List ℤ)
    → PacksUpTo s o records left → PacksUpTo s o others rest → ArePrefixes records others

-- two prefixes of one text
cut : (text : List ℕ) (n m : ℕ) → n ≤ m → IsPrefixOf (take n text) (take m text)
cut text n m le = (drop n (take m text), rw (← take-take n m text le, take-append-drop))

pub either_cut : (text : List ℕ) (n m : ℕ) → IsPrefixOf (take n text) (take m text)
    ⊎ IsPrefixOf (take m text) (take n text)
either_cut text n m = elim (cases_lt n m) [
  | inl less ↦ inl (cut text n m (omega (arith, less)))
  | inr more ↦ inr (cut text m n more)
]

-- a prefix of the first records is one of all
longer : (records rest others : List (List ℕ)) (n : ℕ) → n ≤ length (concat records) → others ≡ records ++ rest
    → take n (concat records) ≡ take n (concat others)
longer records rest others n le e = rw (e, concat-append, take-append-le)

-- prefixes of the bytes of two lists of records, one of which is a prefix of the other
pub either_bytes : (records others : List (List ℕ)) (n m : ℕ) → n ≤ length (concat records)
    → m ≤ length (concat others) → ArePrefixes records others
    → IsPrefixOf (take n (concat records)) (take m (concat others))
    ⊎ IsPrefixOf (take m (concat others)) (take n (concat records))
either_bytes records others n m a b (inl f) =
    rw (longer records f.0 others n a f.1) (either_cut (concat others) n m)
either_bytes records others n m a b (inr f) =
    rw (longer others f.0 records m b f.1) (either_cut (concat records) n m)

inside : (records : List (List ℕ)) (last : List ℕ) (n : ℕ) → n < length (concat records) + length last
    → n ≤ length (concat (records ++ last ∷ []))
inside records last n h = rw (concat_more, length-append) (omega (arith, h))

pub taken_prefixes : OnePrefix → (s : Trace) (o : Options) (n m : ℕ) (old new before after : BytesWritten)
    → EmittedPrefix s o n old new → EmittedPrefix s o m before after → HaveTakenPrefixes old new before after
taken_prefixes one s o n m old new before after h k =
    let records : List (List ℕ) = h.records ++ h.last ∷ [] in
    let others : List (List ℕ) = k.records ++ k.last ∷ [] in
    record {
      here = take n (concat records);
      there = take m (concat others);
      bytes = h.bytes;
      others = k.bytes;
      prefixes = either_bytes records others n m (inside h.records h.last n h.part) (inside k.records k.last m k.part)
          (one s o records others h.left k.left h.packing k.packing);
    }
