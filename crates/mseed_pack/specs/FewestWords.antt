-- How few words a record's differences take (SEED manual, appendix B).
use Rattle.std.specs.Prelude.{◌≡◌, ℕ, ◌+◌, ◌==◌, not, List, length, drop, slice_range}
use Rattle.std.specs.List.{AllByRecursion, filter}
use Rattle.mseed_steim.specs.Frames.{DataWord, data_words}
use Rattle.mseed_steim_pack.specs.Packing.{IsFewest}
use Rattle.mseed_audit.specs.Series.{Trace}
use Rattle.mseed_pack.specs.Packing.{IsPacking, Piece}
use Rattle.mseed_pack.specs.Stretches.{differences}
use Rattle.mseed_steim.specs.declared.encoding.Encoding.TheVariants.{Steim2}
use Rattle.mseed_pack.specs.declared.options.Options.{Options}

-- the data words in use: those whose code isn't 00
abbrev pub words_in_use : List ℕ → ℕ
words_in_use payload = length (filter (λ (w : DataWord). not (w.code == 0)) (data_words payload))

-- no fewer words of Steim-2 hold the differences of the record's samples
abbrev pub HasFewestWords : Trace → Piece → Type 0
HasFewestWords s p = IsFewest (slice_range (differences s.samples) p.first (p.first + length p.samples))
    (words_in_use (drop 64 p.bytes))

-- in Steim-2 this is so of each record that a series is packed into
abbrev pub EachHasFewestWords : Trace → Options → Type 0
EachHasFewestWords s o =
    (records : List (List ℕ)) (packing : IsPacking s o records) → o.encoding ≡ Steim2
    → AllByRecursion (HasFewestWords s) packing.pieces
