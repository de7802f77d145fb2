-- Samples that are known by their places.
use Rattle.std.specs.Prelude.{◌≡◌, ℕ, ◌-◌, List, slice_index_or, ℤ, pos, All}
use Rattle.mseed_pack.specs.declared.known_samples.KnownSample.{KnownSample}
use Rattle.mseed_pack.specs.declared.known_samples.KnownSamples.{KnownSamples}

-- the sample before a place; at the first place, the first one
abbrev pub sample_before : List ℤ → ℕ → ℤ
sample_before samples place = slice_index_or samples (place - 1) (pos 0)

-- a mark tells it
abbrev pub IsKnownSample : List ℤ → KnownSample → Type 0
IsKnownSample samples mark = mark.sample ≡ sample_before samples mark.place

abbrev pub AreKnownSamples : List ℤ → KnownSamples → Type 0
AreKnownSamples samples marks = All (IsKnownSample samples) marks.marks
