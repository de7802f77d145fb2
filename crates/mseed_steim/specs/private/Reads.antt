-- What the words that are read stand for.
use Rattle.std.specs.Prelude.{List, ◌∷◌, Option, Some, None}
use Rattle.mseed_steim.specs.declared.data_words.Word.{Word}
use Rattle.mseed_steim.specs.Frames.{DataWord}

-- the data word
abbrev pub as_data : Word → DataWord
as_data w = record { frame = w.frame; place = w.place; code = w.code; bits = w.bits }

-- the words, with one before it that has been read
abbrev pub with_first : Option Word → List DataWord → List DataWord
with_first None words = words
with_first (Some w) words = as_data w ∷ words
