-- Words in lanes, of bytes whose highest comes first.
use Rattle.std.proofs.Common.{◌≡◌, ℕ, suc, ◌+◌, ◌*◌, ◌<◌, [], ◌∷◌, arith}
use lib.Lanes.{number_l, digits_l}
use Rattle.mseed_steim.specs.private.Lanes.{word_of}

-- a word, and those after it
one_word : (a b c d rest n : ℕ) → a < 256 → b < 256 → c < 256 → d < 256
    → digits_l 4294967296 (suc n) (d + 256 * (c + 256 * (b + 256 * (a + 256 * rest))))
    ≡ word_of a b c d ∷ digits_l 4294967296 n rest
one_word a b c d rest n is has same fits = search arith

pub four : (byte : ℕ → ℕ) → ((place : ℕ) → byte place < 256)
    → digits_l 4294967296 4 (number_l 256 (byte 3 ∷ byte 2 ∷ byte 1 ∷ byte 0 ∷ byte 7 ∷ byte 6 ∷ byte 5 ∷ byte 4
    ∷ byte 11 ∷ byte 10 ∷ byte 9 ∷ byte 8 ∷ byte 15 ∷ byte 14 ∷ byte 13 ∷ byte 12 ∷ []))
    ≡ word_of (byte 0) (byte 1) (byte 2) (byte 3) ∷ word_of (byte 4) (byte 5) (byte 6) (byte 7)
    ∷ word_of (byte 8) (byte 9) (byte 10) (byte 11) ∷ word_of (byte 12) (byte 13) (byte 14) (byte 15) ∷ []
four byte small = search (arith, one_word)
