use Rattle.std.proofs.Common.{◌≡◌, ◌<◌, ℕ, List, arith, map}
use lib.Lanes.{Each1, digits_l, number_l}
use Rattle.mseed_steim.specs.private.Lanes.{row_at, words}
use Rattle.mseed_steim.specs.private.Unpacked.{row_of}
use Rattle.std.proofs.lemmas.Bool.{OnTrue_at}
use Rattle.mseed_steim.proofs.FrameUnpacked.{no_more_than_4}
use Rattle.mseed_steim.proofs.LaneDigits.{at_word}
use Rattle.mseed_steim.proofs.RowHalves.{halves}
use Rattle.mseed_steim.proofs.unpack.unpack_words.Goals as goal

-- the rows in their two halves
in_halves : (frame rows : List ℕ) (from word : ℕ) → Each1 (λ r. r < 16) rows → rows ≡ map (row_at frame from) words
    → word < 16 → row_of (digits_l 18446744073709551616 2 (number_l 256 rows)) word ≡ row_at frame from word
in_halves frame rows from word small e less = grind (arith, at_word, halves)

pub returns-then-has_no_code_3-clause-unpacked : goal.returns-then-has_no_code_3-clause-unpacked
unfolding words
returns-then-has_no_code_3-clause-unpacked c = λ from some rows good.
    let bits = c.words_of-bits.ensures in
    let other = rw bits at (OnTrue_at c.if-has_no_code_3.true c.has_no_code_3.ensures) in
    c.unpack_all.ensures.unpacked c.args.frame.now from bits
    (λ word less. in_halves c.args.frame.now c.args.rows from word c.requires.rows rows less) good
    (no_more_than_4 c.args.scheme c.args.frame.now from c.fits-frame some other good)

pub returns-clause-unpacked : goal.returns-clause-unpacked
returns-clause-unpacked c = grind (arith, in_halves)
