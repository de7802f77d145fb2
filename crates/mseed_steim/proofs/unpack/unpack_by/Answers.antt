use Rattle.std.proofs.lemmas.Bool.{OnTrue_at}
use Rattle.mseed_steim.specs.private.Lanes.{row_at}
use Rattle.mseed_steim.proofs.FrameItems.{begins_low}
use Rattle.mseed_steim.proofs.FrameUnpacked.{up_to}
use Rattle.mseed_steim.proofs.unpack.unpack_by.Goals as goal

pub returns-then-are_low : goal.returns-then-are_low
returns-then-are_low c =
    let rows = c.rows_of-rows.ensures.value in
    let low = rw c.counts_of.ensures.counts at (OnTrue_at c.if-are_low.true c.are_low.ensures) in
    up_to c.args.widest c.args.scheme c.args.begin c.args.frame.now c.unpack_words.new.differences _ c.fits-frame
    c.requires.begins c.unpack_words.ensures.few
    (λ from begins. low (row_at c.args.frame.now from) (rows from begins))
    (λ from begins good. c.unpack_words.ensures.unpacked from (begins_low c.args.begin from begins).0
    (rows from begins) good)
