use Rattle.std.proofs.Common.{◌∙◌, sym}
use Rattle.mseed_select.proofs.Pieces.{star_whole}
use Rattle.mseed_select.proofs.matching.fits_after.Goals as goal

pub returns-in-Whole : goal.returns-in-Whole
returns-in-Whole c = sym (c.pieces.invariant ∙ star_whole c.pieces.after.now c.pieces.left.now c.in-Whole.ensures)
