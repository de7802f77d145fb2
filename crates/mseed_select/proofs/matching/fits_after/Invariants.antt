use Rattle.std.proofs.Common.{◌≡◌, ◌+◌, ◌∷◌, length}
use Rattle.mseed_record.specs.Pattern.{fits}
use Rattle.mseed_select.proofs.matching.fits_after.Given as goal

abbrev pub invariant-pieces : goal.invariant-pieces
invariant-pieces l = fits (42 ∷ l.fn.field) l.fn.code ≡ fits (42 ∷ l.after) l.left

abbrev pub decreases-pieces : goal.decreases-pieces
decreases-pieces l = length l.after + length l.left
