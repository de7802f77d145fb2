use Rattle.std.proofs.Common.{arith}
use Rattle.std.proofs.lemmas.Int.{to_z-of_z}
use Rattle.mseed_steim.proofs.Continuing.{puts_kept}
use Rattle.mseed_steim.proofs.Folds.{adds_first, fits_true, fold_add, met_add}
use Rattle.mseed_steim.proofs.Folded.{kept_one}
use Rattle.mseed_steim.proofs.Walking.{first_behind}
use Rattle.mseed_steim.proofs.walk.begin.Goals as goal

pub returns-then-is_single : goal.returns-then-is_single
returns-then-is_single g c =
    search (arith, adds_first, first_behind, fits_true, fold_add, kept_one, met_add, puts_kept, to_z-of_z)
