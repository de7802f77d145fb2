-- What the proofs of some functions go by.
use Rattle.std.proofs.lemmas.Int.{to_z-of_z}
use Rattle.mseed_steim_pack.proofs.Bits.{within_fits}
use Rattle.mseed_pack.proofs.Differences.{first_difference, length-differences}
use Rattle.mseed_pack.proofs.Misfits.{raised_under, zero_fits}
use Rattle.mseed_pack.proofs.Numbers.{fits_16, residue_16, residue_32}
use Rattle.std.proofs.lemmas.List.{nil_from_length}
use Rattle.mseed_pack.specs.Fitting.{no_sample, too_fast}
use Rattle.mseed_pack.proofs.Misfits.{not_so}
use Rattle.std.proofs.lemmas.List.{append-nil}

pub ruleset difference_after = (to_z-of_z, within_fits)

pub ruleset raised = (raised_under, to_z-of_z)

pub ruleset put_sample = (fits_16, residue_16, residue_32, to_z-of_z)

pub ruleset large_difference = (first_difference, length-differences, to_z-of_z, zero_fits)

pub ruleset head_misfit = (nil_from_length, no_sample, not_so, too_fast)

pub ruleset gather = (append-nil)
