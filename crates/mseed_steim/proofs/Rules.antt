-- What the proofs of some functions go by.
use Rattle.mseed_steim.proofs.ByteRun.{widened}
use Rattle.mseed_steim.proofs.Continuing.{all_ends, ends_kept, nothing_kept, puts_kept, walks_on}
use Rattle.mseed_steim.proofs.Far.{span_step}
use Rattle.mseed_steim.proofs.Few.{few_of}
use Rattle.mseed_steim.proofs.Folded.{drop_step, kept_one}
use Rattle.mseed_steim.proofs.Folds.{adds_first, fits_false, fits_true, fold_add, fold_enough, fold_over, met_add}
use Rattle.mseed_steim.proofs.FrameUnpacked.{by_own_count, lanes_enough, lanes_few, unpacked_more}
use Rattle.mseed_steim.proofs.LaneDigits.{at_word}
use Rattle.mseed_steim.proofs.LaneTables.{all_of_each, and_fits, more_below}
use Rattle.mseed_steim.proofs.Nearness.{above_is, all_below_next, code_is, word_value}
use Rattle.mseed_steim.proofs.Placed.{payload_steps, put_of}
use Rattle.mseed_steim.proofs.Runs.{run_one}
use Rattle.mseed_steim.proofs.Shifts.{digit_fits, narrow, room_at, shifted}
use Rattle.mseed_steim.proofs.Spelled.{digits_over, digits_step}
use Rattle.mseed_steim.proofs.Walking.{length-words_from, no_items, none_left}
use Rattle.std.proofs.Common.{append-nil, append_assoc, length-append}
use Rattle.std.proofs.Math.ListN.{drop_of_length-le}
use Rattle.std.proofs.Math.Nat.{min-eq_right, mul-le-mul_right}
use Rattle.std.proofs.lemmas.Int.{of_z-to_z, to_z-of_z}
use Rattle.std.proofs.lemmas.List.{length-map, length-take-le, take-take, take_at}
use Rattle.std.proofs.lemmas.Result.{err_from_is_err_and}
use Rattle.std.proofs.lemmas.Simd.{dot4_Fits}

pub ruleset put_each = (span_step, to_z-of_z)

pub ruleset words_counted = (few_of, length-append, length-map, length-words_from)

pub ruleset unpack_next = (run_one, to_z-of_z, widened)

pub ruleset above_least = (above_is, of_z-to_z)

pub ruleset are_short = (all_below_next, to_z-of_z)

pub ruleset are_words_narrow = (code_is, to_z-of_z, word_value)

pub ruleset take_frames = (nothing_kept, to_z-of_z)

pub ruleset fill_payload = (payload_steps, to_z-of_z)

pub ruleset unpack_some = (length-take-le, put_of, take-take, take_at)

pub ruleset part_by = (all_of_each, and_fits, dot4_Fits, more_below)

pub ruleset add_all = (drop_of_length-le, span_step, to_z-of_z)

pub ruleset add_difference = (adds_first, fits_false, fits_true, fold_add, fold_over, met_add, to_z-of_z)

pub ruleset next_difference = (digits_step, room_at, to_z-of_z)

pub ruleset reach_of = (drop_of_length-le, mul-le-mul_right)

pub ruleset digit_shifted = (digit_fits, narrow, shifted, to_z-of_z)

pub ruleset spread = (append-nil, digits_over, min-eq_right)

pub ruleset unpack_five = (append_assoc, at_word, by_own_count, lanes_enough, lanes_few, unpacked_more)

pub ruleset keep_checked = (drop_of_length-le, drop_step, err_from_is_err_and, to_z-of_z, walks_on)

pub ruleset keep_difference = (err_from_is_err_and, kept_one, puts_kept, to_z-of_z)

pub ruleset keep_group = (digits_over, err_from_is_err_and, to_z-of_z, walks_on)

pub ruleset walk = (all_ends, ends_kept, fold_enough, no_items, none_left, to_z-of_z)

pub ruleset differences_in = (append-nil, append_assoc, digits_over, digits_step, room_at, to_z-of_z)
