-- How far reading is after one more line: no public contract is stated by these words.
use Rattle.std.specs.Prelude.{ℕ, List, [], ◌∷◌, ◌++◌, Some, None}
use Rattle.mseed_stream.specs.declared.fault.StreamFault.{StreamFault}
use Rattle.mseed_audit.specs.declared.channel.Channel.{Channel}
use Rattle.mseed_join.specs.Lines.{Line, header, channel, counts, faults, fault}
pub use Rattle.mseed_join.specs.Flaws.{May}
use Rattle.mseed_join.specs.Reached.{OpenPart, none, begun, whole, Stage}
use Rattle.mseed_join.specs.Written.{Written}

abbrev pub counted_part : List (List ℕ × Channel) → ℕ → ℕ → Written
counted_part channels records bytes = record {
  part = record { channels = channels; records = records; bytes = bytes };
  faults = 0;
  end = None;
}

abbrev pub with_faults : Written → ℕ → Written
with_faults w n = record { part = w.part; faults = n; end = w.end }

abbrev pub with_end : Written → StreamFault → Written
with_end w f = record { part = w.part; faults = w.faults; end = Some f }

-- and then reading is so far
abbrev pub goes : List Written → OpenPart → Line → Stage
goes over none header = record { over = over; last = begun [] }
goes over none (channel key c) = record { over = over; last = none }
goes over none (counts records bytes) = record { over = over; last = none }
goes over none (faults n) = record { over = over; last = none }
goes over none (fault bytes f) = record { over = over; last = none }
goes over (begun channels) header = record { over = over; last = none }
goes over (begun channels) (channel key c) = record { over = over; last = begun (channels ++ (key, c) ∷ []) }
goes over (begun channels) (counts records bytes) = record {
  over = over;
  last = whole (counted_part channels records bytes);
}
goes over (begun channels) (faults n) = record { over = over; last = none }
goes over (begun channels) (fault bytes f) = record { over = over; last = none }
goes over (whole w) header = record { over = over ++ w ∷ []; last = begun [] }
goes over (whole w) (channel key c) = record { over = over; last = none }
goes over (whole w) (counts records bytes) = record { over = over; last = none }
goes over (whole w) (faults n) = record { over = over; last = whole (with_faults w n) }
goes over (whole w) (fault bytes f) = record { over = over ++ with_end w f ∷ []; last = none }

abbrev pub to : Stage → Line → Stage
to s x = goes s.over s.last x
