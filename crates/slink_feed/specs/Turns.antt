-- What goes through the devices of a step.
use Rattle.std.specs.Prelude.{◌≡◌, ℕ, Bool, true, false, ◌+◌, ◌||◌, ◌++◌, ◌<◌, List, [], ◌∷◌, length, take}
use Rattle.mseed_stream.specs.Device.{BytesRead, BytesWritten}

abbrev pub is_empty : List ℕ → Bool
is_empty [] = true
is_empty (b ∷ bs) = false

-- one read more, which gave these bytes: none of them, where the link is at its end
abbrev pub read_once : BytesRead → List ℕ → BytesRead
read_once h given = record {
  bytes = h.bytes ++ given;
  calls = h.calls + 1;
  failures = h.failures;
  is_at_end = h.is_at_end || is_empty given;
}

-- one read more, which failed
abbrev pub failed_once : BytesRead → BytesRead
failed_once h = record { bytes = h.bytes; calls = h.calls + 1; failures = h.failures + 1; is_at_end = h.is_at_end }

-- A sink accepted these bytes, and didn't fail.
pub record Emitted (old new : BytesWritten) (more : List ℕ) : Type 0 where
  pub bytes : new.bytes ≡ old.bytes ++ more
  pub failures : new.failures ≡ old.failures

-- A sink accepted the first `count` of these bytes, and not all, and failed.
pub record EmittedPrefix (old new : BytesWritten) (more : List ℕ) (count : ℕ) : Type 0 where
  pub bytes : new.bytes ≡ old.bytes ++ take count more
  pub part : count < length more
  pub failures : new.failures ≡ old.failures + 1
