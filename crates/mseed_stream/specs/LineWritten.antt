-- A line that is written as far as the device takes it.
use Rattle.std.specs.Prelude.{◌≡◌, ◌⊎◌, ℕ, ◌+◌, List, ◌++◌}
use Rattle.mseed_stream.specs.Device.{BytesWritten}
use Rattle.mseed_stream.specs.Gathered.{EmittedPart}

-- a line was written
pub record WritesWholeLine (line : List ℕ) (old new : BytesWritten) : Type 0 where
  pub text : new.bytes ≡ old.bytes ++ line
  pub fine : new.failures ≡ old.failures

-- a prefix of a line was written, and then the device failed, and wasn't called again
pub record WritesLinePrefix (line : List ℕ) (old new : BytesWritten) : Type 0 where
  pub prefix : EmittedPart old new line
  pub failed : new.failures ≡ old.failures + 1

-- a line was written, whole unless the device failed
pub record WritesLine (line : List ℕ) (old new : BytesWritten) : Type 0 where
  pub either : WritesWholeLine line old new ⊎ WritesLinePrefix line old new
