-- What a call keeps of the source that it reads, and of the sink that it writes.
use Rattle.std.specs.Prelude.{◌≡◌, true, ℕ, List, ◌++◌, Option}
use Rattle.std.specs.Io.KnownBytes.{Appends, IsAtEnd}
use Rattle.mseed_stream.specs.Cutting.{GivesMore}
use Rattle.mseed_stream.specs.Device.{Beside, BytesRead, BytesWritten}

-- what more a sink accepted, and what it's known to hold
abbrev pub TakesMore : BytesWritten → BytesWritten → Option (List ℕ) → Option (List ℕ) → Type 0
TakesMore old new held holds = (more : List ℕ) × (new.bytes ≡ old.bytes ++ more) × Appends held holds more

-- A call that reads a source: by what was read of it before and after, what it's known to have left, and what a read
-- leaves as it was.
pub record ReadsOn (old new : BytesRead) (left rest : Option (List ℕ)) (apart later : Beside) : Type 0 where
  -- What the source is known to have left is what was read of it..
  pub more : GivesMore old new left rest
  -- ..up to its end where the input is at its end.
  pub known : new.is_at_end ≡ true → IsAtEnd rest
  -- What it accepted, and the files that it reads, stay as they were.
  pub beside : later ≡ apart

-- A call that writes to a sink: by what it accepted before and after, what it's known to hold, and what was read of it,
-- where it is a source as well.
pub record WritesOn (old new : BytesWritten) (held holds : Option (List ℕ)) (apart later : BytesRead) : Type 0 where
  -- What the sink is known to hold grew by what it accepted.
  pub contents : TakesMore old new held holds
  -- What was read of it stays as it was.
  pub beside : later ≡ apart
