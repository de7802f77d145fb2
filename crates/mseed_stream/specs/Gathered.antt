-- A text that is gathered, and written some at a time.
use Rattle.std.specs.Prelude.{◌≡◌, ◌+◌, ◌<◌, ℕ, List, ◌++◌, length, take}
use Rattle.mseed_stream.specs.Device.{BytesWritten}

-- the output accepted the first bytes of a text
abbrev pub EmittedFirst : BytesWritten → BytesWritten → List ℕ → Type 0
EmittedFirst old new text = (count : ℕ) × (new.bytes ≡ old.bytes ++ take count text)

-- and not all of it
abbrev pub EmittedPart : BytesWritten → BytesWritten → List ℕ → Type 0
EmittedPart old new text = (count : ℕ) × ((count < length text) × (new.bytes ≡ old.bytes ++ take count text))

-- the output accepted some bytes, and with those that are gathered they are a text
pub record AreGathered (old new : BytesWritten) (gathered text : List ℕ) : Type 0 where
  pub taken : List ℕ
  pub bytes : new.bytes ≡ old.bytes ++ taken
  pub joined : taken ++ gathered ≡ text

-- `taken` bytes of a text were accepted, and then the output failed: it isn't called again
pub record IsCutOff (taken : ℕ) (whole : List ℕ) (old new : BytesWritten) : Type 0 where
  pub text : new.bytes ≡ old.bytes ++ take taken whole
  pub part : taken < length whole
  pub failed : new.failures ≡ old.failures + 1
