-- What a fault of a stream means, where all of the stream was wanted, and where it lies.
use Rattle.std.specs.Prelude.{◌≡◌, ℕ, ◌+◌, ◌^◌, length, false, Option, Some, None}
use Rattle.mseed_stream.specs.Device.{BytesRead}
use Rattle.mseed_stream.specs.declared.fault.StreamFault.{StreamFault}
use Rattle.mseed_stream.specs.declared.fault.StreamFault.TheVariants.{Frame, Truncated, Read, Turns, Memory}

-- by what was read of the source before the call and after it: where a read failed or the reads ran out,
-- the input wasn't at its end; no record is looked for
abbrev pub IsStreamFault : StreamFault → BytesRead → BytesRead → Type 0
IsStreamFault (Frame n f) old new = ⊥
IsStreamFault (Truncated n have) old new = ⊥
IsStreamFault (Read n) old new = (length new.bytes ≡ length old.bytes + n) × (new.failures ≡ old.failures + 1)
    × (new.is_at_end ≡ false)
IsStreamFault (Turns n) old new = (length new.bytes ≡ length old.bytes + n) × (new.failures ≡ old.failures)
    × (new.calls ≡ old.calls + 2 ^ 40) × (new.is_at_end ≡ false)
IsStreamFault Memory old new = new.failures ≡ old.failures

-- after how many bytes of an input its fault lies; a read that failed and memory that was refused lie in no byte of it
abbrev pub offset_of : StreamFault → Option ℕ
offset_of (Frame n f) = Some n
offset_of (Truncated n have) = Some n
offset_of (Read n) = None
offset_of (Turns n) = Some n
offset_of Memory = None
