-- What a call that reads a source to its end comes to.
use Rattle.std.specs.Prelude.{◌≡◌, ◌≢◌, ℕ, List, ◌++◌, ◌<◌, length, Option, Result, Err, IsTrue, IfOk, OnOk, IfErr}
use Rattle.std.specs.Prelude.{IfSome}
use Rattle.std.specs.declared.vec.Vec.{Vec}
use Rattle.mseed_stream.specs.Device.{Beside, BytesRead, IsPrefixOf}
use Rattle.mseed_stream.specs.Fault.{IsStreamFault}
use Rattle.mseed_stream.specs.declared.fault.StreamFault.{StreamFault}
use Rattle.mseed_stream.specs.declared.fault.StreamFault.TheVariants.{Memory}

-- All that a source reports up to its end, or a fault: by what was read of it before and after, what it was known to
-- have left, and what a read leaves as it was.
pub record ReadsAll {A : Type 0} (result : Result (Vec ℕ A) StreamFault) (old new : BytesRead) (left : Option (List ℕ))
    (apart later : Beside) : Type 0 where
  pub ok : IfOk result (λ bytes. new.bytes ≡ old.bytes ++ bytes.items)
  pub end : OnOk result (IsTrue new.is_at_end)
  pub fine : OnOk result (new.failures ≡ old.failures)
  -- What the source is known to have left is what was read of it.
  pub known : IfOk result (λ bytes. IfSome left (λ xs. bytes.items ≡ xs))
  pub fault : IfErr result (λ fault. IsStreamFault fault old new)
  -- Memory is requested only where a byte was read.
  pub memory : result ≡ Err Memory → length old.bytes < length new.bytes
  pub prefix : IsPrefixOf old.bytes new.bytes
  -- What it accepted, and the files that it reads, stay as they were.
  pub beside : later ≡ apart

-- The same, where the bytes are put into a list: it has them where a fault comes too, but not where memory was refused.
pub record ReadsInto {U : Type 0} (result : Result U StreamFault) (bytes : List ℕ) (old new : BytesRead)
    (left : Option (List ℕ)) (apart later : Beside) : Type 0 where
  pub kept : result ≢ Err Memory → new.bytes ≡ old.bytes ++ bytes
  pub end : OnOk result (IsTrue new.is_at_end)
  pub fine : OnOk result (new.failures ≡ old.failures)
  -- What the source is known to have left is what was read of it.
  pub known : OnOk result (IfSome left (λ xs. bytes ≡ xs))
  pub fault : IfErr result (λ fault. IsStreamFault fault old new)
  -- Memory is requested only where a byte was read.
  pub memory : result ≡ Err Memory → length old.bytes < length new.bytes
  pub prefix : IsPrefixOf old.bytes new.bytes
  -- What it accepted, and the files that it reads, stay as they were.
  pub beside : later ≡ apart

-- what was put into a list is all that was read in a call but for the last bytes, of which there are some
abbrev pub LacksTheLast : List ℕ → BytesRead → BytesRead → Type 0
LacksTheLast bytes old new = (last : List ℕ) × (0 < length last) × (new.bytes ≡ old.bytes ++ bytes ++ last)
