-- What a device did so far, and what one more call adds, by its answer.
use Rattle.std.specs.Prelude.{◌≡◌, ◌≤◌, ℕ, Bool, false, ◌==◌, ◌&&◌, ◌||◌, ◌+◌, ◌++◌, not, length, List, [], take, drop}
use Rattle.std.specs.Prelude.{Result, Ok, Err, Option}
use Rattle.mseed_record.specs.Record.{IsRecord}

-- what was read of a source: its bytes, the calls made and failed, and whether the input is at its end
pub record BytesRead : Type 0 where
  pub bytes : List ℕ
  pub calls : ℕ
  pub failures : ℕ
  pub is_at_end : Bool

-- what a sink accepted: its bytes, and the calls made and failed
pub record BytesWritten : Type 0 where
  pub bytes : List ℕ
  pub calls : ℕ
  pub failures : ℕ

-- what a read of a source leaves as it was: what it accepted, where it is a sink as well, and the bytes of each file
-- that it reads, where it reads files and the bytes are known
pub record Beside : Type 0 where
  pub written : BytesWritten
  pub files : List (Option (List ℕ))

-- what it accepted, of a source that reads no files
abbrev pub accepted : BytesWritten → Beside
accepted written = record { written = written; files = [] }

-- no call of the source yet
abbrev pub nothing_read : BytesRead
nothing_read = record { bytes = []; calls = 0; failures = 0; is_at_end = false }

-- no call of the sink yet
abbrev pub nothing_written : BytesWritten
nothing_written = record { bytes = []; calls = 0; failures = 0 }

-- the bytes that went through: the first n at `Ok(n)`, and none at `Err`
abbrev pub passed : {E : Type 0} → Result ℕ E → List ℕ → List ℕ
passed (Ok n) xs = take n xs
passed (Err e) xs = []

-- how many calls failed: this one, or none
abbrev pub failed_count : {E : Type 0} → Result ℕ E → ℕ
failed_count (Ok n) = 0
failed_count (Err e) = 1

-- the answer says that the input is at its end: 0 bytes, where there was room for one
abbrev pub is_end : {E : Type 0} → Result ℕ E → ℕ → Bool
is_end (Ok n) room = (n == 0) && not (room == 0)
is_end (Err e) room = false

-- one more read, by its answer and what the buffer then holds
abbrev pub read_also : {E : Type 0} → BytesRead → Result ℕ E → List ℕ → BytesRead
read_also h r buf = record {
  bytes = h.bytes ++ passed r buf;
  calls = h.calls + 1;
  failures = h.failures + failed_count r;
  is_at_end = h.is_at_end || is_end r (length buf);
}

-- these bytes more, read by one call
abbrev pub lent_also : BytesRead → List ℕ → BytesRead
lent_also h more = record {
  bytes = h.bytes ++ more;
  calls = h.calls + 1;
  failures = h.failures;
  is_at_end = h.is_at_end;
}

-- what was held comes first: the bytes that are read begin with it, or are a prefix of it, and no read fails
abbrev pub ComesFirst : {E : Type 0} → List ℕ → Result ℕ E → List ℕ → Type 0
ComesFirst lent (Ok n) buf = take n lent ≡ take (length lent) (take n buf)
ComesFirst lent (Err e) buf = lent ≡ []

-- one more write, by its answer
abbrev pub written_also : {E : Type 0} → BytesWritten → Result ℕ E → List ℕ → BytesWritten
written_also s r bytes = record {
  bytes = s.bytes ++ passed r bytes;
  calls = s.calls + 1;
  failures = s.failures + failed_count r;
}

-- the whole is the prefix, with something or nothing after it
abbrev pub IsPrefixOf : List ℕ → List ℕ → Type 0
IsPrefixOf prefix whole = (more : List ℕ) × (whole ≡ prefix ++ more)

-- of these bytes, `size` are a record from an offset on
pub record HasRecordAt (bytes : List ℕ) (offset size : ℕ) : Type 0 where
  pub inside : offset + size ≤ length bytes
  pub is_record : IsRecord (take size (drop offset bytes))
