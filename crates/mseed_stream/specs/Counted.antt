-- What a contract reads of a `Counted`.
use Rattle.std.specs.Prelude.{ℕ, List, [], Option, Some, if◌then◌else◌}
use Rattle.mseed_stream.specs.Device.{BytesRead, BytesWritten}
use Rattle.mseed_stream.specs.declared.counted.Counted.{Counted}

-- the reader or writer
abbrev pub inner_of : {T : Type 0} → Counted T → T
inner_of c = c.inner

-- what was read of it so far
abbrev pub read_by : {T : Type 0} → Counted T → BytesRead
read_by c = record {
  bytes = c.reads.bytes;
  calls = c.reads.calls;
  failures = c.reads.failures;
  is_at_end = c.is_at_end;
}

-- what it accepted so far
abbrev pub written_by : {T : Type 0} → Counted T → BytesWritten
written_by c = record { bytes = c.writes.bytes; calls = c.writes.calls; failures = c.writes.failures }

-- what it has left: nothing, once it is at its end, and else what its reader is known to have left
abbrev pub remaining_of : {T : Type 0} → (T → Option (List ℕ)) → Counted T → Option (List ℕ)
remaining_of remaining c = if c.is_at_end then Some [] else remaining c.inner

-- what its writer is known to hold
abbrev pub contents_of : {T : Type 0} → (T → Option (List ℕ)) → Counted T → Option (List ℕ)
contents_of contents c = contents c.inner
