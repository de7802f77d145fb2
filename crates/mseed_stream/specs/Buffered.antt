-- What a contract reads of a `Buffered`.
use Rattle.std.specs.Prelude.{ℕ, List, [], Option, if◌then◌else◌}
use Rattle.std.specs.Io.Buffered.{reader_buffer, reader_remaining}
use Rattle.std.specs.declared.io.buffered.BufReader.{BufReader}
use Rattle.mseed_stream.specs.Counted.{read_by, inner_of, remaining_of}
use Rattle.mseed_stream.specs.Device.{BytesRead}
use Rattle.mseed_stream.specs.declared.buffered.Buffered.{Buffered}

-- the reader, as it stands
abbrev pub reader_of : {T A : Type 0} → Buffered T A → BufReader T A
reader_of b = inner_of b.counted

-- what was read of it so far
abbrev pub read_through : {T A : Type 0} → Buffered T A → BytesRead
read_through b = read_by b.counted

-- what it has left, where its reader is known to have it: what stands in the buffer comes first
abbrev pub left_of : {T A : Type 0} → (T → Option (List ℕ)) → Buffered T A → Option (List ℕ)
left_of remaining b = remaining_of (reader_remaining remaining) b.counted

-- what it holds: what stands in the buffer, and nothing once it is at its end
abbrev pub lent_by : {T A : Type 0} → Buffered T A → List ℕ
lent_by b = if b.counted.is_at_end then [] else reader_buffer b.counted.inner
