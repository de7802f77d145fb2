-- What a contract reads of bytes that are lent.
use Rattle.std.specs.Prelude.{ℕ, List, [], Option, Some, if◌then◌else◌}
use Rattle.mseed_stream.specs.Device.{BytesRead}
use Rattle.mseed_c.specs.declared.lent.Lent.{Lent}

-- what was read of them so far; no read fails
abbrev pub read_by : Lent → BytesRead
read_by l = record { bytes = l.reads.bytes; calls = l.reads.calls; failures = 0; is_at_end = l.is_at_end }

-- what they hold: nothing, once they are at their end
abbrev pub lent_by : Lent → List ℕ
lent_by l = if l.is_at_end then [] else l.bytes.now

-- and no more is left
abbrev pub left_of : Lent → Option (List ℕ)
left_of l = Some (lent_by l)
