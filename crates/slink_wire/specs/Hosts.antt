-- Where a link leads, and how long it may wait.
use Rattle.std.specs.Prelude.{ℕ, ◌-◌, ◌*◌, ◌==◌, nat_le, List, ◌++◌, length, replicate, Option, Some, None}
use Rattle.std.specs.Prelude.{if◌then◌else◌}
use Rattle.slink_wire.specs.declared.host.Name.{Name}
use Rattle.slink_wire.specs.declared.host.Timeout.{Timeout}

-- a text, with zeros after it up to a width
abbrev pub padded : ℕ → List ℕ → List ℕ
padded width text = text ++ replicate (width - length text) 0

-- the name of a text of at most 253 bytes
abbrev pub name_of : List ℕ → Option Name
name_of text =
    if nat_le (length text) 253 then Some (record { bytes = padded 253 text; count = length text }) else None

-- how many nanoseconds a call may wait: any number where the time-out is 0
abbrev pub limit_in : Timeout → Option ℕ
limit_in timeout = if timeout.seconds == 0 then None else Some (timeout.seconds * 1000000000)
