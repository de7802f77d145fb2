-- Why the system has no link for a client, or has it no more: by the numbers of Linux, and in words.
use Rattle.std.specs.Prelude.{◌≡◌, ◌≢◌, ℕ, ◌==◌, ℤ, pos, int_lt, unsigned_abs, List, [], ◌∷◌, codes, if◌then◌else◌}
use Rattle.std.specs.Prelude.{Option, Some, None, unwrap_or}
use Rattle.std.specs.declared.io.Error.{Error}
use Rattle.std.specs.declared.io.ErrorKind.TheVariants as kinds
use Rattle.std.specs.IoError.{error_kind, raw_os_error}
use Rattle.slink_links.specs.declared.listen_fault.ListenFault.TheVariants as listening
use Rattle.slink_links.specs.declared.network_fault.NetworkFault.{NetworkFault}
use Rattle.slink_links.specs.declared.network_fault.NetworkFault.TheVariants as fault
use Rattle.slink_links.specs.ListenFault.{fault_of, listen_text}

-- the errors of Linux that have a reason of their own: EAGAIN, as which a time-out is reported, EPIPE, ENETUNREACH,
-- ECONNRESET, ETIMEDOUT, ECONNREFUSED and EHOSTUNREACH
abbrev pub network_faults : List (ℕ × NetworkFault)
network_faults =
    (11, fault.TimedOut) ∷ (32, fault.Broken) ∷ (101, fault.NoNetwork) ∷ (104, fault.Reset) ∷ (110, fault.TimedOut)
    ∷ (111, fault.Refused) ∷ (113, fault.NoRoute) ∷ []

-- the reason of a number, by such rows, if it has one
abbrev pub row_in : List (ℕ × NetworkFault) → ℕ → Option NetworkFault
row_in [] number = None
row_in (row ∷ rows) number = if number == row.0 then Some row.1 else row_in rows number

-- the reason of an error's number, if it has one of its own: a negative one is none of Linux
abbrev pub own_fault : ℤ → Option NetworkFault
own_fault number = if int_lt number (pos 0) then None else row_in network_faults (unsigned_abs number)

-- and else the one that whoever listens may meet too
abbrev pub network_fault_of : ℤ → NetworkFault
network_fault_of number = unwrap_or (own_fault number) (fault.Other (fault_of number))

-- the reason in words
abbrev pub network_text : NetworkFault → List ℕ
network_text fault.Refused = codes "connection refused"
network_text fault.Reset = codes "connection reset"
network_text fault.Broken = codes "broken pipe"
network_text fault.TimedOut = codes "timed out"
network_text fault.NoNetwork = codes "network unreachable"
network_text fault.NoRoute = codes "no route to host"
network_text (fault.Other other) = listen_text other

-- The reason of an error: by its number where it is the system's, and else by its kind.
pub record IsFaultOf (error : Error) (reason : NetworkFault) : Type 0 where
  pub number : (number : ℤ) → raw_os_error error ≡ Some number → reason ≡ network_fault_of number
  pub timed_out : raw_os_error error ≡ None → error_kind error ≡ kinds.TimedOut → reason ≡ fault.TimedOut
  pub memory : raw_os_error error ≡ None → error_kind error ≡ kinds.OutOfMemory
      → reason ≡ fault.Other listening.NoMemory
  pub other : raw_os_error error ≡ None → error_kind error ≢ kinds.TimedOut → error_kind error ≢ kinds.OutOfMemory
      → reason ≡ fault.Other listening.Other
