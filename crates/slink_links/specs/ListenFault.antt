-- Why a port can't be had: by the numbers of Linux, and in words.
use Rattle.std.specs.Prelude.{ℕ, ◌==◌, ℤ, pos, int_lt, unsigned_abs, List, [], ◌∷◌, codes, if◌then◌else◌}
use Rattle.slink_links.specs.declared.listen_fault.ListenFault.{ListenFault}
use Rattle.slink_links.specs.declared.listen_fault.ListenFault.TheVariants as fault

-- the errors of Linux that have a reason of their own: EPERM, ENOMEM, EACCES, ENFILE, EMFILE, EAFNOSUPPORT, EADDRINUSE,
-- EADDRNOTAVAIL and ENOBUFS
abbrev pub listen_faults : List (ℕ × ListenFault)
listen_faults =
    (1, fault.NotPermitted) ∷ (12, fault.NoMemory) ∷ (13, fault.Denied) ∷ (23, fault.ManyFiles)
    ∷ (24, fault.ManyFiles) ∷ (97, fault.NoFamily) ∷ (98, fault.InUse) ∷ (99, fault.NotAvailable)
    ∷ (105, fault.NoBuffers) ∷ []

-- the reason of a number, by such rows: any other number has none of its own
abbrev pub fault_in : List (ℕ × ListenFault) → ℕ → ListenFault
fault_in [] number = fault.Other
fault_in (row ∷ rows) number = if number == row.0 then row.1 else fault_in rows number

-- the reason of an error's number: a negative one is none of Linux
abbrev pub fault_of : ℤ → ListenFault
fault_of number = if int_lt number (pos 0) then fault.Other else fault_in listen_faults (unsigned_abs number)

-- the reason in words
abbrev pub listen_text : ListenFault → List ℕ
listen_text fault.InUse = codes "address in use"
listen_text fault.NotAvailable = codes "address not available"
listen_text fault.Denied = codes "permission denied"
listen_text fault.NotPermitted = codes "operation not permitted"
listen_text fault.NoFamily = codes "address family not supported"
listen_text fault.ManyFiles = codes "too many open files"
listen_text fault.NoMemory = codes "cannot allocate memory"
listen_text fault.NoBuffers = codes "no buffer space available"
listen_text fault.Other = codes "error of the system"
