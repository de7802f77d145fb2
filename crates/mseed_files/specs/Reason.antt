-- Why a file can't be read, in words.
use Rattle.std.specs.Prelude.{ℕ, List, codes}
use Rattle.mseed_files.specs.declared.reason.Reason.{Reason}
use Rattle.mseed_files.specs.declared.reason.Reason.TheVariants as reason

abbrev pub reason_text : Reason → List ℕ
reason_text reason.Missing = codes "not found"
reason_text reason.Directory = codes "is a directory"
reason_text reason.Output = codes "is the output"
reason_text reason.Denied = codes "permission denied"
reason_text reason.NotPermitted = codes "operation not permitted"
reason_text reason.NotInDirectory = codes "not a directory"
reason_text reason.Links = codes "too many levels of symbolic links"
reason_text reason.LongName = codes "file name too long"
reason_text reason.Device = codes "input/output error"
reason_text reason.ManyFiles = codes "too many open files"
reason_text reason.NoDevice = codes "no such device"
reason_text reason.Busy = codes "device or resource busy"
reason_text reason.Stale = codes "stale file handle"
reason_text reason.NoMemory = codes "cannot allocate memory"
reason_text reason.TimedOut = codes "connection timed out"
reason_text reason.Reset = codes "connection reset by peer"
reason_text reason.Closed = codes "bad file descriptor"
reason_text reason.Invalid = codes "invalid argument"
reason_text reason.TooLarge = codes "file too large"
reason_text reason.Other = codes "error of the system"
