-- What is wrong with an input, by the fault with which it ended.
use Rattle.std.specs.Prelude.{Option, Some, None}
use Rattle.mseed_stream.specs.declared.fault.StreamFault.{StreamFault}
use Rattle.mseed_stream.specs.declared.fault.StreamFault.TheVariants.{Frame, Truncated, Read, Turns, Memory}
use Rattle.mseed_files.specs.declared.blame.Blame.{Blame}
use Rattle.mseed_files.specs.declared.blame.Blame.TheVariants as blames

-- a fault lies where it is reported, and a record that is cut off where it begins; a read that failed has no place
abbrev pub blame_of : StreamFault → Blame
blame_of (Frame n f) = blames.Fault n
blame_of (Truncated n have) = blames.Fault n
blame_of (Read n) = blames.Read
blame_of (Turns n) = blames.Fault n
blame_of Memory = blames.Nothing

-- of an input that ended so
abbrev pub blame_by : Option StreamFault → Blame
blame_by None = blames.Nothing
blame_by (Some fault) = blame_of fault
