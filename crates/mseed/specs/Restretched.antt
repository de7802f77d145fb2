-- What packing anew by stretches says, and its exit status.
use Rattle.std.specs.Prelude.{ℕ, List, Some, Result, Ok, Err}
use Rattle.mseed_stream.specs.Device.{BytesWritten}
use Rattle.mseed_steim.specs.declared.encoding.Encoding.{Encoding}
use Rattle.mseed_repack.specs.Misfits.{misfit_text}
use Rattle.mseed_repack.specs.declared.refusing.LeftOut.{LeftOut}
use Rattle.mseed_repack.specs.declared.refusing.LeftOut.TheVariants.{Nothing, Broken as LeftBroken}
use Rattle.mseed_repack.specs.declared.refusing.LeftOut.TheVariants.{Misfit as LeftMisfit}
use Rattle.mseed_repack.specs.declared.fault.RepackFault.{RepackFault}
use Rattle.mseed_repack.specs.declared.fault.RepackFault.TheVariants.{Misfit}
use Rattle.mseed.specs.Blame.{packing_blame}
use Rattle.mseed.specs.Outcome.{EndsBy, Report, with_line, without_line}
use Rattle.mseed.specs.Repacked.{refusal_status, refusal_text}
use Rattle.mseed_files.specs.declared.blame.Blame.TheVariants as blames
use Rattle.mseed.specs.declared.outcome.Ended.{Ended}

-- the line of a fault, which names the stretch
abbrev pub stretches_text : Encoding → RepackFault → List ℕ
stretches_text e (Misfit key number fault) = misfit_text e key (Some number) fault
stretches_text e fault = refusal_text e fault

-- the exit status where all was written but what was left out
abbrev pub left_status : LeftOut → ℕ
left_status Nothing = 0
left_status LeftBroken = 1
left_status LeftMisfit = 2

-- after the lines that were reported
abbrev pub stretches_report : Encoding → Result LeftOut RepackFault → Report
stretches_report e (Ok left) = without_line (left_status left) blames.Nothing
stretches_report e (Err fault) = with_line (refusal_status fault) (stretches_text e fault) (packing_blame fault)

abbrev pub EndsStretches : Encoding → Result LeftOut RepackFault → Ended → BytesWritten → BytesWritten → Type 0
EndsStretches e outcome ended old new = EndsBy (stretches_report e outcome) ended old new
