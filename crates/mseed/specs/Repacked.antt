-- What packing anew says, and its exit status.
use Rattle.std.specs.Prelude.{◌≡◌, ℕ, List, ◌++◌, None, Result, Ok, Err, codes}
use Rattle.mseed_stream.specs.Device.{BytesWritten}
use Rattle.mseed_text.specs.Fault.{fault_line}
use Rattle.mseed_steim.specs.declared.encoding.Encoding.{Encoding}
use Rattle.mseed_pack.specs.declared.options.Options.{Options}
use Rattle.mseed_repack.specs.ByStretches.{broken_text}
use Rattle.mseed_repack.specs.Misfits.{misfit_text}
use Rattle.mseed_words.specs.declared.request.Packing.{Packing}
use Rattle.mseed_repack.specs.declared.fault.RepackFault.{RepackFault}
use Rattle.mseed_repack.specs.declared.fault.RepackFault.TheVariants.{Stream, Broken, Misfit, Write, Memory}
use Rattle.mseed.specs.Blame.{packing_blame}
use Rattle.mseed_files.specs.InputFiles.{no_memory}
use Rattle.mseed.specs.Outcome.{EndsBy, Report, with_line, without_line, write_failed}
use Rattle.mseed_files.specs.declared.blame.Blame.TheVariants.{Nothing}
use Rattle.mseed.specs.declared.outcome.Ended.{Ended}

-- the line of a fault, where such an encoding is requested; of a broken channel one more, with its first finding, and
-- of one that can't be packed the one that says why
abbrev pub refusal_text : Encoding → RepackFault → List ℕ
refusal_text e (Stream fault) = codes "mseed: " ++ fault_line fault
refusal_text e (Broken key first) = broken_text key first
refusal_text e (Misfit key number fault) = misfit_text e key None fault
refusal_text e Write = write_failed
refusal_text e Memory = no_memory

-- its exit status
abbrev pub refusal_status : RepackFault → ℕ
refusal_status (Broken key first) = 1
refusal_status fault = 2

-- with no line where all was packed
abbrev pub repack_report : {U : Type 0} → Encoding → Result U RepackFault → Report
repack_report e (Ok unit) = without_line 0 Nothing
repack_report e (Err fault) = with_line (refusal_status fault) (refusal_text e fault) (packing_blame fault)

abbrev pub EndsRepack : {U : Type 0} → Encoding → Result U RepackFault → Ended → BytesWritten → BytesWritten → Type 0
EndsRepack e outcome ended old new = EndsBy (repack_report e outcome) ended old new

-- the options of packing anew, with sequence numbers from 000001 on
pub record AreOptionsOf (packing : Packing) (options : Options) : Type 0 where
  pub exponent : options.exponent ≡ packing.exponent
  pub encoding : options.encoding ≡ packing.encoding
  pub sequence : options.first_sequence ≡ 1
