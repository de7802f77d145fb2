-- What commands say of the records that are asked for, and their exit statuses.
use Rattle.std.specs.Prelude.{ℕ, List, [], ◌∷◌, ◌++◌, Option, Some, None, Result, Ok, Err, codes}
use Rattle.mseed_record.specs.Selection.{Selection, everything}
use Rattle.mseed_select.specs.declared.fault.SelectFault.{SelectFault}
use Rattle.mseed_select.specs.declared.fault.SelectFault.TheVariants.{Write, Memory}
use Rattle.mseed_select.specs.declared.selected.Selected.{Selected}
use Rattle.mseed_repack.specs.Selected.{without_time_lines}
use Rattle.mseed_stream.specs.Device.{BytesWritten}
use Rattle.mseed_stream.specs.declared.fault.StreamFault.{StreamFault}
use Rattle.mseed_text.specs.Fault.{fault_line}
use Rattle.mseed_files.specs.Blame.{blame_by}
use Rattle.mseed_files.specs.InputFiles.{no_memory}
use Rattle.mseed.specs.Outcome.{EndsBy, Report, untimed_report, with_line, write_failed}
use Rattle.mseed_files.specs.declared.blame.Blame.TheVariants.{Nothing}
use Rattle.mseed.specs.declared.outcome.Ended.{Ended}

-- what is asked for: all records where no option says
abbrev pub asked_or_all : Option Selection → Selection
asked_or_all None = everything
asked_or_all (Some s) = s

-- the exit status where all was written: a fault of the input counts
abbrev pub end_status : Option StreamFault → ℕ
end_status None = 0
end_status (Some fault) = 2

-- the line of an input that ended with a fault
abbrev pub end_lines : Option StreamFault → List (List ℕ)
end_lines None = []
end_lines (Some fault) = (codes "mseed: " ++ fault_line fault) ∷ []

-- records, or their lines, weren't written whole
abbrev pub unwritten_report : SelectFault → Report
unwritten_report Write = with_line 2 write_failed Nothing
unwritten_report Memory = with_line 2 no_memory Nothing

-- a selection: how many records lack a time, and then the input's fault
abbrev pub select_report : Result Selected SelectFault → Report
select_report (Ok found) = record {
  status = end_status found.end;
  lines = without_time_lines found.without_time ++ end_lines found.end;
  blame = blame_by found.end;
}
select_report (Err fault) = unwritten_report fault

abbrev pub EndsSelect : Result Selected SelectFault → Ended → BytesWritten → BytesWritten → Type 0
EndsSelect outcome ended old new = EndsBy (select_report outcome) ended old new

-- a listing, which has the input's fault
abbrev pub show_report : Result Selected SelectFault → Report
show_report (Ok found) = untimed_report (end_status found.end) found.without_time found.end
show_report (Err fault) = unwritten_report fault

abbrev pub EndsShow : Result Selected SelectFault → Ended → BytesWritten → BytesWritten → Type 0
EndsShow outcome ended old new = EndsBy (show_report outcome) ended old new
