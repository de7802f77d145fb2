-- Instants and sample rates as they are printed.
use Rattle.std.specs.Prelude.{List, ℕ, ◌++◌, codes, decimal, ℤ, Option, Some, None}
use Rattle.mseed_time.specs.Btime.{first_fault}
use Rattle.mseed_time.specs.declared.fault.TimeFault.{TimeFault}
use Rattle.mseed_time.specs.Rate.{Ratio}
use Rattle.mseed_time.specs.Text.{fault_word, time_text}
use Rattle.mseed_record.specs.Header.{time_at}
use Rattle.mseed_record.specs.View.{View, start_of}

-- a start that is refused: the first field that is out of its range
abbrev pub start_by : Option TimeFault → ℤ → List ℕ
start_by None start = time_text start
start_by (Some fault) start = codes "fault " ++ fault_word fault

-- a record's start
abbrev pub start_text : View → List ℕ
start_text v = start_by (first_fault (time_at v.order v.bytes)) (start_of v)

-- a rate, in samples a second: <num>/<den>
abbrev pub ratio_text : Ratio → List ℕ
ratio_text rate = decimal rate.num ++ codes "/" ++ decimal rate.den
