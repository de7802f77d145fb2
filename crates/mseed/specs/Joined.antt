-- What joining parts comes to.
use Rattle.std.specs.Prelude.{ℕ, List, ◌++◌, nat_lt, if◌then◌else◌, Result, Ok, Err, codes, decimal}
use Rattle.mseed_stream.specs.Device.{BytesWritten}
use Rattle.mseed_text.specs.Fault.{fault_line}
use Rattle.mseed_text.specs.Name.{name_text}
use Rattle.mseed_join.specs.declared.bad_field.Field.{Field}
use Rattle.mseed_join.specs.declared.bad_field.Field.TheVariants.{Key, Records, Samples, HeadNumber, HeadOffset}
use Rattle.mseed_join.specs.declared.bad_field.Field.TheVariants.{HeadStart, HeadRate, TailStart, TailSamples}
use Rattle.mseed_join.specs.declared.bad_field.Field.TheVariants.{TailRate, TailLeap, Findings, First, AllRecords}
use Rattle.mseed_join.specs.declared.bad_field.Field.TheVariants.{AllBytes}
use Rattle.mseed_join.specs.declared.flaw.Closing.{Closing}
use Rattle.mseed_join.specs.declared.flaw.Closing.TheVariants.{Faults, Fault, Neither}
use Rattle.mseed_join.specs.declared.flaw.Flaw.{Flaw}
use Rattle.mseed_join.specs.declared.flaw.Flaw.TheVariants.{Beginning, Row, Order, Ending, Limit, Long, Unended}
use Rattle.mseed_join.specs.declared.flaw.Flaw.TheVariants.{Missing}
use Rattle.mseed_join.specs.declared.joining.Joined.{Joined}
use Rattle.mseed_join.specs.declared.fault.JoinFault.{JoinFault}
use Rattle.mseed_join.specs.declared.fault.JoinFault.TheVariants.{Line, Count, Stream, Write, Memory}
use Rattle.mseed.specs.Blame.{join_blame}
use Rattle.mseed_files.specs.InputFiles.{no_memory}
use Rattle.mseed.specs.Outcome.{EndsBy, Report, with_line, without_line, write_failed}
use Rattle.mseed_files.specs.declared.blame.Blame.TheVariants.{Nothing}
use Rattle.mseed.specs.declared.outcome.Ended.{Ended}

-- the exit status: that of the audit, where its text or its part was written
abbrev pub joined_status : Joined → ℕ
joined_status joined = if joined.fault then 2 else if nat_lt 0 joined.broken then 1 else 0

-- a field of a channel's line or of that of the counts
abbrev pub field_name : Field → List ℕ
field_name Key = codes "key"
field_name Records = codes "records"
field_name Samples = codes "samples"
field_name HeadNumber = codes "number"
field_name HeadOffset = codes "offset"
field_name HeadStart = codes "start"
field_name HeadRate = codes "rate"
field_name TailStart = codes "start"
field_name TailSamples = codes "samples"
field_name TailRate = codes "rate"
field_name TailLeap = codes "leap"
field_name Findings = codes "findings"
field_name First = codes "first"
field_name AllRecords = codes "records"
field_name AllBytes = codes "bytes"

-- where it stands
abbrev pub field_place : Field → List ℕ
field_place Key = codes "line of a channel"
field_place Records = codes "line of a channel"
field_place Samples = codes "line of a channel"
field_place HeadNumber = codes "head of a channel"
field_place HeadOffset = codes "head of a channel"
field_place HeadStart = codes "head of a channel"
field_place HeadRate = codes "head of a channel"
field_place TailStart = codes "tail of a channel"
field_place TailSamples = codes "tail of a channel"
field_place TailRate = codes "tail of a channel"
field_place TailLeap = codes "tail of a channel"
field_place Findings = codes "line of a channel"
field_place First = codes "line of a channel"
field_place AllRecords = codes "line of the counts"
field_place AllBytes = codes "line of the counts"

-- and what would be right
abbrev pub field_right : Field → List ℕ
field_right Key = codes "it is 24 digits 0-9A-F, or the counts are as records 2 bytes 256"
field_right Records = codes "they are as records 2, from 0 to 9223372036854775807"
field_right Samples = codes "they are as samples 32, from 0 to 9223372036854775807"
field_right HeadNumber = codes "it is as head 1 0 1704067200000000 20/1, or head none"
field_right HeadOffset = codes "it is from 0 to 9223372036854775807"
field_right HeadStart = codes "it is as 1704067200000000, microseconds from 1970, of the years 1800 to 2199"
field_right HeadRate = codes "it is as 20/1, each from 1 to 1073741824"
field_right TailStart = codes "it is as tail 1704067200000000 16 20/1 none, or tail none"
field_right TailSamples = codes "they are from 1 to 65535"
field_right TailRate = codes "it is as 20/1, each from 1 to 1073741824"
field_right TailLeap = codes "it is none, positive, negative or both"
field_right Findings = codes "they are as findings 1, and 0 only with a head and a tail"
field_right First = codes "where findings are not 0 it ends the line, as first 2 128 gap 25001"
field_right AllRecords = codes "they are as records 2, from 0 to 9223372036854775807"
field_right AllBytes = codes "they end it, as bytes 256, from 0 to 9223372036854775807"

-- the first bad field, and what would be right; a line that has no key and doesn't begin as the counts is neither
abbrev pub field_text : Field → List ℕ
field_text f = codes "bad " ++ field_name f ++ codes " in the " ++ field_place f ++ codes "; " ++ field_right f

-- what a line after the counts is not, and what would be right
abbrev pub closing_text : Closing → List ℕ
closing_text Faults = codes "bad faults after the counts; they come once, as faults 2, from 1 to 9223372036854775807"
closing_text Fault =
    codes "bad fault at after the counts; it is as fault at 256 notdata, and has the bytes of the counts"
closing_text Neither = codes "neither faults of this part nor the beginning of the next; that is mseed part 1"

-- what is wrong with a line of a part, and what would be right
abbrev pub flaw_text : Flaw → List ℕ
flaw_text Beginning = codes "no beginning of a part; that is mseed part 1"
flaw_text (Row field) = field_text field
flaw_text (Order key) = name_text key ++ codes " is out of order; channels ascend by their keys"
flaw_text (Ending closing) = closing_text closing
flaw_text Limit = codes "a sum passes 9223372036854775807, the most that a number can be"
flaw_text Long = codes "no LF within 512 bytes; no line is longer"
flaw_text Unended = codes "no LF at the end of the input; each line ends with one"
flaw_text Missing = codes "the input ends within a part; the counts are missing, as records 2 bytes 256"

-- the line of a bad line of a part, and one more, which says what is wrong with it
abbrev pub bad_line_text : ℕ → Flaw → List ℕ
bad_line_text number flaw =
    codes "mseed: bad part at line " ++ decimal number ++ codes "\nmseed: " ++ flaw_text flaw ++ codes "\n"

-- the line of a fault; of a bad line these two
abbrev pub join_fault_text : JoinFault → List ℕ
join_fault_text (Line number offset flaw) = bad_line_text number flaw
join_fault_text (Count parts expected) =
    codes "mseed: " ++ decimal parts ++ codes " parts, not " ++ decimal expected ++ codes "\n"
join_fault_text (Stream fault) = codes "mseed: " ++ fault_line fault
join_fault_text Write = write_failed
join_fault_text Memory = no_memory

-- after the lines of the faults that were passed
abbrev pub join_report : Result Joined JoinFault → Report
join_report (Ok joined) = without_line (joined_status joined) Nothing
join_report (Err fault) = with_line 2 (join_fault_text fault) (join_blame fault)

abbrev pub EndsJoin : Result Joined JoinFault → Ended → BytesWritten → BytesWritten → Type 0
EndsJoin outcome ended old new = EndsBy (join_report outcome) ended old new
