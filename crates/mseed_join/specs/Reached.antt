-- How far parts were read that are read line by line, and what is reported of them on the way.
use Rattle.std.specs.Prelude.{⊤, ◌≡◌, ◌+◌, ℕ, List, [], ◌∷◌, ◌++◌, codes, decimal, Bool, true, false}
use Rattle.std.specs.Prelude.{Option, Some, None, ◌⊎◌}
use Rattle.std.specs.List.{AllByRecursion}
use Rattle.mseed_stream.specs.Device.{BytesWritten}
use Rattle.mseed_stream.specs.LineWritten.{WritesLine}
use Rattle.mseed_stream.specs.declared.fault.StreamFault.{StreamFault}
use Rattle.mseed_audit.specs.declared.channel.Channel.{Channel}
use Rattle.mseed_text.specs.Fault.{fault_line}
use Rattle.mseed_join.specs.Parts.{channels_alone}
use Rattle.mseed_join.specs.Lines.{header_line}
use Rattle.mseed_join.specs.Joined.{AreLines}
use Rattle.mseed_join.specs.Written.{HasText, Written, channel_lines, part_text, texts}

-- ---- how far parts were read
-- what stands after the parts that are over
pub data OpenPart : Type 0 where
  none : OpenPart
  -- a header, and these channels
  begun : List (List ℕ × Channel) → OpenPart
  -- a part that can be over; or the number of faults comes next, if it isn't there, or the fault
  whole : Written → OpenPart

-- the parts that are over, and what stands after them
pub record Stage : Type 0 where
  pub over : List Written
  pub last : OpenPart

-- nothing was read
abbrev pub start : Stage
start = record { over = []; last = none }

-- a part of these channels, of which no counts were read
abbrev pub begun_part : List (List ℕ × Channel) → Written
begun_part channels = record { part = channels_alone channels; faults = 0; end = None }

abbrev pub open_part : OpenPart → List Written
open_part none = []
open_part (begun channels) = begun_part channels ∷ []
open_part (whole w) = w ∷ []

-- all parts so far, with the one that has begun
abbrev pub parts_at : Stage → List Written
parts_at s = s.over ++ open_part s.last

abbrev pub open_text : OpenPart → List ℕ
open_text none = []
open_text (begun channels) = header_line ++ channel_lines channels
open_text (whole w) = part_text w

-- there are parts, and the last ends with a fault
pub record EndsByFault (over : List Written) : Type 0 where
  pub parts : List Written
  pub last : Written
  pub fault : StreamFault
  pub are : over ≡ parts ++ last ∷ []
  pub ends : last.end ≡ Some fault

-- what can stand after the parts that are over: nothing, before the first part or after a fault; a part that has begun;
-- or a whole one without a fault, which is over once the next part begins
abbrev pub IsWhere : List Written → OpenPart → Type 0
IsWhere over none = (over ≡ []) ⊎ EndsByFault over
IsWhere over (begun channels) = ⊤
IsWhere over (whole w) = w.end ≡ None

-- these lines are parts up to here
pub record IsStage (lines : List ℕ) (s : Stage) : Type 0 where
  pub text : lines ≡ texts s.over ++ open_text s.last
  pub each : AllByRecursion HasText (parts_at s)
  pub is_where : IsWhere s.over s.last

-- ---- faults that are passed
-- the line of the fault with which the part of this number ends
abbrev pub passed_line : ℕ → StreamFault → List ℕ
passed_line number fault = codes "mseed: part " ++ decimal number ++ codes " " ++ fault_line fault

abbrev pub passed_of : ℕ → Option StreamFault → List (List ℕ)
passed_of number None = []
passed_of number (Some fault) = passed_line number fault ∷ []

-- the lines of the parts that end with a fault, of which the first has this number
abbrev pub passed_from : ℕ → List Written → List (List ℕ)
passed_from number [] = []
passed_from number (w ∷ ws) = passed_of number w.end ++ passed_from (number + 1) ws

-- where faults are passed, one for each, numbered from 1 over all parts
abbrev pub passed_lines : Bool → List Written → List (List ℕ)
passed_lines true ws = passed_from 1 ws
passed_lines false ws = []

-- lines were written, each as far as the device accepted it
pub data AreReported : List (List ℕ) → BytesWritten → BytesWritten → Type 0 where
  none : (s : BytesWritten) → AreReported [] s s
  one : (line : List ℕ) (lines : List (List ℕ)) (old now new : BytesWritten) → WritesLine line old now
      → AreReported lines now new → AreReported (line ∷ lines) old new

-- ---- what was read
-- `count` whole lines of parts, of these bytes that were read, up to this stage
pub record AreLinesRead (bytes : List ℕ) (count : ℕ) (s : Stage) : Type 0 where
  pub lines : List ℕ
  pub rest : List ℕ
  pub bytes_are : bytes ≡ lines ++ rest
  pub number : AreLines lines count
  pub stage : IsStage lines s
