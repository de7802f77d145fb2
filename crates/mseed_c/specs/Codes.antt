-- The codes that calls return, and the numbers that belong to them. 0 is done, 1 and 2 are the statuses of an audit, 3
-- is refused memory; 80 to 82, of a selection that can't be asked for, are in `Asked`.
use Rattle.std.specs.Prelude.{⊤, ℕ, pos, Result, Ok, Err}
use Rattle.mseed_record.specs.declared.fault.FrameFault.{FrameFault}
use Rattle.mseed_record.specs.declared.fault.FrameFault.TheVariants.{NotData, Order, Chain, No1000, Length, Outside}
use Rattle.mseed_record.specs.declared.fault.FrameFault.TheVariants.{Version3}
use Rattle.mseed_steim.specs.declared.fault.ReadFault.{ReadFault}
use Rattle.mseed_steim.specs.declared.fault.ReadFault.TheVariants.{Blockette100, Encoding, LittleSteim, DataOffset}
use Rattle.mseed_steim.specs.declared.fault.ReadFault.TheVariants.{Short}
use Rattle.mseed_steim.specs.declared.fault.ReadFault.TheVariants.{BadWord, Overflow, LastDiffers, Memory}
use Rattle.mseed_pack.specs.declared.options.BadOption.TheVariants.{Exponent, Encoding as NoEncoding, Sequence}
use Rattle.mseed_pack.specs.declared.fault.PackFault.{PackFault}
use Rattle.mseed_pack.specs.declared.fault.PackFault.TheVariants.{Empty, RateTooHigh, TimeOutOfRange, SampleTooLarge}
use Rattle.mseed_pack.specs.declared.fault.PackFault.TheVariants.{DifferenceTooLarge, Write}
use Rattle.mseed_c.specs.declared.codes.Stop.{Stop}
use Rattle.mseed_c.specs.declared.codes.Stop.TheVariants.{Rows, Room, Short as Lacking, Not}
use Rattle.mseed_c.specs.declared.codes.SampleFault.{SampleFault}
use Rattle.mseed_c.specs.declared.codes.SampleFault.TheVariants.{Read, Stop as Stopped}
use Rattle.mseed_c.specs.declared.codes.Refusal.{Refusal}
use Rattle.mseed_c.specs.declared.codes.Refusal.TheVariants.{Option as BadOption, Rate, Start, Leap}
use Rattle.mseed_c.specs.declared.codes.Detail.{Detail}

-- of bytes that begin no record
abbrev pub code_of_frame : FrameFault → ℕ
code_of_frame NotData = 16
code_of_frame Order = 17
code_of_frame Chain = 18
code_of_frame No1000 = 19
code_of_frame (Length exponent) = 20
code_of_frame Outside = 21
code_of_frame Version3 = 22

-- of a record whose samples can't be read
abbrev pub code_of_read : ReadFault → ℕ
code_of_read Memory = 3
code_of_read Blockette100 = 32
code_of_read (Encoding code) = 33
code_of_read LittleSteim = 34
code_of_read DataOffset = 35
code_of_read (Short found) = 36
code_of_read (BadWord frame word) = 37
code_of_read (Overflow index) = 38
code_of_read (LastDiffers found constant) = 39

-- of what ends a reading
abbrev pub code_of_stop : Stop → ℕ
code_of_stop Rows = 4
code_of_stop (Room places) = 5
code_of_stop (Lacking bytes) = 6
code_of_stop (Not fault) = code_of_frame fault

-- of the samples of one record
abbrev pub code_of : Result ℕ SampleFault → ℕ
code_of (Ok n) = 0
code_of (Err (Read fault)) = code_of_read fault
code_of (Err (Stopped stop)) = code_of_stop stop

-- of a heading that is refused
abbrev pub code_of_refusal : Refusal → ℕ
code_of_refusal (BadOption Exponent) = 64
code_of_refusal (BadOption NoEncoding) = 65
code_of_refusal (BadOption Sequence) = 66
code_of_refusal Rate = 67
code_of_refusal Start = 68
code_of_refusal Leap = 69

-- the reason is one of the series, and not of a sink
abbrev pub IsOfSeries : PackFault → Type 0
IsOfSeries (Write taken) = ⊥
IsOfSeries fault = ⊤

-- of a series that can't be packed
abbrev pub code_of_misfit : PackFault → ℕ
code_of_misfit (Write taken) = 3
code_of_misfit Empty = 48
code_of_misfit (RateTooHigh rate) = 49
code_of_misfit (TimeOutOfRange index instant) = 50
code_of_misfit (SampleTooLarge index sample) = 51
code_of_misfit (DifferenceTooLarge index difference) = 52

-- ---- numbers
-- one number
abbrev pub number : ℕ → Detail
number first = record { first = first; second = 0; found = pos 0; constant = pos 0 }

-- of a record whose samples can't be read: those of its reason
abbrev pub detail_of_read : ReadFault → Detail
detail_of_read (Encoding code) = number code
detail_of_read (Short found) = number found
detail_of_read (BadWord frame word) = record { first = frame; second = word; found = pos 0; constant = pos 0 }
detail_of_read (Overflow index) = number index
detail_of_read (LastDiffers found constant) = record { first = 0; second = 0; found = found; constant = constant }
detail_of_read fault = number 0

-- how many places or bytes a stop asks for, or the exponent that is out of its range
abbrev pub needed_by_frame : FrameFault → ℕ
needed_by_frame (Length exponent) = exponent
needed_by_frame fault = 0

abbrev pub needed_by : Stop → ℕ
needed_by Rows = 0
needed_by (Room places) = places
needed_by (Lacking bytes) = bytes
needed_by (Not fault) = needed_by_frame fault

-- of the samples of one record: how many there are, or those of the reason why there are none
abbrev pub detail_of : Result ℕ SampleFault → Detail
detail_of (Ok n) = number n
detail_of (Err (Read fault)) = detail_of_read fault
detail_of (Err (Stopped stop)) = number (needed_by stop)

-- which sample a misfit names; 0 where it names none
abbrev pub index_of : PackFault → ℕ
index_of (SampleTooLarge index sample) = index
index_of (DifferenceTooLarge index difference) = index
index_of fault = 0
