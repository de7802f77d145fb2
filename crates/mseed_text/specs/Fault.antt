-- The line of a stream's fault.
use Rattle.std.specs.Prelude.{ℕ, List, [], ◌++◌, codes, decimal, Option, Some, None}
use Rattle.mseed_record.specs.declared.fault.FrameFault.{FrameFault}
use Rattle.mseed_record.specs.declared.fault.FrameFault.TheVariants.{NotData, Order as NoOrder, Chain, No1000, Length}
use Rattle.mseed_record.specs.declared.fault.FrameFault.TheVariants.{Outside, Version3}
use Rattle.mseed_stream.specs.declared.fault.StreamFault.{StreamFault}
use Rattle.mseed_stream.specs.declared.fault.StreamFault.TheVariants.{Frame, Truncated, Read, Turns, Memory}

-- why bytes begin no record
abbrev pub frame_words : FrameFault → List ℕ
frame_words NotData = codes "notdata"
frame_words NoOrder = codes "order"
frame_words Chain = codes "chain"
frame_words No1000 = codes "no1000"
frame_words (Length e) = codes "length " ++ decimal e
frame_words Outside = codes "outside"
frame_words Version3 = codes "version3"

-- the line of a stream's fault: a want of memory has none
abbrev pub fault_line : StreamFault → List ℕ
fault_line (Frame offset f) = codes "fault at " ++ decimal offset ++ codes " " ++ frame_words f ++ codes "\n"
fault_line (Truncated offset have) = codes "fault at " ++ decimal offset ++ codes " truncated " ++ decimal have
    ++ codes "\n"
fault_line (Read offset) = codes "fault at " ++ decimal offset ++ codes " read\n"
fault_line (Turns offset) = codes "fault at " ++ decimal offset ++ codes " turns\n"
fault_line Memory = []

-- the line at the end of a text, where the input ends with a fault
abbrev pub end_line : Option StreamFault → List ℕ
end_line None = []
end_line (Some fault) = fault_line fault
