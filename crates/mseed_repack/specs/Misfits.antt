-- What is said of a series that can't be packed in an encoding: why, by a number and in words, and what it holds.
use Rattle.std.specs.Prelude.{ℕ, ℤ, ◌+◌, ◌-◌, ◌^◌, List, [], ◌++◌, Option, None, Some, codes, decimal}
use Rattle.std.specs.Fmt.{signed_decimal}
use Rattle.mseed_time.specs.Ratios.{ratio_of}
use Rattle.mseed_time.specs.Text.{time_text}
use Rattle.mseed_text.specs.Name.{name_text}
use Rattle.mseed_text.specs.Time.{ratio_text}
use Rattle.mseed_time.specs.declared.rate.Rate.{Rate}
use Rattle.mseed_steim.specs.declared.encoding.Encoding.{Encoding}
use Rattle.mseed_steim.specs.declared.encoding.Encoding.TheVariants.{Int16, Int32, Steim1, Steim2}
use Rattle.mseed_pack.specs.declared.fault.PackFault.{PackFault}
use Rattle.mseed_pack.specs.declared.fault.PackFault.TheVariants.{Empty, RateTooHigh, TimeOutOfRange, SampleTooLarge}
use Rattle.mseed_pack.specs.declared.fault.PackFault.TheVariants.{DifferenceTooLarge, Write}

-- why a series can't be packed, by its place among the reasons
abbrev pub misfit_number : PackFault → ℕ
misfit_number Empty = 1
misfit_number (RateTooHigh rate) = 2
misfit_number (TimeOutOfRange index instant) = 3
misfit_number (SampleTooLarge index sample) = 4
misfit_number (DifferenceTooLarge index difference) = 5
misfit_number (Write taken) = 6

-- an encoding by the name that requests it
abbrev pub encoding_name : Encoding → List ℕ
encoding_name Int16 = codes "int16"
encoding_name Int32 = codes "int32"
encoding_name Steim1 = codes "steim1"
encoding_name Steim2 = codes "steim2"

-- the bits of a sample that it holds
abbrev pub sample_bits : Encoding → ℕ
sample_bits Int16 = 16
sample_bits Int32 = 32
sample_bits Steim1 = 32
sample_bits Steim2 = 32

-- and of a difference, where it writes differences: where it doesn't, any is held
abbrev pub difference_bits : Encoding → Option ℕ
difference_bits Int16 = None
difference_bits Int32 = None
difference_bits Steim1 = Some 32
difference_bits Steim2 = Some 30

-- the least and the greatest of the signed numbers of `bits` bits
abbrev pub range_text : ℕ → List ℕ
range_text bits = codes "-" ++ decimal (2 ^ (bits - 1)) ++ codes " to " ++ decimal (2 ^ (bits - 1) - 1)

-- which sample it is, counted from 1, what it or its difference is, and outside which numbers that lies
abbrev pub outside_text : Encoding → ℕ → ℕ → ℤ → List ℕ
outside_text e bits index value =
    decimal (index + 1) ++ codes " is " ++ signed_decimal value ++ codes ", outside " ++ range_text bits
    ++ codes ", which " ++ encoding_name e ++ codes " holds\n"

-- the line of a difference from the sample before that the encoding doesn't hold: none where it holds any
abbrev pub difference_line : Encoding → Option ℕ → ℕ → ℤ → List ℕ
difference_line e None index difference = []
difference_line e (Some bits) index difference =
    codes "mseed: the difference before sample " ++ outside_text e bits index difference

-- the line of a rate that is too high
abbrev pub rate_line : Rate → List ℕ
rate_line rate =
    codes "mseed: its rate is " ++ ratio_text (ratio_of rate)
    ++ codes " samples a second, over 500000, the most that is packed\n"

-- the line of a sample's time that lies in no year from 1900 to 2100: which sample it is, counted from 1, and when
abbrev pub time_line : ℕ → ℤ → List ℕ
time_line index instant =
    codes "mseed: the time of sample " ++ decimal (index + 1) ++ codes " is " ++ time_text instant
    ++ codes ", which rounded to 0.0001 seconds lies in no year from 1900 to 2100\n"

-- the line more that says why in words; of an output that failed, which is no misfit, there is none
abbrev pub misfit_more : Encoding → PackFault → List ℕ
misfit_more e Empty = codes "mseed: it has no samples\n"
misfit_more e (RateTooHigh rate) = rate_line rate
misfit_more e (TimeOutOfRange index instant) = time_line index instant
misfit_more e (SampleTooLarge index sample) = codes "mseed: sample " ++ outside_text e (sample_bits e) index sample
misfit_more e (DifferenceTooLarge index difference) = difference_line e (difference_bits e) index difference
misfit_more e (Write taken) = []

-- which stretch of a channel it is, by its number, where the channel is packed by stretches
abbrev pub stretch_words : Option ℕ → List ℕ
stretch_words None = []
stretch_words (Some number) = codes " stretch " ++ decimal number

-- the line about a channel that can't be packed, or of which a stretch can't
abbrev pub misfit_line : List ℕ → Option ℕ → PackFault → List ℕ
misfit_line key stretch fault =
    codes "mseed: " ++ name_text key ++ codes " does not fit " ++ decimal (misfit_number fault)
    ++ stretch_words stretch ++ codes "\n"

-- that line and the line more, where such an encoding is requested
abbrev pub misfit_text : Encoding → List ℕ → Option ℕ → PackFault → List ℕ
misfit_text e key stretch fault = misfit_line key stretch fault ++ misfit_more e fault
