-- The lines of a part: their texts, and what has a line.
use Rattle.std.specs.Prelude.{⊤, ◌≡◌, ◌<◌, ◌^◌, ℕ, zero, suc, ◌+◌, ◌/◌, ◌%◌, nat_lt, if◌then◌else◌, List, [], ◌∷◌, ◌++◌}
use Rattle.std.specs.Prelude.{length, codes, decimal, ℤ, pos, negsuc, Option, Some, None, IfSome}
use Rattle.std.specs.Fmt.{signed_decimal}
use Rattle.std.specs.List.{AllByRecursion}
use Rattle.mseed_time.specs.Btime.{IsInstant}
use Rattle.mseed_time.specs.Rate.{IsRatio}
use Rattle.mseed_record.specs.declared.fault.FrameFault.{FrameFault}
use Rattle.mseed_record.specs.declared.fault.FrameFault.TheVariants.{NotData, Order as NoOrder, Chain, No1000, Length}
use Rattle.mseed_record.specs.declared.fault.FrameFault.TheVariants.{Outside, Version3}
use Rattle.mseed_record.specs.declared.leap.Leap.{Leap}
use Rattle.mseed_record.specs.declared.leap.Leap.TheVariants.{None as NoLeap, Positive, Negative, Both}
use Rattle.mseed_steim.specs.declared.fault.ReadFault.{ReadFault}
use Rattle.mseed_steim.specs.declared.fault.ReadFault.TheVariants.{Blockette100, Encoding, LittleSteim, DataOffset}
use Rattle.mseed_steim.specs.declared.fault.ReadFault.TheVariants.{Short, BadWord, Overflow, LastDiffers}
use Rattle.mseed_steim.specs.declared.fault.ReadFault.TheVariants.{Memory as NoMemory}
use Rattle.mseed_stream.specs.declared.fault.StreamFault.{StreamFault}
use Rattle.mseed_stream.specs.declared.fault.StreamFault.TheVariants.{Frame, Truncated, Read, Turns, Memory}
use Rattle.mseed_audit.specs.declared.finding.Finding.{Finding}
use Rattle.mseed_audit.specs.declared.finding.Why.{Why}
use Rattle.mseed_audit.specs.declared.finding.Why.TheVariants.{Time, Rate, Read as ReadFailed, RateChange}
use Rattle.mseed_audit.specs.declared.finding.Why.TheVariants.{Leap as UnknownLeap, Gap, Overlap}
pub use Rattle.mseed_text.specs.Time.{ratio_text}
use Rattle.mseed_text.specs.Fault.{fault_line}
use Rattle.mseed_audit.specs.Text.{why_text}
use Rattle.mseed_audit.specs.declared.channel.Channel.{Channel}
use Rattle.mseed_audit.specs.declared.channel.Findings.{Findings}
use Rattle.mseed_audit.specs.declared.channel.Findings.TheVariants.{Nothing, Counted}
use Rattle.mseed_audit.specs.declared.channel.Head.{Head}
use Rattle.mseed_audit.specs.declared.tail.Tail.{Tail}

-- the line before all others
abbrev pub header_line : List ℕ
header_line = codes "mseed part 1\n"

-- a digit of 0-9A-F
abbrev pub hex_digit : ℕ → ℕ
hex_digit n = if nat_lt n 10 then 48 + n else 55 + n

-- a key: two digits for each of its bytes
abbrev pub key_text : List ℕ → List ℕ
key_text [] = []
key_text (b ∷ bs) = hex_digit (b / 16) ∷ hex_digit (b % 16) ∷ key_text bs

abbrev pub leap_text : Leap → List ℕ
leap_text NoLeap = codes "none"
leap_text Positive = codes "positive"
leap_text Negative = codes "negative"
leap_text Both = codes "both"

-- <number> <offset> <start> <num>/<den>
abbrev pub head_text : Head → List ℕ
head_text h =
    decimal h.number ++ codes " " ++ decimal h.offset ++ codes " " ++ signed_decimal h.start ++ codes " "
    ++ ratio_text h.rate

-- <start> <samples> <num>/<den> <leap>
abbrev pub tail_text : Tail → List ℕ
tail_text t =
    signed_decimal t.start ++ codes " " ++ decimal t.samples ++ codes " " ++ ratio_text t.rate ++ codes " "
    ++ leap_text t.leap

-- what isn't there is `none`
abbrev pub text_or_none : {X : Type 0} → (X → List ℕ) → Option X → List ℕ
text_or_none text None = codes "none"
text_or_none text (Some x) = text x

-- first <number> <offset> <why>
abbrev pub first_text : Finding → List ℕ
first_text f = codes "first " ++ decimal f.number ++ codes " " ++ decimal f.offset ++ codes " " ++ why_text f.why

-- how a channel begins and ends, and what is found of it
abbrev pub findings_text : Findings → List ℕ
findings_text (Nothing head tail) =
    codes " head " ++ head_text head ++ codes " tail " ++ tail_text tail ++ codes " findings 0"
findings_text (Counted count first head tail) =
    codes " head " ++ text_or_none head_text head ++ codes " tail " ++ text_or_none tail_text tail
    ++ codes " findings " ++ decimal count ++ codes " " ++ first_text first

-- a channel's line
abbrev pub channel_line : List ℕ → Channel → List ℕ
channel_line key c =
    key_text key ++ codes " records " ++ decimal c.records ++ codes " samples " ++ decimal c.samples
    ++ findings_text c.findings ++ codes "\n"

-- how many records there are, and how many bytes
abbrev pub counts_line : ℕ → ℕ → List ℕ
counts_line records bytes = codes "records " ++ decimal records ++ codes " bytes " ++ decimal bytes ++ codes "\n"

-- how many faults were passed, if any was
abbrev pub faults_line : ℕ → List ℕ
faults_line zero = []
faults_line (suc n) = codes "faults " ++ decimal (suc n) ++ codes "\n"

-- ---- what has a line
pub record HasHead (h : Head) : Type 0 where
  pub number : h.number < 2 ^ 63
  pub offset : h.offset < 2 ^ 63
  pub start : IsInstant h.start
  pub rate : IsRatio h.rate

pub record HasTail (t : Tail) : Type 0 where
  pub start : IsInstant t.start
  pub some : 0 < t.samples
  pub samples : t.samples < 2 ^ 16
  pub rate : IsRatio t.rate

-- 32 bits with a sign
abbrev pub IsWord : ℤ → Type 0
IsWord (pos n) = n < 2 ^ 31
IsWord (negsuc n) = n < 2 ^ 31

-- a want of memory is no finding
abbrev pub HasReadFault : ReadFault → Type 0
HasReadFault Blockette100 = ⊤
HasReadFault (Encoding code) = code < 2 ^ 8
HasReadFault LittleSteim = ⊤
HasReadFault DataOffset = ⊤
HasReadFault (Short found) = found < 2 ^ 63
HasReadFault (BadWord frame word) = (frame < 2 ^ 63) × (word < 2 ^ 63)
HasReadFault (Overflow index) = index < 2 ^ 63
HasReadFault (LastDiffers found constant) = IsWord found × IsWord constant
HasReadFault NoMemory = ⊥

abbrev pub HasWhy : Why → Type 0
HasWhy (Time fault) = ⊤
HasWhy Rate = ⊤
HasWhy (ReadFailed fault) = HasReadFault fault
HasWhy RateChange = ⊤
HasWhy UnknownLeap = ⊤
HasWhy (Gap us) = us < 2 ^ 128
HasWhy (Overlap us) = us < 2 ^ 128

pub record HasFinding (f : Finding) : Type 0 where
  pub number : f.number < 2 ^ 63
  pub offset : f.offset < 2 ^ 63
  pub why : HasWhy f.why

abbrev pub HasFindings : Findings → Type 0
HasFindings (Nothing head tail) = HasHead head × HasTail tail
HasFindings (Counted count first head tail) =
    (0 < count) × (count < 2 ^ 63) × HasFinding first × IfSome head HasHead × IfSome tail HasTail

-- a channel of this key has a line
pub record HasChannelLine (key : List ℕ) (c : Channel) : Type 0 where
  pub key_length : length key ≡ 12
  pub key_bytes : AllByRecursion (λ b. b < 2 ^ 8) key
  pub records : c.records < 2 ^ 63
  pub samples : c.samples < 2 ^ 63
  pub findings : HasFindings c.findings

pub record HasCountsLine (records bytes : ℕ) : Type 0 where
  pub records_fit : records < 2 ^ 63
  pub bytes_fit : bytes < 2 ^ 63

-- this number of faults has a line
pub record HasFaultsLine (faults : ℕ) : Type 0 where
  pub some : 0 < faults
  pub fit : faults < 2 ^ 63

abbrev pub HasFrameFault : FrameFault → Type 0
HasFrameFault NotData = ⊤
HasFrameFault NoOrder = ⊤
HasFrameFault Chain = ⊤
HasFrameFault No1000 = ⊤
HasFrameFault (Length exponent) = exponent < 2 ^ 8
HasFrameFault Outside = ⊤
HasFrameFault Version3 = ⊤

-- a fault after `bytes` bytes; a want of memory isn't one
abbrev pub IsFaultAfter : ℕ → StreamFault → Type 0
IsFaultAfter bytes (Frame offset fault) = (offset ≡ bytes) × HasFrameFault fault
IsFaultAfter bytes (Truncated offset have) = (offset ≡ bytes) × (have < 2 ^ 63)
IsFaultAfter bytes (Read offset) = offset ≡ bytes
IsFaultAfter bytes (Turns offset) = offset ≡ bytes
IsFaultAfter bytes Memory = ⊥

-- a fault after `bytes` bytes has a line
pub record HasFaultLine (bytes : ℕ) (fault : StreamFault) : Type 0 where
  pub bytes_fit : bytes < 2 ^ 63
  pub is : IsFaultAfter bytes fault

-- ---- the lines of all kinds
pub data Line : Type 0 where
  header : Line
  channel : List ℕ → Channel → Line
  counts : ℕ → ℕ → Line
  faults : ℕ → Line
  fault : ℕ → StreamFault → Line

-- the text of a line
abbrev pub text_of_line : Line → List ℕ
text_of_line header = header_line
text_of_line (channel key c) = channel_line key c
text_of_line (counts records bytes) = counts_line records bytes
text_of_line (faults n) = faults_line n
text_of_line (fault bytes f) = fault_line f

-- it is within the ranges of a part
abbrev pub IsLine : Line → Type 0
IsLine header = ⊤
IsLine (channel key c) = HasChannelLine key c
IsLine (counts records bytes) = HasCountsLine records bytes
IsLine (faults n) = HasFaultsLine n
IsLine (fault bytes f) = HasFaultLine bytes f
