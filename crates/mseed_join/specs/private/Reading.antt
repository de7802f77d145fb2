-- Reading from left to right: what stands before it, and the bytes after it; or nothing.
use Rattle.std.specs.Prelude.{ℕ, zero, suc, ◌+◌, ◌-◌, ◌*◌, ◌^◌, ◌==◌, ◌&&◌, nat_le, nat_lt, nat_eq, Bool, if◌then◌else◌}
use Rattle.std.specs.Prelude.{List, [], ◌∷◌, ◌++◌, length, take, drop, codes, ℤ, pos, negsuc, Option, Some, None}
use Rattle.std.specs.Cmp.Lexicographic.{pointwise}
use Rattle.mseed_time.specs.Rate.{Ratio}
use Rattle.mseed_time.specs.Text.{fault_word}
use Rattle.mseed_time.specs.declared.fault.TimeFault.{TimeFault}
use Rattle.mseed_time.specs.declared.fault.TimeFault.TheVariants.{Year, Day, Hour, Minute, Second, Fraction}
use Rattle.mseed_record.specs.declared.fault.FrameFault.{FrameFault}
use Rattle.mseed_record.specs.declared.fault.FrameFault.TheVariants.{NotData, Order as NoOrder, Chain, No1000, Length}
use Rattle.mseed_record.specs.declared.fault.FrameFault.TheVariants.{Outside, Version3}
use Rattle.mseed_record.specs.declared.leap.Leap.{Leap}
use Rattle.mseed_record.specs.declared.leap.Leap.TheVariants.{None as NoLeap, Positive, Negative, Both}
use Rattle.mseed_steim.specs.declared.fault.ReadFault.{ReadFault}
use Rattle.mseed_steim.specs.declared.fault.ReadFault.TheVariants.{Blockette100, Encoding, LittleSteim, DataOffset}
use Rattle.mseed_steim.specs.declared.fault.ReadFault.TheVariants.{Short, BadWord, Overflow, LastDiffers}
use Rattle.mseed_stream.specs.declared.fault.StreamFault.{StreamFault}
use Rattle.mseed_stream.specs.declared.fault.StreamFault.TheVariants.{Frame, Truncated, Read, Turns}
use Rattle.mseed_audit.specs.declared.finding.Finding.{Finding}
use Rattle.mseed_audit.specs.declared.finding.Why.{Why}
use Rattle.mseed_audit.specs.declared.finding.Why.TheVariants.{Time, Rate, Read as ReadFailed, RateChange}
use Rattle.mseed_audit.specs.declared.finding.Why.TheVariants.{Leap as UnknownLeap, Gap, Overlap}
use Rattle.mseed_audit.specs.declared.channel.Channel.{Channel}
use Rattle.mseed_audit.specs.declared.channel.Findings.{Findings}
use Rattle.mseed_audit.specs.declared.channel.Findings.TheVariants.{Nothing, Counted}
use Rattle.mseed_audit.specs.declared.channel.Head.{Head}
use Rattle.mseed_audit.specs.declared.tail.Tail.{Tail}
use Rattle.mseed_join.specs.Lines.{leap_text}

infixl 10 ◌>>=◌
abbrev pub ◌>>=◌ : {A B : Type 0} → Option A → (A → Option B) → Option B
None >>= f = None
(Some x) >>= f = f x

-- the first that answers
abbrev pub else_by : {X : Type 0} → Option X → Option X → Option X
else_by (Some x) o = Some x
else_by None o = o

-- a word
abbrev pub after : List ℕ → List ℕ → Option (List ℕ)
after word bytes =
    if pointwise nat_eq (take (length word) bytes) word then Some (drop (length word) bytes) else None

-- this word, which stands for this
abbrev pub word_at : {X : Type 0} → List ℕ → X → List ℕ → Option (X × List ℕ)
word_at word x bytes = after word bytes >>= λ rest. Some (x, rest)

-- the first of these whose word the bytes begin with
abbrev pub named_at : {X : Type 0} → (X → List ℕ) → List X → List ℕ → Option (X × List ℕ)
named_at word [] bytes = None
named_at word (x ∷ xs) bytes = else_by (word_at (word x) x bytes) (named_at word xs bytes)

-- ---- numbers
abbrev pub is_digit : ℕ → Bool
is_digit b = nat_le 48 b && nat_le b 57

-- further digits of a number
abbrev pub more_at : ℕ → List ℕ → ℕ × List ℕ
more_at n [] = (n, [])
more_at n (b ∷ bs) = if is_digit b then more_at (10 * n + (b - 48)) bs else (n, b ∷ bs)

abbrev pub within : ℕ → ℕ × List ℕ → Option (ℕ × List ℕ)
within largest x = if nat_le x.0 largest then Some x else None

-- a number that is at most so large, without leading zeros
unfoldable pub number_at : ℕ → List ℕ → Option (ℕ × List ℕ)
number_at largest [] = None
number_at largest (b ∷ bs) =
    if b == 48 then Some (0, bs) else if is_digit b then within largest (more_at (b - 48) bs) else None

abbrev pub negated : ℕ × List ℕ → Option (ℤ × List ℕ)
negated (zero, rest) = None
negated (suc n, rest) = Some (negsuc n, rest)

-- a number that is at most so large, or `-` and one that isn't 0 and at most so large
unfoldable pub integer_at : ℕ → ℕ → List ℕ → Option (ℤ × List ℕ)
integer_at below above [] = None
integer_at below above (b ∷ bs) =
    if b == 45 then (number_at below bs >>= negated)
    else (number_at above (b ∷ bs) >>= λ n. Some (pos n.0, n.1))

-- the number after a word
abbrev pub number_after : List ℕ → ℕ → List ℕ → Option (ℕ × List ℕ)
number_after word largest bytes = after word bytes >>= number_at largest

abbrev pub counted_at : {X : Type 0} → List ℕ → ℕ → (ℕ → X) → List ℕ → Option (X × List ℕ)
counted_at word largest made bytes = number_after word largest bytes >>= λ n. Some (made n.0, n.1)

-- ---- a key
-- the value of a digit of 0-9A-F
abbrev pub nibble_of : ℕ → Option ℕ
nibble_of b =
    if is_digit b then Some (b - 48) else if nat_le 65 b && nat_le b 70 then Some (b - 55) else None

-- a byte by its two digits
abbrev pub byte_at : List ℕ → Option (ℕ × List ℕ)
byte_at [] = None
byte_at (h ∷ []) = None
byte_at (h ∷ l ∷ rest) = nibble_of h >>= λ high. nibble_of l >>= λ low. Some (16 * high + low, rest)

-- so many further bytes
abbrev pub bytes_at : ℕ → List ℕ → List ℕ → Option (List ℕ × List ℕ)
bytes_at zero done bytes = Some (done, bytes)
bytes_at (suc n) done bytes = byte_at bytes >>= λ b. bytes_at n (done ++ b.0 ∷ []) b.1

abbrev pub key_at : List ℕ → Option (List ℕ × List ℕ)
key_at bytes = bytes_at 12 [] bytes

-- ---- fields
unfoldable pub ratio_at : List ℕ → Option (Ratio × List ℕ)
ratio_at bytes = do
  num ← number_at (2 ^ 30) bytes
  rest ← after (codes "/") num.1
  den ← number_at (2 ^ 30) rest
  if nat_lt 0 num.0 && nat_lt 0 den.0 then Some (record { num = num.0; den = den.0 }, den.1) else None

-- an instant of the years 1800 to 2199
abbrev pub start_at : List ℕ → Option (ℤ × List ℕ)
start_at bytes = integer_at 5_364_662_400_000_000 7_258_118_399_999_999 bytes

-- 32 bits with a sign
abbrev pub sample_at : List ℕ → Option (ℤ × List ℕ)
sample_at bytes = integer_at (2 ^ 31) (2 ^ 31 - 1) bytes

unfoldable pub leap_at : List ℕ → Option (Leap × List ℕ)
leap_at bytes = named_at leap_text (NoLeap ∷ Positive ∷ Negative ∷ Both ∷ []) bytes

unfoldable pub some_head_at : List ℕ → Option (Head × List ℕ)
some_head_at bytes = do
  number ← number_at (2 ^ 63 - 1) bytes
  offset ← number_after (codes " ") (2 ^ 63 - 1) number.1
  rest ← after (codes " ") offset.1
  start ← start_at rest
  rest ← after (codes " ") start.1
  rate ← ratio_at rest
  Some (record { number = number.0; offset = offset.0; start = start.0; rate = rate.0 }, rate.1)

unfoldable pub some_tail_at : List ℕ → Option (Tail × List ℕ)
some_tail_at bytes = do
  start ← start_at bytes
  samples ← number_after (codes " ") (2 ^ 16 - 1) start.1
  rest ← after (codes " ") samples.1
  rate ← ratio_at rest
  rest ← after (codes " ") rate.1
  leap ← leap_at rest
  if nat_lt 0 samples.0
      then Some (record { start = start.0; samples = samples.0; rate = rate.0; leap = leap.0 }, leap.1) else None

-- what may be `none`
abbrev pub or_none_at : {X : Type 0} → (List ℕ → Option (X × List ℕ)) → List ℕ → Option (Option X × List ℕ)
or_none_at read bytes = else_by (word_at (codes "none") None bytes) (read bytes >>= λ x. Some (Some x.0, x.1))

unfoldable pub head_at : List ℕ → Option (Option Head × List ℕ)
head_at bytes = or_none_at some_head_at bytes

unfoldable pub tail_at : List ℕ → Option (Option Tail × List ℕ)
tail_at bytes = or_none_at some_tail_at bytes

-- ---- findings
unfoldable pub time_at : List ℕ → Option (TimeFault × List ℕ)
time_at bytes = named_at fault_word (Year ∷ Day ∷ Hour ∷ Minute ∷ Second ∷ Fraction ∷ []) bytes

abbrev pub bad_word_at : List ℕ → Option (ReadFault × List ℕ)
bad_word_at bytes = do
  frame ← number_after (codes "badword ") (2 ^ 63 - 1) bytes
  word ← number_after (codes " ") (2 ^ 63 - 1) frame.1
  Some (BadWord frame.0 word.0, word.1)

abbrev pub last_differs_at : List ℕ → Option (ReadFault × List ℕ)
last_differs_at bytes = do
  rest ← after (codes "lastdiffers ") bytes
  found ← sample_at rest
  rest ← after (codes " ") found.1
  constant ← sample_at rest
  Some (LastDiffers found.0 constant.0, constant.1)

unfoldable pub read_fault_at : List ℕ → Option (ReadFault × List ℕ)
read_fault_at bytes =
    else_by (word_at (codes "blockette100") Blockette100 bytes)
    (else_by (word_at (codes "littlesteim") LittleSteim bytes)
    (else_by (word_at (codes "dataoffset") DataOffset bytes)
    (else_by (counted_at (codes "encoding ") (2 ^ 8 - 1) Encoding bytes)
    (else_by (counted_at (codes "short ") (2 ^ 63 - 1) Short bytes)
    (else_by (counted_at (codes "overflow ") (2 ^ 63 - 1) Overflow bytes)
    (else_by (bad_word_at bytes) (last_differs_at bytes)))))))

abbrev pub timed_at : List ℕ → Option (Why × List ℕ)
timed_at bytes = do
  rest ← after (codes "time ") bytes
  fault ← time_at rest
  Some (Time fault.0, fault.1)

unfoldable pub why_at : List ℕ → Option (Why × List ℕ)
why_at bytes =
    else_by (counted_at (codes "gap ") (2 ^ 128 - 1) Gap bytes)
    (else_by (counted_at (codes "overlap ") (2 ^ 128 - 1) Overlap bytes)
    (else_by (word_at (codes "ratechange") RateChange bytes) (else_by (word_at (codes "leap") UnknownLeap bytes)
    (else_by (timed_at bytes) (else_by (word_at (codes "norate") Rate bytes)
    (read_fault_at bytes >>= λ fault. Some (ReadFailed fault.0, fault.1)))))))

unfoldable pub first_at : List ℕ → Option (Finding × List ℕ)
first_at bytes = do
  number ← number_after (codes " first ") (2 ^ 63 - 1) bytes
  offset ← number_after (codes " ") (2 ^ 63 - 1) number.1
  rest ← after (codes " ") offset.1
  why ← why_at rest
  Some (record { number = number.0; offset = offset.0; why = why.0 }, why.1)

-- by the number of findings
unfoldable pub counted_findings_at : ℕ → Option Head → Option Tail → List ℕ → Option (Findings × List ℕ)
counted_findings_at zero None tail bytes = None
counted_findings_at zero (Some head) None bytes = None
counted_findings_at zero (Some head) (Some tail) bytes = Some (Nothing head tail, bytes)
counted_findings_at (suc n) head tail bytes =
    first_at bytes >>= λ first. Some (Counted (suc n) first.0 head tail, first.1)

unfoldable pub findings_at : List ℕ → Option (Findings × List ℕ)
findings_at bytes = do
  rest ← after (codes " head ") bytes
  head ← head_at rest
  rest ← after (codes " tail ") head.1
  tail ← tail_at rest
  count ← number_after (codes " findings ") (2 ^ 63 - 1) tail.1
  counted_findings_at count.0 head.0 tail.0 count.1

-- ---- whole lines
-- a line ends here
abbrev pub ends : List ℕ → Bool
ends bytes = pointwise nat_eq bytes (codes "\n")

unfoldable pub channel_at : List ℕ → Option (List ℕ × Channel)
channel_at bytes = do
  key ← key_at bytes
  records ← number_after (codes " records ") (2 ^ 63 - 1) key.1
  samples ← number_after (codes " samples ") (2 ^ 63 - 1) records.1
  findings ← findings_at samples.1
  if ends findings.1
      then Some (key.0, record { records = records.0; samples = samples.0; findings = findings.0 }) else None

unfoldable pub counts_at : List ℕ → Option (ℕ × ℕ)
counts_at bytes = do
  records ← number_after (codes "records ") (2 ^ 63 - 1) bytes
  held ← number_after (codes " bytes ") (2 ^ 63 - 1) records.1
  if ends held.1 then Some (records.0, held.0) else None

unfoldable pub faults_at : List ℕ → Option ℕ
faults_at bytes = do
  faults ← number_after (codes "faults ") (2 ^ 63 - 1) bytes
  if nat_lt 0 faults.0 && ends faults.1 then Some faults.0 else None

unfoldable pub frame_fault_at : List ℕ → Option (FrameFault × List ℕ)
frame_fault_at bytes =
    else_by (word_at (codes "notdata") NotData bytes) (else_by (word_at (codes "order") NoOrder bytes)
    (else_by (word_at (codes "chain") Chain bytes) (else_by (word_at (codes "no1000") No1000 bytes)
    (else_by (counted_at (codes "length ") (2 ^ 8 - 1) Length bytes)
    (else_by (word_at (codes "outside") Outside bytes) (word_at (codes "version3") Version3 bytes))))))

-- what fails after so many bytes
unfoldable pub stream_fault_at : ℕ → List ℕ → Option (StreamFault × List ℕ)
stream_fault_at offset bytes =
    else_by (counted_at (codes "truncated ") (2 ^ 63 - 1) (λ have. Truncated offset have) bytes)
    (else_by (word_at (codes "read") (Read offset) bytes) (else_by (word_at (codes "turns") (Turns offset) bytes)
    (frame_fault_at bytes >>= λ fault. Some (Frame offset fault.0, fault.1))))

unfoldable pub fault_at : List ℕ → ℕ → Option StreamFault
fault_at bytes offset = do
  at ← number_after (codes "fault at ") (2 ^ 63 - 1) bytes
  rest ← after (codes " ") at.1
  fault ← stream_fault_at offset rest
  if at.0 == offset && ends fault.1 then Some fault.0 else None
