-- What is written reads back.
use Rattle.std.proofs.Common.{◌≡◌, ℕ, zero, suc, ◌-◌, ◌^◌, ◌<◌, ◌≤◌, nat_lt, List, ◌∷◌, ◌++◌, true, false}
use Rattle.std.proofs.Common.{Option, Some, None, ℤ, refl, ap, ◌∙◌, arith, IfSome}
use Rattle.std.specs.Prelude.{decimal, codes, nat_eq}
use Rattle.std.specs.Fmt.{signed_decimal}
use Rattle.std.proofs.lemmas.Bool.{lt-ltb}
use Rattle.std.proofs.lemmas.Bool.Decides.{nat_tests}
use Rattle.mseed_time.specs.Btime.{IsInstant}
use Rattle.mseed_time.specs.Rate.{Ratio, IsRatio}
use Rattle.mseed_time.specs.Text.{fault_word}
use Rattle.mseed_time.specs.declared.fault.TimeFault.{TimeFault}
use Rattle.mseed_record.specs.declared.fault.FrameFault.{FrameFault}
use Rattle.mseed_record.specs.declared.leap.Leap.{Leap}
use Rattle.mseed_steim.specs.declared.fault.ReadFault.{ReadFault}
use Rattle.mseed_steim.specs.declared.fault.ReadFault.TheVariants.{Encoding}
use Rattle.mseed_steim.specs.declared.fault.ReadFault.TheVariants.{Short, BadWord, Overflow, LastDiffers}
use Rattle.mseed_steim.specs.declared.fault.ReadFault.TheVariants.{Memory as NoMemory}
use Rattle.mseed_stream.specs.declared.fault.StreamFault.{StreamFault}
use Rattle.mseed_audit.specs.declared.finding.Finding.{Finding}
use Rattle.mseed_audit.specs.declared.finding.Why.{Why}
use Rattle.mseed_text.specs.Fault.{frame_words, fault_line}
use Rattle.mseed_audit.specs.Text.{why_text, read_text}
use Rattle.mseed_audit.specs.declared.channel.Channel.{Channel}
use Rattle.mseed_audit.specs.declared.channel.Findings.{Findings}
use Rattle.mseed_audit.specs.declared.channel.Findings.TheVariants.{Nothing, Counted}
use Rattle.mseed_audit.specs.declared.channel.Head.{Head}
use Rattle.mseed_audit.specs.declared.tail.Tail.{Tail}
use Rattle.mseed_join.specs.Lines.{leap_text, head_text, tail_text, text_or_none, findings_text, channel_line}
use Rattle.mseed_join.specs.Lines.{counts_line, faults_line, IsWord, HasHead, HasTail, HasReadFault, HasWhy}
use Rattle.mseed_join.specs.Lines.{HasFinding}
use Rattle.mseed_join.specs.Lines.{HasFindings, HasChannelLine, HasCountsLine, HasFaultsLine, HasFrameFault}
use Rattle.mseed_join.specs.Lines.{HasFaultLine, IsFaultAfter}
use Rattle.mseed_join.specs.private.Reading.{after, number_at, ratio_at, start_at, sample_at, leap_at}
use Rattle.mseed_join.specs.private.Reading.{some_head_at}
use Rattle.mseed_join.specs.private.Reading.{some_tail_at, head_at, tail_at, time_at, read_fault_at, why_at}
use Rattle.mseed_join.specs.private.Reading.{first_at}
use Rattle.mseed_join.specs.private.Reading.{counted_findings_at, findings_at, channel_at, counts_at, faults_at}
use Rattle.mseed_join.specs.private.Reading.{frame_fault_at, stream_fault_at, fault_at}
use Rattle.mseed_join.proofs.Digits.{Ends, Begins, begins, number_back, integer_back, IsWithin}
use Rattle.mseed_join.proofs.Prefixes.{ratio_then, head_then, head_leading, tail_then, tail_leading, first_then}
use Rattle.mseed_join.proofs.Prefixes.{findings_then, nothing_leading, counted_leading, channel_leading}
use Rattle.mseed_join.proofs.Prefixes.{counts_leading}
use Rattle.mseed_join.proofs.Prefixes.{faults_leading, fault_words, fault_of, findings_ends, bad_word_leading}
use Rattle.mseed_join.proofs.Prefixes.{last_differs_leading}
use Rattle.mseed_join.proofs.Keys.{key_back}

-- a number of a part
pub count_back : (n : ℕ) (rest : List ℕ) → n < 2 ^ 63 → Ends rest
    → number_at (2 ^ 63 - 1) (decimal n ++ rest) ≡ Some (n, rest)
count_back n rest l e = number_back (2 ^ 63 - 1) n rest (omega (arith, l)) (omega (arith, l)) e

-- ---- rates, starts, leap seconds
pub ratio_back : (r : Ratio) (rest : List ℕ) → IsRatio r → Ends rest → ratio_at (ratio_then r rest) ≡ Some (r, rest)
unfolding ratio_at
ratio_back r rest fits e = search (arith, nat_lt, lt-ltb, number_back)

pub instant_within : (z : ℤ) → IsInstant z → IsWithin 5_364_662_400_000_000 7_258_118_399_999_999 z
instant_within z h1 = grind arith

pub start_back : (z : ℤ) (rest : List ℕ) → IsInstant z → Ends rest → start_at (signed_decimal z ++ rest) ≡ Some (
  z,
  rest,
)
start_back z rest i e =
    integer_back 5_364_662_400_000_000 7_258_118_399_999_999 z rest (omega arith) (omega arith) (instant_within z i) e

pub word_within : (z : ℤ) → IsWord z → IsWithin (2 ^ 31) (2 ^ 31 - 1) z
word_within z h1 = grind arith

sample_back : (z : ℤ) (rest : List ℕ) → IsWord z → Ends rest → sample_at (signed_decimal z ++ rest) ≡ Some (z, rest)
sample_back z rest w e = integer_back (2 ^ 31) (2 ^ 31 - 1) z rest (omega arith) (omega arith) (word_within z w) e

pub leap_back : (l : Leap) (rest : List ℕ) → leap_at (leap_text l ++ rest) ≡ Some (l, rest)
unfolding leap_at
leap_back l rest = grind arith

-- ---- heads and tails
-- a first byte that isn't the word's
after_other : (w b : ℕ) (ws bs : List ℕ) → nat_eq b w ≡ false → after (w ∷ ws) (b ∷ bs) ≡ None
after_other w b ws bs e = search arith

other_digit : (b : ℕ) → b ≤ 57 → nat_eq b 110 ≡ false
other_digit b l = grind (arith, nat_tests)

pub digits_no_word : (n : ℕ) (rest : List ℕ) → n < 10 ^ 64 → after (codes "none") (decimal n ++ rest) ≡ None
digits_no_word n rest few =
    let b : Begins n = begins n few in
    ap (λ (ds : List ℕ). after (codes "none") (ds ++ rest)) b.is
    ∙ after_other 110 b.first (codes "one") (b.others ++ rest) (other_digit b.first b.high)

pub integer_no_word : (z : ℤ) (rest : List ℕ) → IsInstant z → after (codes "none") (signed_decimal z ++ rest) ≡ None
integer_no_word z rest h1 = grind (arith, digits_no_word, instant_within)

some_head_back : (h : Head) (rest : List ℕ) → HasHead h → Ends rest → some_head_at (head_then h rest) ≡ Some (h, rest)
unfolding some_head_at
some_head_back h rest fits e = search (arith, count_back, start_back, ratio_back)

pub head_back : (h : Option Head) (rest : List ℕ) → IfSome h HasHead → Ends rest
    → head_at (text_or_none head_text h ++ rest) ≡ Some (h, rest)
unfolding head_at
head_back h rest h1 h2 = grind (arith, ratio_then, head_leading, digits_no_word, some_head_back)

some_tail_back : (t : Tail) (rest : List ℕ) → HasTail t → some_tail_at (tail_then t rest) ≡ Some (t, rest)
unfolding some_tail_at
some_tail_back t rest fits =
    search (arith, start_back, number_back, ratio_back, leap_back, lt-ltb)

pub tail_back : (t : Option Tail) (rest : List ℕ) → IfSome t HasTail
    → tail_at (text_or_none tail_text t ++ rest) ≡ Some (t, rest)
unfolding tail_at
tail_back t rest h1 = grind (arith, ratio_then, tail_leading, integer_no_word, some_tail_back)

-- ---- findings
time_back : (f : TimeFault) (rest : List ℕ) → time_at (fault_word f ++ rest) ≡ Some (f, rest)
unfolding time_at
time_back f rest = grind arith

read_fault_back : (f : ReadFault) (rest : List ℕ) → HasReadFault f → Ends rest
    → read_fault_at (read_text f ++ rest) ≡ Some (f, rest)
unfolding read_fault_at
read_fault_back (Encoding code) rest l e = search (arith, number_back)
read_fault_back (Short found) rest l e = rw (count_back found rest l e) refl
read_fault_back (BadWord frame word) rest l e =
    search (arith, bad_word_leading, count_back)
read_fault_back (Overflow index) rest l e = rw (count_back index rest l e) refl
read_fault_back (LastDiffers found constant) rest l e =
    search (arith, last_differs_leading, sample_back)
read_fault_back NoMemory rest l e = absurd l
read_fault_back _ rest l e = refl

why_back : (w : Why) (rest : List ℕ) → HasWhy w → Ends rest → why_at (why_text w ++ rest) ≡ Some (w, rest)
unfolding why_at
why_back w rest h1 h2 = grind (arith, time_back, read_fault_back, number_back)

first_back : (f : Finding) (rest : List ℕ) → HasFinding f → Ends rest → first_at (first_then f rest) ≡ Some (f, rest)
unfolding first_at
first_back f rest fits e = search (arith, count_back, why_back)

findings_then_back : (head : Option Head) (tail : Option Tail) (count : ℕ) (rest : List ℕ) → IfSome head HasHead
    → IfSome tail HasTail
    → count < 2 ^ 63 → Ends rest
    → findings_at (findings_then head tail count rest) ≡ counted_findings_at count head tail rest
unfolding findings_at
findings_then_back head tail count rest h t l e =
    search (arith, head_back, tail_back, count_back)

findings_back : (f : Findings) (rest : List ℕ) → HasFindings f → Ends rest
    → findings_at (findings_text f ++ rest) ≡ Some (f, rest)
unfolding counted_findings_at
findings_back (Nothing head tail) rest fits e =
    ap findings_at (nothing_leading head tail rest)
    ∙ findings_then_back (Some head) (Some tail) 0 rest fits.0 fits.1 (omega arith) e
findings_back (Counted zero first head tail) rest fits e = absurd (omega (arith, fits.0))
findings_back (Counted (suc n) first head tail) rest fits e =
    search (arith, counted_leading, findings_then_back, first_back)

-- ---- whole lines
pub channel_back : (key : List ℕ) (c : Channel) → HasChannelLine key c → channel_at (channel_line key c) ≡ Some (key, c)
unfolding channel_at
channel_back key c l =
    search (arith, channel_leading, key_back, count_back, findings_ends, findings_back)

pub counts_back : (records bytes : ℕ) → HasCountsLine records bytes
    → counts_at (counts_line records bytes) ≡ Some (records, bytes)
unfolding counts_at
counts_back records bytes l = search (arith, counts_leading, count_back)

pub faults_back : (n : ℕ) → HasFaultsLine n → faults_at (faults_line n) ≡ Some n
unfolding faults_at
faults_back n h1 = grind (arith, faults_leading, count_back, lt-ltb)

frame_fault_back : (f : FrameFault) (rest : List ℕ) → HasFrameFault f → Ends rest
    → frame_fault_at (frame_words f ++ rest) ≡ Some (f, rest)
unfolding frame_fault_at
frame_fault_back f rest h1 h2 = grind (arith, number_back)

-- what fails is read by its words, whatever the offset
stream_fault_back : (f : StreamFault) (bytes : ℕ) (rest : List ℕ) → IsFaultAfter bytes f → Ends rest
    → stream_fault_at bytes (fault_words f ++ rest) ≡ Some (f, rest)
unfolding stream_fault_at
stream_fault_back f bytes rest h1 h2 = grind (arith, frame_fault_back, count_back)

pub same_number : (n : ℕ) → nat_eq n n ≡ true
same_number n = grind (arith, nat_tests)

pub fault_back : (f : StreamFault) (bytes : ℕ) → HasFaultLine bytes f → fault_at (fault_line f) bytes ≡ Some f
unfolding fault_at
fault_back f bytes l =
    search (arith, fault_of, count_back, stream_fault_back, same_number)
