-- What is read is what is written.
use Rattle.std.proofs.Common.{◌≡◌, ℕ, zero, suc, ◌-◌, ◌^◌, ◌<◌, ◌≤◌, ◌&&◌, nat_lt, nat_eq, List, [], ◌∷◌, ◌++◌}
use Rattle.std.proofs.Common.{true, Option, Some, None, ℤ, refl, sym, ap, ◌∙◌, arith}
use Rattle.std.proofs.Common.{append_assoc, IfSome}
use Rattle.std.specs.Prelude.{decimal, codes}
use Rattle.std.specs.Fmt.{signed_decimal}
use Rattle.std.specs.Cmp.Lexicographic.{same_text}
use Rattle.std.proofs.lemmas.Bool.Decides.{nat_tests}
use Rattle.std.proofs.lemmas.Bool.{and_parts}
use Rattle.std.proofs.lemmas.Option.{cond_some, same_Some}
use Rattle.mseed_time.specs.Btime.{IsInstant}
use Rattle.mseed_time.specs.Rate.{IsRatio}
use Rattle.mseed_time.specs.Text.{fault_word}
use Rattle.mseed_time.specs.declared.fault.TimeFault.TheVariants.{Year, Day, Hour, Minute, Second, Fraction}
use Rattle.mseed_record.specs.declared.fault.FrameFault.TheVariants.{NotData, Order as NoOrder, Chain, No1000, Length}
use Rattle.mseed_record.specs.declared.fault.FrameFault.TheVariants.{Outside, Version3}
use Rattle.mseed_record.specs.declared.leap.Leap.TheVariants.{None as NoLeap, Positive, Negative, Both}
use Rattle.mseed_steim.specs.declared.fault.ReadFault.TheVariants.{Blockette100, Encoding, LittleSteim, DataOffset}
use Rattle.mseed_steim.specs.declared.fault.ReadFault.TheVariants.{Short, Overflow}
use Rattle.mseed_stream.specs.declared.fault.StreamFault.{StreamFault}
use Rattle.mseed_stream.specs.declared.fault.StreamFault.TheVariants.{Frame, Truncated, Read, Turns}
use Rattle.mseed_audit.specs.declared.finding.Finding.{Finding}
use Rattle.mseed_audit.specs.declared.finding.Why.TheVariants.{Rate, Read as ReadFailed, RateChange}
use Rattle.mseed_audit.specs.declared.finding.Why.TheVariants.{Leap as UnknownLeap, Gap, Overlap}
use Rattle.mseed_text.specs.Fault.{frame_words, fault_line}
use Rattle.mseed_audit.specs.Text.{why_text, read_text}
use Rattle.mseed_audit.specs.declared.channel.Channel.{Channel}
use Rattle.mseed_audit.specs.declared.channel.Findings.{Findings}
use Rattle.mseed_audit.specs.declared.channel.Head.{Head}
use Rattle.mseed_audit.specs.declared.tail.Tail.{Tail}
use Rattle.mseed_join.specs.Lines.{leap_text, head_text, tail_text, text_or_none, findings_text}
use Rattle.mseed_join.specs.Lines.{channel_line, ratio_text}
use Rattle.mseed_join.specs.Lines.{counts_line, faults_line, IsWord, HasHead, HasTail, HasReadFault, HasWhy}
use Rattle.mseed_join.specs.Lines.{HasFinding}
use Rattle.mseed_join.specs.Lines.{HasFindings, HasChannelLine, HasCountsLine, HasFaultsLine, HasFrameFault}
use Rattle.mseed_join.specs.Lines.{HasFaultLine, IsFaultAfter}
use Rattle.mseed_join.specs.private.Reading.{◌>>=◌, else_by, after, word_at, named_at, number_at}
use Rattle.mseed_join.specs.private.Reading.{counted_at, ratio_at, start_at, sample_at, leap_at, some_head_at}
use Rattle.mseed_join.specs.private.Reading.{some_tail_at, or_none_at, head_at, tail_at, time_at, bad_word_at}
use Rattle.mseed_join.specs.private.Reading.{last_differs_at, read_fault_at, timed_at, why_at, first_at}
use Rattle.mseed_join.specs.private.Reading.{counted_findings_at, findings_at, ends, key_at, channel_at}
use Rattle.mseed_join.specs.private.Reading.{counts_at}
use Rattle.mseed_join.specs.private.Reading.{faults_at, frame_fault_at, stream_fault_at, fault_at}
use Rattle.mseed_join.proofs.Digits.{bind_then, word_after, number_spelled, IsWithin, integer_after}
use Rattle.mseed_join.proofs.Prefixes.{first_then}
use Rattle.mseed_join.proofs.Prefixes.{findings_then, nothing_leading, counted_leading}
use Rattle.mseed_join.proofs.Prefixes.{counts_leading}
use Rattle.mseed_join.proofs.Prefixes.{faults_leading, fault_words, fault_then, fault_of}
use Rattle.mseed_join.proofs.Keys.{IsKey, key_spelled}

-- a step that answered, and the steps after it

pub leading : (w a b c : List ℕ) → a ≡ w ++ b → b ≡ c → a ≡ w ++ c
leading w a b c e h = e ∙ ap (λ (t : List ℕ). w ++ t) h

pub counts : (n : ℕ) → nat_lt 0 n ≡ true → 0 < n
counts n e = grind (arith, nat_tests)

-- what was read is the text of it, before what is left
abbrev pub IsRead : {X : Type 0} → (X → List ℕ) → (X → Type 0) → List ℕ → X × List ℕ → Type 0
IsRead text Fits bytes y = (bytes ≡ text y.0 ++ y.1) × Fits y.0

abbrev pub Any : {X : Type 0} → X → Type 0
Any x = Unit {0}

abbrev pub IsFew : ℕ → Type 0
IsFew n = n < 2 ^ 63

pub record Reads {X : Type 0} (text : X → List ℕ) (Fits : X → Type 0) (read : List ℕ → Option (X × List ℕ)) : Type 0
  where
    pub spelled : (bytes : List ℕ) (y : X × List ℕ) → read bytes ≡ Some y → IsRead text Fits bytes y

reads : {X : Type 0} {text : X → List ℕ} {Fits : X → Type 0} {read : List ℕ → Option (X × List ℕ)}
    → ((bytes : List ℕ) (y : X × List ℕ) → read bytes ≡ Some y → IsRead text Fits bytes y) → Reads text Fits read
reads spelled = record { spelled = spelled }

-- ---- a step of reading, and the steps after it
word_then : {B P : Type 0} (word bytes : List ℕ) (f : List ℕ → Option B) (y : B) → (after word bytes >>= f) ≡ Some y
    → ((rest : List ℕ) → bytes ≡ word ++ rest → f rest ≡ Some y → P) → P
word_then word bytes f y e k = search (arith, bind_then, word_after)

read_then : {X B P : Type 0} {text : X → List ℕ} {Fits : X → Type 0} {read : List ℕ → Option (X × List ℕ)}
    → Reads text Fits read → (bytes : List ℕ) (f : X × List ℕ → Option B) (y : B) → (read bytes >>= f) ≡ Some y
    → ((x : X) (rest : List ℕ) → bytes ≡ text x ++ rest → Fits x → f (x, rest) ≡ Some y → P) → P
read_then {read = read} r bytes f y e k = bind_then (read bytes) f y e (λ x is more.
    let s = r.spelled bytes x is in k x.0 x.1 s.0 s.1 more)

after_then : {X B P : Type 0} {text : X → List ℕ} {Fits : X → Type 0} {read : List ℕ → Option (X × List ℕ)}
    → Reads text Fits read → (word bytes : List ℕ) (f : X × List ℕ → Option B) (y : B)
    → ((after word bytes >>= read) >>= f) ≡ Some y
    → ((x : X) (rest : List ℕ) → bytes ≡ word ++ (text x ++ rest) → Fits x → f (x, rest) ≡ Some y → P) → P
after_then {read = read} r word bytes f y e k = bind_then (after word bytes >>= read) f y e (λ x is more.
    word_then word bytes read x is (λ rest there own.
    let s = r.spelled rest x own in k x.0 x.1 (leading word bytes rest _ there s.0) s.1 more))

-- ---- of one kind or another
word : {X : Type 0} {text : X → List ℕ} {Fits : X → Type 0} (w : List ℕ) (x : X) → w ≡ text x → Fits x
    → Reads text Fits (word_at w x)
word w x is fits = reads (λ bytes y e. word_then w bytes _ y e (λ rest there more.
    rw (← same_Some _ y more) (there ∙ ap (λ (v : List ℕ). v ++ rest) is, fits)))

either : {X : Type 0} {text : X → List ℕ} {Fits : X → Type 0} {one other : List ℕ → Option (X × List ℕ)}
    → Reads text Fits one → Reads text Fits other → Reads text Fits (λ bytes. else_by (one bytes) (other bytes))
either {X} {text} {Fits} {one} {other} a b =
    record { spelled = λ bytes y e. by bytes y (one bytes) (a.spelled bytes y) e }
  where
    by : (bytes : List ℕ) (y : X × List ℕ) (o : Option (X × List ℕ)) → (o ≡ Some y → IsRead text Fits bytes y)
        → else_by o (other bytes) ≡ Some y → IsRead text Fits bytes y
    by bytes y None first e = b.spelled bytes y e
    by bytes y (Some x) first e = first e

named : {X : Type 0} (text : X → List ℕ) (xs : List X) → Reads text Any (named_at text xs)
named text [] = record { spelled = λ bytes y e. cc e }
named text (x ∷ xs) = either (word (text x) x refl tt) (named text xs)

-- the text of one is that of the other
made_of : {X Y : Type 0} {text : X → List ℕ} {Fits : X → Type 0} {words : Y → List ℕ} {Also : Y → Type 0}
    {read : List ℕ → Option (X × List ℕ)} (made : X → Y) → ((x : X) → text x ≡ words (made x))
    → ((x : X) → Fits x → Also (made x)) → Reads text Fits read
    → Reads words Also (λ bytes. read bytes >>= λ x. Some (made x.0, x.1))
made_of made same fits r = reads (λ bytes y e. read_then r bytes _ y e (λ x rest is l more.
    rw (← same_Some _ y more) (is ∙ ap (λ (t : List ℕ). t ++ rest) (same x), fits x l)))

-- a number
number : (largest : ℕ) → largest < 10 ^ 64 → Reads decimal (λ n. n ≤ largest) (number_at largest)
number largest few = reads (λ bytes y e. let n = number_spelled largest bytes y few e in (n.is, n.bounded))

pub count : Reads decimal IsFew (number_at (2 ^ 63 - 1))
count = reads (λ bytes y e.
    let n = number_spelled (2 ^ 63 - 1) bytes y (omega arith) e in (n.is, omega (arith, n.bounded)))

counted : {X : Type 0} {text : X → List ℕ} {Fits : X → Type 0} (w : List ℕ) (largest : ℕ) (made : ℕ → X)
    → largest < 10 ^ 64 → ((n : ℕ) → w ++ decimal n ≡ text (made n)) → ((n : ℕ) → n ≤ largest → Fits (made n))
    → Reads text Fits (counted_at w largest made)
counted w largest made few same fits = reads (λ bytes y e.
    after_then (number largest few) w bytes _ y e (λ n rest is l more.
    rw (← same_Some _ y more)
    (is ∙ sym (append_assoc w (decimal n) rest) ∙ ap (λ (t : List ℕ). t ++ rest) (same n), fits n l)))

-- ---- rates, starts, leap seconds
pub ratio : Reads ratio_text IsRatio ratio_at
unfolding ratio_at
ratio = reads (λ bytes y e. read_then (number (2 ^ 30) (omega arith)) bytes _ y e (λ num r1 i1 n e1.
    word_then (codes "/") r1 _ y e1 (λ r2 i2 e2.
    read_then (number (2 ^ 30) (omega arith)) r2 _ y e2 (λ den r3 i3 d e3.
    let made = cond_some (nat_lt 0 num && nat_lt 0 den) (record { num = num; den = den }, r3) y e3 in
    let some = and_parts (nat_lt 0 num) (nat_lt 0 den) made.0 in
    rw (← made.1) (
      simp (i1, i2, i3, append_assoc),
      record { num_counts = counts num some.0; num_bound = n; den_counts = counts den some.1; den_bound = d },
    )))))

within_instant : (z : ℤ) → IsWithin 5_364_662_400_000_000 7_258_118_399_999_999 z → IsInstant z
within_instant z h1 = grind arith

pub start : Reads signed_decimal IsInstant start_at
start = reads (λ bytes y e.
    let i = integer_after 5_364_662_400_000_000 7_258_118_399_999_999 bytes y (omega arith) (omega arith) e in
    (i.0, within_instant y.0 i.1))

within_word : (z : ℤ) → IsWithin (2 ^ 31) (2 ^ 31 - 1) z → IsWord z
within_word z h1 = grind arith

sample : Reads signed_decimal IsWord sample_at
sample = reads (λ bytes y e.
    let i = integer_after (2 ^ 31) (2 ^ 31 - 1) bytes y (omega arith) (omega arith) e in
    (i.0, within_word y.0 i.1))

pub leap : Reads leap_text Any leap_at
unfolding leap_at
leap = named leap_text (NoLeap ∷ Positive ∷ Negative ∷ Both ∷ [])

-- ---- heads and tails
head : Reads head_text HasHead some_head_at
unfolding some_head_at
head = reads (λ bytes y e. read_then count bytes _ y e (λ number r1 i1 n e1.
    after_then count (codes " ") r1 _ y e1 (λ offset r2 i2 o e2. word_then (codes " ") r2 _ y e2 (λ r3 i3 e3.
    read_then start r3 _ y e3 (λ begins r4 i4 s e4. word_then (codes " ") r4 _ y e4 (λ r5 i5 e5.
    read_then ratio r5 _ y e5 (λ rate r6 i6 r e6.
    rw (← same_Some _ y e6) (
      simp (i1, i2, i3, i4, i5, i6, append_assoc),
      record { number = n; offset = o; start = s; rate = r },
    ))))))))

tail : Reads tail_text HasTail some_tail_at
unfolding some_tail_at
tail = reads (λ bytes y e. read_then start bytes _ y e (λ begins r1 i1 s e1.
    after_then (number (2 ^ 16 - 1) (omega arith)) (codes " ") r1 _ y e1 (λ samples r2 i2 n e2.
    word_then (codes " ") r2 _ y e2 (λ r3 i3 e3. read_then ratio r3 _ y e3 (λ rate r4 i4 r e4.
    word_then (codes " ") r4 _ y e4 (λ r5 i5 e5. read_then leap r5 _ y e5 (λ leaps r6 i6 l e6.
    let made = cond_some (nat_lt 0 samples)
    (record { start = begins; samples = samples; rate = rate; leap = leaps }, r6) y e6 in
    rw (← made.1) (
      simp (i1, i2, i3, i4, i5, i6, append_assoc),
      record { start = s; some = counts samples made.0; samples = omega (arith, n); rate = r },
    ))))))))

or_none : {X : Type 0} {text : X → List ℕ} {Fits : X → Type 0} {read : List ℕ → Option (X × List ℕ)}
    → Reads text Fits read → Reads (λ o. text_or_none text o) (λ o. IfSome o Fits) (or_none_at read)
or_none r = either (word (codes "none") None refl tt) (made_of (λ x. Some x) (λ x. refl) (λ x l. l) r)

pub head_or_none : Reads (λ o. text_or_none head_text o) (λ o. IfSome o HasHead) head_at
unfolding head_at
head_or_none = or_none head

pub tail_or_none : Reads (λ o. text_or_none tail_text o) (λ o. IfSome o HasTail) tail_at
unfolding tail_at
tail_or_none = or_none tail

-- ---- findings
time : Reads fault_word Any time_at
unfolding time_at
time = named fault_word (Year ∷ Day ∷ Hour ∷ Minute ∷ Second ∷ Fraction ∷ [])

bad_word : Reads read_text HasReadFault bad_word_at
bad_word = reads (λ bytes y e. after_then count (codes "badword ") bytes _ y e (λ frame r1 i1 f e1.
    after_then count (codes " ") r1 _ y e1 (λ index r2 i2 w e2.
    rw (← same_Some _ y e2) (simp (i1, i2, append_assoc), (f, w)))))

last_differs : Reads read_text HasReadFault last_differs_at
last_differs = reads (λ bytes y e. word_then (codes "lastdiffers ") bytes _ y e (λ r1 i1 e1.
    read_then sample r1 _ y e1 (λ found r2 i2 f e2. word_then (codes " ") r2 _ y e2 (λ r3 i3 e3.
    read_then sample r3 _ y e3 (λ constant r4 i4 c e4.
    rw (← same_Some _ y e4) (simp (i1, i2, i3, i4, append_assoc), (f, c)))))))

read_fault : Reads read_text HasReadFault read_fault_at
unfolding read_fault_at
read_fault =
    either (word (codes "blockette100") Blockette100 refl tt)
    (either (word (codes "littlesteim") LittleSteim refl tt) (either (word (codes "dataoffset") DataOffset refl tt)
    (either (counted (codes "encoding ") (2 ^ 8 - 1) Encoding (omega arith) (λ n. refl) (λ n l. omega (arith, l)))
    (either (counted (codes "short ") (2 ^ 63 - 1) Short (omega arith) (λ n. refl) (λ n l. omega (arith, l)))
    (either (counted (codes "overflow ") (2 ^ 63 - 1) Overflow (omega arith) (λ n. refl) (λ n l. omega (arith, l)))
    (either bad_word last_differs))))))

timed : Reads why_text HasWhy timed_at
timed = search (arith, reads, word_then, read_then, time, same_Some, append_assoc)

why : Reads why_text HasWhy why_at
unfolding why_at
why =
    either (counted (codes "gap ") (2 ^ 128 - 1) Gap (omega arith) (λ n. refl) (λ n l. omega (arith, l)))
    (either (counted (codes "overlap ") (2 ^ 128 - 1) Overlap (omega arith) (λ n. refl) (λ n l. omega (arith, l)))
    (either (word (codes "ratechange") RateChange refl tt) (either (word (codes "leap") UnknownLeap refl tt)
    (either timed (either (word (codes "norate") Rate refl tt)
    (made_of ReadFailed (λ f. refl) (λ f l. l) read_fault))))))

first_spelled : (bytes : List ℕ) (y : Finding × List ℕ) → first_at bytes ≡ Some y
    → (bytes ≡ first_then y.0 y.1) × HasFinding y.0
unfolding first_at
first_spelled bytes y e =
    after_then count (codes " first ") bytes _ y e (λ number r1 i1 n e1.
    after_then count (codes " ") r1 _ y e1 (λ offset r2 i2 o e2. word_then (codes " ") r2 _ y e2 (λ r3 i3 e3.
    read_then why r3 _ y e3 (λ reason r4 i4 w e4.
    rw (← same_Some _ y e4) (simp (i1, i2, i3, i4), record { number = n; offset = o; why = w })))))

-- by the number of findings, after the tail
counted_findings_spelled : (count : ℕ) (head : Option Head) (tail : Option Tail) (bytes : List ℕ)
    (y : Findings × List ℕ)
    → counted_findings_at count head tail bytes ≡ Some y → count < 2 ^ 63 → IfSome head HasHead → IfSome tail HasTail
    → (findings_then head tail count bytes ≡ findings_text y.0 ++ y.1) × HasFindings y.0
unfolding counted_findings_at
counted_findings_spelled zero (Some head) (Some tail) bytes y e l h t =
    search (arith, same_Some, nothing_leading)
counted_findings_spelled (suc n) head tail bytes y e l h t =
    bind_then (first_at bytes) _ y e (λ first is more.
    let f = first_spelled bytes first is in
    rw (← same_Some _ y more) (
      ap (λ (z : List ℕ). findings_then head tail (suc n) z) f.0
          ∙ sym (counted_leading (suc n) first.0 head tail first.1),
      (omega arith, l, f.1, h, t),
    ))
counted_findings_spelled zero _ _ bytes y e l h t = absurd (cc e)

findings : Reads findings_text HasFindings findings_at
unfolding findings_at
findings = reads (λ bytes y e. word_then (codes " head ") bytes _ y e (λ r1 i1 e1.
    read_then head_or_none r1 _ y e1 (λ head r2 i2 h e2. word_then (codes " tail ") r2 _ y e2 (λ r3 i3 e3.
    read_then tail_or_none r3 _ y e3 (λ tail r4 i4 t e4.
    after_then count (codes " findings ") r4 _ y e4 (λ n r5 i5 c e5.
    let f = counted_findings_spelled n head tail r5 y e5 c h t in
    let is : bytes ≡ findings_then head tail n r5 = simp (i1, i2, i3, i4, i5) in
    (is ∙ f.0, f.1)))))))

-- ---- whole lines
ended : (bytes : List ℕ) → ends bytes ≡ true → bytes ≡ codes "\n"
ended bytes e = same_text bytes (codes "\n") (sym e)

pub channel_spelled : (bytes : List ℕ) (y : List ℕ × Channel) → channel_at bytes ≡ Some y
    → (bytes ≡ channel_line y.0 y.1) × HasChannelLine y.0 y.1
unfolding channel_at
channel_spelled bytes y e =
    bind_then (key_at bytes) _ y e (λ key is1 e1.
    after_then count (codes " records ") key.1 _ y e1 (λ records r2 i2 r e2.
    after_then count (codes " samples ") r2 _ y e2 (λ samples r3 i3 s e3.
    read_then findings r3 _ y e3 (λ found r4 i4 f e4.
    let k : IsKey bytes key = key_spelled bytes key is1 in
    let made = cond_some (ends r4) (key.0, record { records = records; samples = samples; findings = found }) y e4 in
    rw (← made.1) (
      simp (k.is, i2, i3, i4, ended r4 made.0, append_assoc),
      record { key_length = k.long; key_bytes = k.small; records = r; samples = s; findings = f },
    )))))

pub counts_spelled : (bytes : List ℕ) (y : ℕ × ℕ) → counts_at bytes ≡ Some y
    → (bytes ≡ counts_line y.0 y.1) × HasCountsLine y.0 y.1
unfolding counts_at
counts_spelled bytes y e =
    after_then count (codes "records ") bytes _ y e (λ records r1 i1 r e1.
    after_then count (codes " bytes ") r1 _ y e1 (λ held r2 i2 h e2.
    let made = cond_some (ends r2) (records, held) y e2 in
    let is : bytes ≡ codes "records " ++ (decimal records ++ (codes " bytes " ++ (decimal held ++ codes "\n"))) =
    simp (i1, i2, ended r2 made.0) in
    rw (← made.1) (is ∙ sym (counts_leading records held), record { records_fit = r; bytes_fit = h })))

pub faults_spelled : (bytes : List ℕ) (y : ℕ) → faults_at bytes ≡ Some y → (bytes ≡ faults_line y) × HasFaultsLine y
unfolding faults_at
faults_spelled bytes y e =
    after_then count (codes "faults ") bytes _ y e (λ n r1 i1 l e1.
    let made = cond_some (nat_lt 0 n && ends r1) n y e1 in
    let both = and_parts (nat_lt 0 n) (ends r1) made.0 in
    let some : 0 < n = counts n both.0 in
    let is : bytes ≡ codes "faults " ++ (decimal n ++ codes "\n") = simp (i1, ended r1 both.1) in
    rw (← made.1) (is ∙ sym (some_faults n some), record { some = some; fit = l }))
  where
    some_faults : (n : ℕ) → 0 < n → faults_line n ≡ codes "faults " ++ (decimal n ++ codes "\n")
    some_faults zero l = absurd (omega (arith, l))
    some_faults (suc n) l = faults_leading n

frame_fault : Reads frame_words HasFrameFault frame_fault_at
unfolding frame_fault_at
frame_fault =
    either (word (codes "notdata") NotData refl tt) (either (word (codes "order") NoOrder refl tt)
    (either (word (codes "chain") Chain refl tt) (either (word (codes "no1000") No1000 refl tt)
    (either (counted (codes "length ") (2 ^ 8 - 1) Length (omega arith) (λ n. refl) (λ n l. omega (arith, l)))
    (either (word (codes "outside") Outside refl tt) (word (codes "version3") Version3 refl tt))))))

stream_fault : (offset : ℕ) → Reads fault_words (λ f. IsFaultAfter offset f) (stream_fault_at offset)
unfolding stream_fault_at
stream_fault offset =
    either (counted (codes "truncated ") (2 ^ 63 - 1) (λ have. Truncated offset have) (omega arith) (λ n. refl)
    (λ n l. (refl, omega (arith, l))))
    (either (word (codes "read") (Read offset) refl refl) (either (word (codes "turns") (Turns offset) refl refl)
    (made_of (λ f. Frame offset f) (λ f. refl) (λ f l. (refl, l)) frame_fault)))

pub fault_spelled : (bytes : List ℕ) (offset : ℕ) (y : StreamFault) → fault_at bytes offset ≡ Some y
    → (bytes ≡ fault_line y) × HasFaultLine offset y
unfolding fault_at
fault_spelled bytes offset y e =
    after_then count (codes "fault at ") bytes _ y e (λ at r1 i1 a e1. word_then (codes " ") r1 _ y e1 (λ r2 i2 e2.
    read_then (stream_fault offset) r2 _ y e2 (λ fault r3 i3 f e3.
    let made = cond_some (nat_eq at offset && ends r3) fault y e3 in
    let both = and_parts (nat_eq at offset) (ends r3) made.0 in
    let there : at ≡ offset = grind (arith, nat_tests) in
    let is : bytes ≡ fault_then at fault = simp (i1, i2, i3, ended r3 both.1) in
    rw (← made.1) (
      is ∙ ap (λ (n : ℕ). fault_then n fault) there ∙ sym (fault_of fault offset f),
      record { bytes_fit = omega (arith, there, a); is = f },
    ))))
