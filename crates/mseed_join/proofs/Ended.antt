-- Lines are short; they end with their LF, and have no other.
use Rattle.std.proofs.Common.{◌≡◌, ℕ, zero, suc, ◌+◌, ◌*◌, ◌-◌, ◌%◌, ◌/◌, ◌^◌, ◌<◌, ◌≤◌, nat_lt, nat_eq, List, []}
use Rattle.std.proofs.Common.{◌∷◌, ◌++◌, length, Bool, true, false, cond, Option, Some, None, ℤ, pos, negsuc}
use Rattle.std.proofs.Common.{IfSome, refl, sym, ◌∙◌, arith, append_assoc}
use Rattle.std.specs.Prelude.{decimal, codes}
use Rattle.std.specs.Fmt.{signed_decimal}
use Rattle.std.proofs.lemmas.Bool.{false≢true}
use Rattle.std.proofs.lemmas.Bool.Decides.{nat_tests}
use Rattle.std.proofs.lemmas.Fmt.{decimal_by_steps_wide, length-decimal-le_wide}
use Rattle.std.proofs.lemmas.List.{length-append}
use Rattle.mseed_time.specs.Rate.{Ratio, IsRatio}
use Rattle.mseed_time.specs.Text.{fault_word}
use Rattle.mseed_time.specs.declared.fault.TimeFault.{TimeFault}
use Rattle.mseed_time.specs.declared.fault.TimeFault.TheVariants.{Year}
use Rattle.mseed_time.specs.Btime.{IsInstant}
use Rattle.mseed_record.specs.declared.fault.FrameFault.{FrameFault}
use Rattle.mseed_record.specs.declared.fault.FrameFault.TheVariants.{Length}
use Rattle.mseed_record.specs.declared.leap.Leap.{Leap}
use Rattle.mseed_record.specs.declared.leap.Leap.TheVariants.{None as NoLeap}
use Rattle.mseed_steim.specs.declared.fault.ReadFault.{ReadFault}
use Rattle.mseed_steim.specs.declared.fault.ReadFault.TheVariants.{Encoding}
use Rattle.mseed_steim.specs.declared.fault.ReadFault.TheVariants.{Short, BadWord, Overflow, LastDiffers}
use Rattle.mseed_steim.specs.declared.fault.ReadFault.TheVariants.{Memory as NoMemory}
use Rattle.mseed_stream.specs.declared.fault.StreamFault.{StreamFault}
use Rattle.mseed_stream.specs.declared.fault.StreamFault.TheVariants.{Frame, Truncated, Memory}
use Rattle.mseed_audit.specs.declared.finding.Finding.{Finding}
use Rattle.mseed_audit.specs.declared.finding.Why.{Why}
use Rattle.mseed_audit.specs.declared.finding.Why.TheVariants.{Time, Read as ReadFailed}
use Rattle.mseed_audit.specs.declared.finding.Why.TheVariants.{Gap, Overlap}
use Rattle.mseed_text.specs.Fault.{frame_words}
use Rattle.mseed_audit.specs.Text.{why_text, read_text}
use Rattle.mseed_audit.specs.declared.channel.Findings.{Findings}
use Rattle.mseed_audit.specs.declared.channel.Findings.TheVariants.{Nothing, Counted}
use Rattle.mseed_audit.specs.declared.channel.Head.{Head}
use Rattle.mseed_audit.specs.declared.tail.Tail.{Tail}
use Rattle.mseed_join.specs.Lines.{hex_digit, key_text, ratio_text, leap_text, head_text, tail_text, text_or_none}
use Rattle.mseed_join.specs.Lines.{first_text, findings_text, IsWord, HasHead, HasTail, HasReadFault, HasWhy}
use Rattle.mseed_join.specs.Lines.{HasFinding, HasFindings, HasFrameFault, IsFaultAfter, Line, header, channel}
use Rattle.mseed_join.specs.Lines.{counts}
use Rattle.mseed_join.specs.Lines.{faults, fault, text_of_line, IsLine}
use Rattle.mseed_join.proofs.Backwards.{instant_within, word_within}
use Rattle.mseed_join.proofs.Digits.{IsWithin}
use Rattle.mseed_join.proofs.Prefixes.{fault_words, fault_of}
use Rattle.mseed_join.specs.Joined.{HasNoEnd}

-- no LF is among them
abbrev pub plain : List ℕ → Bool
plain [] = true
plain (b ∷ bs) = cond (nat_eq b 10) false (plain bs)

plain_two : (a b : List ℕ) → plain a ≡ true → plain b ≡ true → plain (a ++ b) ≡ true
plain_two [] b p q = q
plain_two (x ∷ a) b p q = search (arith, nat_eq, false≢true, plain_two a b)

digit : (n : ℕ) → plain ((48 + n) ∷ []) ≡ true
digit n = search (arith, nat_eq, nat_tests)

digits : (n : ℕ) → n < 10 ^ 64 → plain (decimal n) ≡ true
digits n few =
    decimal_by_steps_wide (λ m ds. plain ds ≡ true) (λ m l. digit m)
    (λ m ds l p. plain_two ds ((48 + m % 10) ∷ []) p (digit (m % 10))) n few

-- ---- pieces of lines
-- so many bytes at most, without an LF
pub record IsPiece (most : ℕ) (text : List ℕ) : Type 0 where
  pub is_plain : plain text ≡ true
  pub short : length text ≤ most

-- one after another
two : {m n : ℕ} {a b : List ℕ} → IsPiece m a → IsPiece n b → IsPiece (m + n) (a ++ b)
two {a = a} {b = b} p q = record {
  is_plain = plain_two a b p.is_plain q.is_plain;
  short = omega (arith, length-append a b, p.short, q.short);
}

within : {m n : ℕ} {text : List ℕ} → IsPiece m text → m ≤ n → IsPiece n text
within p l = record { is_plain = p.is_plain; short = omega (arith, p.short, l) }

word : (text : List ℕ) → plain text ≡ true → IsPiece (length text) text
word text p = record { is_plain = p; short = omega arith }

-- with a space between
spaced : {m n : ℕ} {a b : List ℕ} → IsPiece m a → IsPiece n b → IsPiece (m + 1 + n) (a ++ codes " " ++ b)
spaced p q = two (two p (word (codes " ") refl)) q

number : (k n : ℕ) → 0 < k → n < 10 ^ k → n < 10 ^ 64 → IsPiece k (decimal n)
number k n some low few = record { is_plain = digits n few; short = length-decimal-le_wide k n some low few }

-- a number of a part
count : (n : ℕ) → n < 2 ^ 63 → IsPiece 19 (decimal n)
count n l = number 19 n (omega arith) (omega (arith, l)) (omega (arith, l))

micros : (n : ℕ) → n < 2 ^ 128 → IsPiece 39 (decimal n)
micros n l = number 39 n (omega arith) (omega (arith, l)) (omega (arith, l))

signed : (k below above : ℕ) (z : ℤ) → 0 < k → below < 10 ^ k → above < 10 ^ k → below < 10 ^ 64 → above < 10 ^ 64
    → IsWithin below above z → IsPiece (k + 1) (signed_decimal z)
signed k below above (pos n) some low high few many l =
    within (number k n some (omega (arith, l, high)) (omega (arith, l, many))) (omega arith)
signed k below above (negsuc n) some low high few many l =
    let size = number k (suc n) some (omega (arith, l, low)) (omega (arith, l, few)) in
    record { is_plain = size.is_plain; short = omega (arith, size.short) }

start : (z : ℤ) → IsInstant z → IsPiece 17 (signed_decimal z)
start z i =
    signed 16 5_364_662_400_000_000 7_258_118_399_999_999 z (omega arith) (omega arith) (omega arith) (omega arith)
    (omega arith) (instant_within z i)

sample : (z : ℤ) → IsWord z → IsPiece 11 (signed_decimal z)
sample z w =
    signed 10 (2 ^ 31) (2 ^ 31 - 1) z (omega arith) (omega arith) (omega arith) (omega arith) (omega arith)
    (word_within z w)

ratio : (r : Ratio) → IsRatio r → IsPiece 21 (ratio_text r)
ratio r fits = two (two (ten r.num fits.num_bound) (word (codes "/") refl)) (ten r.den fits.den_bound)
  where
    ten : (n : ℕ) → n ≤ 2 ^ 30 → IsPiece 10 (decimal n)
    ten n l = number 10 n (omega arith) (omega (arith, l)) (omega (arith, l))

leap : (l : Leap) → IsPiece 8 (leap_text l)
leap NoLeap = record { is_plain = refl; short = omega arith }
leap _ = record { is_plain = refl; short = omega arith }

head : (h : Head) → HasHead h → IsPiece 79 (head_text h)
head h fits =
    spaced (spaced (spaced (count h.number fits.number) (count h.offset fits.offset)) (start h.start fits.start))
    (ratio h.rate fits.rate)

tail : (t : Tail) → HasTail t → IsPiece 54 (tail_text t)
tail t fits =
    let samples = number 5 t.samples (omega arith) (omega (arith, fits.samples)) (omega (arith, fits.samples)) in
    spaced (spaced (spaced (start t.start fits.start) samples) (ratio t.rate fits.rate)) (leap t.leap)

or_none : {X : Type 0} {n : ℕ} (text : X → List ℕ) (Has : X → Type 0) (o : Option X) → 4 ≤ n
    → ((x : X) → Has x → IsPiece n (text x)) → IfSome o Has → IsPiece n (text_or_none text o)
or_none text Has None l each fits = record { is_plain = refl; short = omega (arith, l) }
or_none text Has (Some x) l each fits = each x fits

time : (f : TimeFault) → IsPiece 8 (fault_word f)
time Year = record { is_plain = refl; short = omega arith }
time _ = record { is_plain = refl; short = omega arith }

read_fault : (f : ReadFault) → HasReadFault f → IsPiece 47 (read_text f)
read_fault (Encoding code) l =
    within (two (word (codes "encoding ") refl) (count code (omega (arith, l)))) (omega arith)
read_fault (Short found) l = within (two (word (codes "short ") refl) (count found l)) (omega arith)
read_fault (BadWord frame w) l = spaced (two (word (codes "badword ") refl) (count frame l.0)) (count w l.1)
read_fault (Overflow index) l = within (two (word (codes "overflow ") refl) (count index l)) (omega arith)
read_fault (LastDiffers found constant) l =
    within (spaced (two (word (codes "lastdiffers ") refl) (sample found l.0)) (sample constant l.1)) (omega arith)
read_fault NoMemory l = absurd l
read_fault _ l = record { is_plain = refl; short = omega arith }

why : (w : Why) → HasWhy w → IsPiece 48 (why_text w)
why (Time f) l = within (two (word (codes "time ") refl) (time f)) (omega arith)
why (ReadFailed f) l = within (read_fault f l) (omega arith)
why (Gap us) l = within (two (word (codes "gap ") refl) (micros us l)) (omega arith)
why (Overlap us) l = within (two (word (codes "overlap ") refl) (micros us l)) (omega arith)
why _ l = record { is_plain = refl; short = omega arith }

first : (f : Finding) → HasFinding f → IsPiece 94 (first_text f)
first f fits =
    spaced (spaced (two (word (codes "first ") refl) (count f.number fits.number)) (count f.offset fits.offset))
    (why f.why fits.why)

-- a head and a tail after their words
ends : {a b : List ℕ} → IsPiece 79 a → IsPiece 54 b → IsPiece 145 (codes " head " ++ a ++ codes " tail " ++ b)
ends p q = two (two (two (word (codes " head ") refl) p) (word (codes " tail ") refl)) q

findings : (f : Findings) → HasFindings f → IsPiece 269 (findings_text f)
findings (Nothing h t) fits =
    within (two (ends (head h fits.0) (tail t fits.1)) (word (codes " findings 0") refl)) (omega arith)
findings (Counted n f h t) fits =
    let head_piece = or_none head_text HasHead h (omega arith) head fits.3 in
    let tail_piece = or_none tail_text HasTail t (omega arith) tail fits.4 in
    spaced (two (two (ends head_piece tail_piece) (word (codes " findings ") refl)) (count n fits.1)) (first f fits.2)

nibble : (n : ℕ) → nat_eq (hex_digit n) 10 ≡ false
nibble n = search (arith, nat_lt, nat_eq, nat_tests)

key : (bytes : List ℕ) → IsPiece (2 * length bytes) (key_text bytes)
key [] = record { is_plain = refl; short = omega arith }
key (b ∷ bs) =
    let rest = key bs in
    record { is_plain = rw (nibble (b / 16), nibble (b % 16)) rest.is_plain; short = omega (arith, rest.short) }

frame_fault : (f : FrameFault) → HasFrameFault f → IsPiece 29 (frame_words f)
frame_fault (Length exponent) l =
    within (two (word (codes "length ") refl) (count exponent (omega (arith, l)))) (omega arith)
frame_fault _ l = record { is_plain = refl; short = omega arith }

stream_fault : (bytes : ℕ) (f : StreamFault) → IsFaultAfter bytes f → IsPiece 29 (fault_words f)
stream_fault bytes (Frame offset f) l = frame_fault f l.1
stream_fault bytes (Truncated offset have) l = two (word (codes "truncated ") refl) (count have l.1)
stream_fault bytes Memory l = absurd l
stream_fault bytes _ l = record { is_plain = refl; short = omega arith }

-- ---- whole lines
-- up to 511 bytes without an LF, and an LF
pub record IsEnded (text : List ℕ) : Type 0 where
  pub body : List ℕ
  pub piece : IsPiece 511 body
  pub is : text ≡ body ++ 10 ∷ []

pub ended : (x : Line) → IsLine x → IsEnded (text_of_line x)
ended header l = record {
  body = codes "mseed part 1";
  piece = record { is_plain = refl; short = omega arith };
  is = refl;
}
ended (channel k c) l = record {
  body = key_text k ++ codes " records " ++ decimal c.records ++ codes " samples " ++ decimal c.samples
      ++ findings_text c.findings;
  piece =
      let records = two (two (key k) (word (codes " records ") refl)) (count c.records l.records) in
      within (two (two (two records (word (codes " samples ") refl)) (count c.samples l.samples))
      (findings c.findings l.findings)) (omega (arith, l.key_length));
  is = refl;
}
ended (counts records bytes) l = record {
  body = codes "records " ++ decimal records ++ codes " bytes " ++ decimal bytes;
  piece =
      let first = two (word (codes "records ") refl) (count records l.records_fit) in
      within (two (two first (word (codes " bytes ") refl)) (count bytes l.bytes_fit)) (omega arith);
  is = refl;
}
ended (faults zero) l = absurd (omega (arith, l.some))
ended (faults (suc n)) l = record {
  body = codes "faults " ++ decimal (suc n);
  piece = within (two (word (codes "faults ") refl) (count (suc n) l.fit)) (omega arith);
  is = refl;
}
ended (fault bytes f) l = record {
  body = codes "fault at " ++ decimal bytes ++ codes " " ++ fault_words f;
  piece =
      within (spaced (two (word (codes "fault at ") refl) (count bytes l.bytes_fit)) (stream_fault bytes f l.is))
      (omega arith);
  is = fault_of f bytes l.is ∙ joined (codes "fault at ") (decimal bytes) (fault_words f);
}
  where
    joined : (a b w : List ℕ) → a ++ (b ++ (codes " " ++ (w ++ codes "\n"))) ≡ (a ++ b ++ codes " " ++ w) ++ 10 ∷ []
    joined a b w = simp append_assoc

pub short : (x : Line) → IsLine x → length (text_of_line x) ≤ 512
short x l = search (arith, ended, length-append)

-- ---- bytes without an LF
pub plain_from : (bytes : List ℕ) → HasNoEnd bytes → plain bytes ≡ true
plain_from [] h = refl
plain_from (b ∷ bs) h = search (arith, nat_eq, nat_tests, plain_from bs h.1)

-- an LF isn't plain
pub no_end_there : (b : ℕ) (bs : List ℕ) → plain (b ∷ bs) ≡ true → b ≡ 10 → ⊥
no_end_there b bs p e = search (arith, nat_eq, nat_tests, false≢true)

pub plain_after : (b : ℕ) (bs : List ℕ) → plain (b ∷ bs) ≡ true → plain bs ≡ true
plain_after b bs p = search (arith, nat_eq, false≢true)

-- two lines that begin the same bytes are the same
pub same_line : (p q r s : List ℕ) → plain p ≡ true → plain q ≡ true → p ++ 10 ∷ r ≡ q ++ 10 ∷ s → (p ≡ q) × (r ≡ s)
same_line [] [] r s f g e = let rest : r ≡ s = cc (e) in (refl, rest)
same_line [] (b ∷ q) r s f g e = let one : 10 ≡ b = cc (e) in absurd (no_end_there b q g (sym one))
same_line (a ∷ p) [] r s f g e = let one : a ≡ 10 = cc (e) in absurd (no_end_there a p f one)
same_line (a ∷ p) (b ∷ q) r s f g e =
    let one : a ≡ b = cc (e) in
    let more : p ++ 10 ∷ r ≡ q ++ 10 ∷ s = cc (e) in
    let same = same_line p q r s (plain_after a p f) (plain_after b q g) more in
    ((λ i. one i ∷ same.0 i), same.1)

-- bytes without an LF reach no further than the line that they begin
pub within_line : (p q r s : List ℕ) → plain p ≡ true → p ++ r ≡ q ++ 10 ∷ s → length p ≤ length q
within_line [] q r s f e = omega arith
within_line (a ∷ p) [] r s f e = let one : a ≡ 10 = cc (e) in absurd (no_end_there a p f one)
within_line (a ∷ p) (b ∷ q) r s f e =
    let more : p ++ r ≡ q ++ 10 ∷ s = cc (e) in
    omega (arith, within_line p q r s (plain_after a p f) more)

pub no_end_from : (bytes : List ℕ) → plain bytes ≡ true → HasNoEnd bytes
no_end_from [] p = tt
no_end_from (b ∷ bs) p = (no_end_there b bs p, no_end_from bs (plain_after b bs p))
