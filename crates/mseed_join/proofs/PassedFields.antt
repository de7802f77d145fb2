-- A field of a line is passed exactly where it is written.
use Rattle.std.proofs.Common.{◌≡◌, ℕ, ◌-◌, ◌^◌, ◌<◌, ◌≤◌, ◌||◌, nat_lt, List, [], ◌∷◌, ◌++◌}
use Rattle.std.proofs.Common.{Bool, true, cond, Option, Some, None, length, refl}
use Rattle.std.proofs.Common.{sym}
use Rattle.std.proofs.Common.{ap, ◌∙◌, arith, append-nil}
use Rattle.std.specs.Prelude.{decimal, codes}
use Rattle.std.specs.Fmt.{signed_decimal}
use Rattle.std.proofs.lemmas.Bool.{lt-ltb}
use Rattle.std.proofs.lemmas.Bool.Decides.{nat_tests}
use Rattle.std.proofs.lemmas.Option.{cond_some}
use Rattle.mseed_time.specs.Btime.{IsInstant}
use Rattle.mseed_time.specs.Rate.{IsRatio}
use Rattle.mseed_join.specs.Fields.{ends_field}
use Rattle.mseed_join.specs.Lines.{key_text, leap_text, ratio_text}
use Rattle.mseed_join.specs.private.Passing.{past}
use Rattle.mseed_join.specs.private.Passing.{past_count, past_findings, past_key, past_leap, past_rate, past_samples}
use Rattle.mseed_join.specs.private.Passing.{past_start, past_word}
use Rattle.mseed_join.specs.private.Reading.{◌>>=◌, after, key_at, number_at, ratio_at}
use Rattle.mseed_join.proofs.Backwards.{count_back, leap_back, ratio_back, same_number}
use Rattle.mseed_join.proofs.Backwards.{start_back}
use Rattle.mseed_join.proofs.Digits.{Ends, bind_then, IsNumber, number_back, number_spelled, word_after}
use Rattle.mseed_join.proofs.Keys.{AreBytes, IsKey, key_back, key_spelled}
use Rattle.mseed_join.proofs.Prefixes.{ratio_leading}
use Rattle.mseed_join.proofs.Spelled.{Any, IsFew, Reads, count, counts, leading, leap, ratio, start}

ends_number : (rest : List ℕ) → ends_field rest ≡ true → Ends rest
ends_number rest h1 = grind (arith, nat_tests)

-- ---- what is written is passed
pub after_prefix : (w v z : List ℕ) → after (w ++ v) (w ++ z) ≡ after v z
after_prefix [] v z = refl
after_prefix (b ∷ w) v z = search (arith, same_number, after_prefix w v z)

after_word : (word z : List ℕ) → after word (word ++ z) ≡ Some z
after_word word z = ap (λ (w : List ℕ). after w (word ++ z)) (sym (append-nil word)) ∙ after_prefix word [] z

pub key_on : (rest : List ℕ) → ends_field rest ≡ true → (key : List ℕ) → length key ≡ 12 → AreBytes key
    → past_key (key_text key ++ rest) ≡ Some rest
unfolding past_key
key_on rest ends key long small = rw (key_back key rest long small, ends) refl

pub word_on : (rest : List ℕ) → ends_field rest ≡ true → (word : List ℕ) → past_word word (word ++ rest) ≡ Some rest
unfolding past_word
word_on rest ends word = rw (after_word word rest, ends) refl

-- ---- what is passed is written
pub record Passed {X : Type 0} (Fits : X → Type 0) (text : X → List ℕ) (word bytes r : List ℕ) : Type 0 where
  pub x : X
  pub fits : Fits x
  pub is : bytes ≡ word ++ (text x ++ r)
  pub ends : ends_field r ≡ true

passed_by : {X : Type 0} {text : X → List ℕ} {Fits : X → Type 0} {read : List ℕ → Option (X × List ℕ)}
    → Reads text Fits read → (word bytes r : List ℕ) → past word read bytes ≡ Some r → Passed Fits text word bytes r
passed_by {read = read} reads word bytes r e = bind_then (after word bytes >>= read) _ r e (λ y first more.
    bind_then (after word bytes) read y first (λ rest there is.
    let made = cond_some (ends_field y.1) y.1 r more in
    let s = reads.spelled rest y is in
    rw (← made.1) (record {
      x = y.0;
      fits = s.1;
      is = leading word bytes rest _ (word_after word bytes rest there) s.0;
      ends = made.0;
    })))

abbrev pub AreSamples : ℕ → Type 0
AreSamples n = (0 < n) × (n < 2 ^ 16)

abbrev pub AreFindings : Bool → ℕ → Type 0
AreFindings both n = (n < 2 ^ 63) × ((nat_lt 0 n || both) ≡ true)

-- a number that was read, and that is also so
also : (few : ℕ) (test : ℕ → Bool) {Fits : ℕ → Type 0} → few < 10 ^ 64 → ((n : ℕ) → n ≤ few → test n ≡ true → Fits n)
    → Reads decimal Fits (λ bytes. number_at few bytes >>= λ n. cond (test n.0) (Some n) None)
also few test small fits = record {
  spelled = λ b y e. bind_then (number_at few b) _ y e (λ n first more.
      let made = cond_some (test n.0) n y more in
      let s : IsNumber few b n = number_spelled few b n small first in
      rw (← made.1) (s.is, fits n.0 s.bounded made.0));
}

-- so a field is passed exactly where it is written
pub record IsField {X : Type 0} (Fits : X → Type 0) (text : X → List ℕ) (word : List ℕ)
    (pass : List ℕ → Option (List ℕ)) : Type 0 where
  pub on : (x : X) (rest : List ℕ) → Fits x → ends_field rest ≡ true → pass (word ++ (text x ++ rest)) ≡ Some rest
  pub past : (bytes r : List ℕ) → pass bytes ≡ Some r → Passed Fits text word bytes r

field_by : {X : Type 0} {text : X → List ℕ} {Fits : X → Type 0} {read : List ℕ → Option (X × List ℕ)} (word : List ℕ)
    → ((x : X) (rest : List ℕ) → Fits x → Ends rest → read (text x ++ rest) ≡ Some (x, rest)) → Reads text Fits read
    → IsField Fits text word (past word read)
field_by {text = text} word back reads = search (arith, after_word, ends_number, passed_by)

pub count_field : (word : List ℕ) → IsField IsFew decimal word (past_count word)
unfolding past_count
count_field word = field_by word count_back count

pub start_field : (word : List ℕ) → IsField IsInstant signed_decimal word (past_start word)
unfolding past_start
start_field word = field_by word start_back start

pub rate_field : IsField IsRatio ratio_text (codes " ") past_rate
unfolding past_rate
rate_field =
    field_by (codes " ") (λ r rest fits e. ap ratio_at (ratio_leading r rest) ∙ ratio_back r rest fits e) ratio

pub samples_field : IsField AreSamples decimal (codes " ") past_samples
unfolding past_samples
samples_field = field_by (codes " ") (λ n rest fits e. rw (
  number_back (2 ^ 16 - 1) n rest (omega (arith, fits.1)) (omega (arith, fits.1)) e,
  lt-ltb 0 n fits.0,
) refl) (also (2 ^ 16 - 1) (nat_lt 0) (omega arith) (λ n l some. (counts n some, omega (arith, l))))

pub leap_field : IsField Any leap_text (codes " ") past_leap
unfolding past_leap
leap_field = field_by (codes " ") (λ l rest fits e. leap_back l rest) leap

pub findings_field : (b : Bool) → IsField (AreFindings b) decimal (codes " findings ") (past_findings b)
unfolding past_findings
findings_field b = field_by (codes " findings ") (λ n rest fits e. rw (count_back n rest fits.0 e, fits.1) refl)
    (also (2 ^ 63 - 1) (λ n. nat_lt 0 n || b) (omega arith) (λ n l some. (omega (arith, l), some)))

pub key_past : (line r : List ℕ) → past_key line ≡ Some r
    → (key : List ℕ) × (length key ≡ 12) × AreBytes key × (line ≡ key_text key ++ r) × (ends_field r ≡ true)
unfolding past_key
key_past line r e = bind_then (key_at line) _ r e (λ y first more.
    let k : IsKey line y = key_spelled line y first in
    let made = cond_some (ends_field y.1) y.1 r more in
    rw (← made.1) (y.0, k.long, k.small, k.is, made.0))

pub word_past : (word bytes r : List ℕ) → past_word word bytes ≡ Some r → (bytes ≡ word ++ r) × (ends_field r ≡ true)
unfolding past_word
word_past word bytes r e = search (arith, bind_then, cond_some, word_after)
