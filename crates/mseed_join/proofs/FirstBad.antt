-- The first field of a line that isn't by the grammar.
use Rattle.std.proofs.Common.{◌≡◌, ◌≢◌, ℕ, zero, suc, ◌&&◌, List, [], ◌∷◌, ◌++◌}
use Rattle.std.proofs.Common.{Bool, true, false, Option, Some, None, IfSome, ℤ, pos, refl}
use Rattle.std.proofs.Common.{sym}
use Rattle.std.proofs.Common.{ap, ◌∙◌, subst, arith, inl, inr}
use Rattle.std.specs.Prelude.{decimal, codes, is_some, nat_eq}
use Rattle.std.specs.Fmt.{signed_decimal}
use Rattle.std.specs.List.{starts_with}
use Rattle.std.proofs.lemmas.Bool.{lt-ltb}
use Rattle.std.proofs.lemmas.Option.{same_Some}
use Rattle.mseed_time.specs.Rate.{Ratio, IsRatio}
use Rattle.mseed_record.specs.declared.leap.Leap.{Leap}
use Rattle.mseed_record.specs.declared.leap.Leap.TheVariants.{None as NoLeap}
use Rattle.mseed_audit.specs.Audit.{count_in, head_in, tail_in}
use Rattle.mseed_audit.specs.declared.channel.Channel.{Channel}
use Rattle.mseed_audit.specs.declared.channel.Findings.{Findings}
use Rattle.mseed_audit.specs.declared.channel.Findings.TheVariants.{Nothing, Counted}
use Rattle.mseed_audit.specs.declared.channel.Head.{Head}
use Rattle.mseed_audit.specs.declared.finding.Finding.{Finding}
use Rattle.mseed_audit.specs.declared.finding.Why.TheVariants.{Rate}
use Rattle.mseed_audit.specs.declared.tail.Tail.{Tail}
use Rattle.mseed_join.specs.Fields.{ends_field, to_key, to_records, to_samples, to_head, to_tail, to_findings}
use Rattle.mseed_join.specs.Fields.{to_head_number, to_head_offset, to_head_start, to_head_rate, or_none}
use Rattle.mseed_join.specs.Fields.{to_tail_start, to_tail_samples, to_tail_rate, to_tail_leap}
use Rattle.mseed_join.specs.Fields.{BeginsAsChannel, IsFirstBad, IsFirstOf, IsGoodTo}
use Rattle.mseed_join.specs.Fields.{channel_fields, counts_fields, fields_of, head_fields, tail_fields}
use Rattle.mseed_join.specs.Lines.{channel_line, counts_line}
use Rattle.mseed_join.specs.Lines.{HasChannelLine, HasCountsLine, HasFinding, HasFindings, HasHead, HasTail}
use Rattle.mseed_join.specs.declared.bad_field.Field.{Field}
use Rattle.mseed_join.specs.declared.bad_field.Field.TheVariants.{Key, Records, Samples, HeadNumber, HeadOffset}
use Rattle.mseed_join.specs.declared.bad_field.Field.TheVariants.{HeadStart, HeadRate, TailStart, TailSamples}
use Rattle.mseed_join.specs.declared.bad_field.Field.TheVariants.{TailRate, TailLeap, Findings as InFindings, First}
use Rattle.mseed_join.specs.declared.bad_field.Field.TheVariants.{AllRecords, AllBytes}
use Rattle.mseed_join.specs.private.Passing.{bad_in_channel, bad_in_counts, from_findings}
use Rattle.mseed_join.specs.private.Passing.{from_head, from_tail, or_bad, or_else, parts_of_head, parts_of_tail}
use Rattle.mseed_join.specs.private.Passing.{past_count, past_findings, past_key}
use Rattle.mseed_join.specs.private.Passing.{past_word}
use Rattle.mseed_join.proofs.Backwards.{digits_no_word, integer_no_word}
use Rattle.mseed_join.proofs.PassedFields.{after_prefix, key_on, word_on, AreFindings}
use Rattle.mseed_join.proofs.PassedFields.{IsField, count_field, start_field, rate_field, samples_field, leap_field}
use Rattle.mseed_join.proofs.PassedFields.{findings_field, key_past, word_past}

-- ---- a field more
neither : {X : Type 0} → (o : Option X) (x : X) → o ≡ None → o ≡ Some x → ⊥
neither o x e h = cc

-- some text begins as these bytes do
record Begins {X : Type 0} (Fits : X → Type 0) (bytes : List ℕ) (to : X → List ℕ → List ℕ) : Type 0 where
  x : X
  fits : Fits x
  rest : List ℕ
  ends : ends_field rest ≡ true
  is : bytes ≡ to x rest

-- where one does, these follow
abbrev Only : {X : Type 0} → (X → Type 0) → List ℕ → (X → List ℕ → List ℕ) → List ℕ → Type 0
Only {X} Fits bytes to r = (x : X) (rest : List ℕ) → Fits x → ends_field rest ≡ true → bytes ≡ to x rest → rest ≡ r

first_of : {X : Type 0} → (line : List ℕ) (f : Field) (fs : List Field) (o : Option X) (others : X → Field)
    → (o ≡ None → IsGoodTo f line → ⊥)
    → ((x : X) → o ≡ Some x → IsGoodTo f line × IsFirstOf line (others x) fs)
    → IsFirstOf line (or_bad f o others) (f ∷ fs)
first_of line f fs o others h1 h2 = grind arith

-- how far bytes are read: as the text of this one, and as no other text
record Read {X : Type 0} (Fits : X → Type 0) (bytes : List ℕ) (to : X → List ℕ → List ℕ) (left : List ℕ) : Type 0 where
  x : X
  fits : Fits x
  is : bytes ≡ to x left
  only : Only Fits bytes to left

begin : {X : Type 0} {Fits : X → Type 0} (bytes : List ℕ) (x : X) → Fits x → Read Fits bytes (λ y rest. rest) bytes
begin bytes x fits = record { x = x; fits = fits; is = refl; only = λ y rest l ends is. sym is }

-- by what is read of the bytes that are left: where some text begins as these bytes do, its next field is there
step : {X V : Type 0} {Fits : X → Type 0} (line : List ℕ) {bytes left : List ℕ} {to : X → List ℕ → List ℕ}
    {FitsV : V → Type 0} {text : V → List ℕ} {word : List ℕ} {pass : List ℕ → Option (List ℕ)} (f : Field)
    (fs : List Field)
    (others : List ℕ → Field) → Read Fits bytes to left → IsField FitsV text word pass → (get : X → V)
    (put : X → V → X) → ((x : X) → Fits x → FitsV (get x)) → ((x : X) (v : V) → Fits x → FitsV v → Fits (put x v))
    → ((z : List ℕ) → ends_field (word ++ z) ≡ true)
    → ((x : X) (v : V) (rest : List ℕ) → to x (word ++ (text v ++ rest))
    ≡ to (put x v) (word ++ (text (get (put x v)) ++ rest)))
    → ((x : X) → Fits x → (rest : List ℕ) → ends_field rest ≡ true
    → bytes ≡ to x (word ++ (text (get x) ++ rest)) → IsGoodTo f line)
    → (IsGoodTo f line → Begins Fits bytes (λ x rest. to x (word ++ (text (get x) ++ rest))))
    → ((r : List ℕ) → ends_field r ≡ true → Read Fits bytes (λ x rest. to x (word ++ (text (get x) ++ rest))) r
    → IsFirstOf line (others r) fs)
    → IsFirstOf line (or_bad f (pass left) others) (f ∷ fs)
step {X} {Fits = Fits} line {bytes} {left} {to} {text = text} {word} {pass} f fs others m field get put get_fits
    put_fits space same good of more =
    first_of line f fs (pass left) others
    (λ none g. let b = of g in neither (pass left) b.rest none (reads b.x b.rest b.fits b.ends b.is)) (λ r some.
    let p = field.past left r some in
    let fits : Fits (put m.x p.x) = put_fits m.x p.x m.fits p.fits in
    let is : bytes ≡ to (put m.x p.x) (word ++ (text (get (put m.x p.x)) ++ r)) = search arith in (
      good (put m.x p.x) fits r p.ends is,
      more r p.ends (record {
        x = put m.x p.x;
        fits = fits;
        is = is;
        only = λ x rest fits ends is. same_Some rest r (sym (reads x rest fits ends is) ∙ some);
      }),
    ))
  where
    reads : (x : X) (rest : List ℕ) → Fits x → ends_field rest ≡ true
        → bytes ≡ to x (word ++ (text (get x) ++ rest)) → pass left ≡ Some rest
    reads x rest fits ends is = search arith

-- ---- channels
abbrev HasLine : List ℕ × Channel → Type 0
HasLine x = HasChannelLine x.0 x.1

begun : (line : List ℕ) (to : List ℕ → Channel → List ℕ → List ℕ) → BeginsAsChannel to line
    → Begins HasLine line (λ x. to x.0 x.1)
begun line to g = record { x = (g.key, g.channel); fits = g.has_line; rest = g.rest; ends = g.ends; is = g.is }

abbrev goods : {line : List ℕ} (to : List ℕ → Channel → List ℕ → List ℕ) (x : List ℕ × Channel) → HasLine x
    → (rest : List ℕ) → ends_field rest ≡ true → line ≡ to x.0 x.1 rest → BeginsAsChannel to line
goods to x fits rest ends is =
    record { key = x.0; channel = x.1; has_line = fits; rest = rest; is = is; ends = ends }

-- some finding
abbrev a_finding : Finding
a_finding = record { number = 0; offset = 0; why = Rate }

a_finding_fits : HasFinding a_finding
a_finding_fits = record { number = omega arith; offset = omega arith; why = tt }

-- with other findings
abbrev with : Channel → Findings → Channel
with c f = record { records = c.records; samples = c.samples; findings = f }

fits_with : (key : List ℕ) (c : Channel) (f : Findings) → HasChannelLine key c → HasFindings f
    → HasChannelLine key (with c f)
fits_with key c f h fits = search arith

ends_fit : (f : Findings) → HasFindings f → IfSome (head_in f) HasHead × IfSome (tail_in f) HasTail
ends_fit f h1 = grind arith

-- a line begins as that of a channel up to here, and goes on with these bytes; so does each channel's line with which
-- it begins, and this holds of the channel
record Reached (line : List ℕ) (to : List ℕ → Channel → List ℕ → List ℕ) (Q : Channel → Type 0) : Type 0 where
  good : BeginsAsChannel to line
  own : Q good.channel
  only : (x : List ℕ × Channel) (rest : List ℕ) → HasLine x → ends_field rest ≡ true → line ≡ to x.0 x.1 rest
      → (rest ≡ good.rest) × Q x.1

-- some channel's line begins as this one does with other findings
abbrev good_with : (line : List ℕ) (to : List ℕ → Channel → List ℕ → List ℕ) (key : List ℕ) (c : Channel) (f : Findings)
    (rest : List ℕ) → HasChannelLine key c → HasFindings f → ends_field rest ≡ true → line ≡ to key (with c f) rest
    → BeginsAsChannel to line
good_with line to key c f rest h fits ends is = record {
  key = key;
  channel = with c f;
  has_line = fits_with key c f h fits;
  rest = rest;
  is = is;
  ends = ends;
}

-- ---- the findings
abbrev has_head : Channel → Bool
has_head c = is_some (head_in c.findings)

abbrev has_both : Channel → Bool
has_both c = is_some (tail_in c.findings) && has_head c

-- a number of findings, by whether there are both a head and a tail
number_fits : (f : Findings) → HasFindings f → AreFindings (is_some (tail_in f) && is_some (head_in f)) (count_in f)
number_fits f h1 = grind (arith, lt-ltb)

-- so many findings of this head and this tail
record Makes (n : ℕ) (head : Option Head) (tail : Option Tail) : Type 0 where
  findings : Findings
  count_is : count_in findings ≡ n
  head_is : head_in findings ≡ head
  tail_is : tail_in findings ≡ tail
  fits : HasFindings findings

makes : (n : ℕ) (head : Option Head) (tail : Option Tail) → IfSome head HasHead → IfSome tail HasTail
    → AreFindings (is_some tail && is_some head) n → Makes n head tail
makes (suc n) head tail h t e = record {
  findings = Counted (suc n) a_finding head tail;
  count_is = refl;
  head_is = refl;
  tail_is = refl;
  fits = (omega arith, e.0, a_finding_fits, h, t);
}
makes zero head None h t e = absurd (let no : false ≡ true = e.1 in cc no)
makes zero None (Some tail) h t e = absurd (let no : false ≡ true = e.1 in cc no)
makes zero (Some head) (Some tail) h t e =
    record { findings = Nothing head tail; count_is = refl; head_is = refl; tail_is = refl; fits = (h, t) }

module _ (line : List ℕ) (both : Bool) (m : Reached line (to_tail to_tail_leap) (λ c. has_both c ≡ both))
    (never : (key : List ℕ) (c : Channel) → HasChannelLine key c → line ≢ channel_line key c) where
  first_from_findings : IsFirstOf line (from_findings both m.good.rest) (InFindings ∷ First ∷ [])
  first_from_findings =
      first_of line InFindings (First ∷ []) (past_findings both m.good.rest) (λ r. First) (λ none g.
      let n : ℕ = count_in g.channel.findings in
      let there = m.only (g.key, g.channel) (codes " findings " ++ (decimal n ++ g.rest)) g.has_line refl g.is in
      neither (past_findings both m.good.rest) g.rest none
      (ap (λ (z : List ℕ). past_findings both z) (sym there.0)
      ∙ (findings_field both).on n g.rest
      (subst (λ (b : Bool). AreFindings b n) there.1 (number_fits g.channel.findings g.has_line.findings)) g.ends))
      (λ r e.
      let p = (findings_field both).past m.good.rest r e in
      let old = ends_fit m.good.channel.findings m.good.has_line.findings in
      let made : Makes p.x (head_in m.good.channel.findings) (tail_in m.good.channel.findings) =
      search (arith, makes) in
      let is = m.good.is ∙ ap (λ (z : List ℕ). to_tail to_tail_leap m.good.key m.good.channel z) p.is in (
        good_with line to_findings m.good.key m.good.channel made.findings r m.good.has_line made.fits p.ends
            (rw (made.count_is, made.head_is, made.tail_is) is),
        inl (refl, λ g. never g.key g.channel g.has_line g.is),
      ))

-- ---- a head or a tail, or `none` in its place
-- where a line was reached, such a word stands, and what a channel's findings have
record Group {X : Type 0} (Fits : X → Type 0) (get : Findings → Option X) (word none : List ℕ)
    (last : X → List ℕ → List ℕ) : Type 0 where
  fit : (f : Findings) → HasFindings f → IfSome (get f) Fits
  spaced : (z : List ℕ) → ends_field (word ++ z) ≡ true
  splits : (z : List ℕ) → none ++ z ≡ word ++ (codes "none" ++ z)
  differs : (x : X) (z : List ℕ) → Fits x → past_word none (word ++ last x z) ≡ None

abbrev reached_as : {line : List ℕ} {to : List ℕ → Channel → List ℕ → List ℕ} {Q R : Channel → Type 0}
    → ((c : Channel) → Q c → R c) → Reached line to Q → Reached line to R
reached_as also m = record {
  good = m.good;
  own = also m.good.channel m.own;
  only = λ x rest fits ends is. let o = m.only x rest fits ends is in (o.0, also x.1 o.1);
}

module _ {X : Type 0} {Fits : X → Type 0} {get : Findings → Option X} {word none : List ℕ}
    {last : X → List ℕ → List ℕ} (g : Group Fits get word none last) {line : List ℕ}
    {to : List ℕ → Channel → List ℕ → List ℕ} {Q : Channel → Type 0} (m : Reached line to Q) where
  abbrev To : (X → List ℕ → List ℕ) → List ℕ → Channel → List ℕ → List ℕ
  To part key c rest = to key c (word ++ or_none part (get c.findings) rest)

  at : (part : X → List ℕ → List ℕ) (x : List ℕ × Channel) (rest : List ℕ) → HasLine x → line ≡ To part x.0 x.1 rest
      → (word ++ or_none part (get x.1.findings) rest ≡ m.good.rest) × Q x.1
  at part x rest fits is = m.only x (word ++ or_none part (get x.1.findings) rest) fits (g.spaced _) is

  -- where `none` stands there
  abbrev reached_none : (r : List ℕ) → past_word none m.good.rest ≡ Some r → (good : BeginsAsChannel (To last) line)
      → good.rest ≡ r → (is_some (get good.channel.findings) ≡ false) × Q good.channel
      → Reached line (To last) (λ c. (is_some (get c.findings) ≡ false) × Q c)
  reached_none r e good same own = record {
    good = good;
    own = own;
    only = λ x rest fits ends is.
        let a = at last x rest fits is in
        let u = by (get x.1.findings) rest (g.fit x.1.findings fits.findings) ends a.0 in
        (u.0 ∙ sym same, (u.1, a.1));
  }
    where
      by : (o : Option X) (rest : List ℕ) → IfSome o Fits → ends_field rest ≡ true
          → word ++ or_none last o rest ≡ m.good.rest → (rest ≡ r) × (is_some o ≡ false)
      by None rest fits ends is = (
        same_Some rest r (sym (word_on rest ends none) ∙ ap (past_word none) (g.splits rest ∙ is) ∙ e),
        refl,
      )
      by (Some x) rest fits ends is = absurd (neither (past_word none m.good.rest) r
          (ap (past_word none) (sym is) ∙ g.differs x rest fits) e)

  -- and where it doesn't
  module _ (lacks : past_word none m.good.rest ≡ None) where
    of_some : (part : X → List ℕ → List ℕ) (o : Option X) (rest : List ℕ) → IfSome o Fits → ends_field rest ≡ true
        → word ++ or_none part o rest ≡ m.good.rest
        → (x : X) × ((o ≡ Some x) × (Fits x × (m.good.rest ≡ word ++ part x rest)))
    of_some part o rest h1 h2 h3 = grind (arith, neither, word_on)

    part_of : (part : X → List ℕ → List ℕ) → BeginsAsChannel (To part) line
        → Begins Fits m.good.rest (λ x rest. word ++ part x rest)
    part_of part b =
        let f : Findings = b.channel.findings in
        let h = of_some part (get f) b.rest (g.fit f b.has_line.findings) b.ends
        (at part (b.key, b.channel) b.rest b.has_line b.is).0 in
        record { x = h.0; fits = h.1.1.0; rest = b.rest; ends = b.ends; is = h.1.1.1 }

    abbrev reached_some : (good : BeginsAsChannel (To last) line)
        → (is_some (get good.channel.findings) ≡ true) × Q good.channel
        → Only Fits m.good.rest (λ x rest. word ++ last x rest) good.rest
        → Reached line (To last) (λ c. (is_some (get c.findings) ≡ true) × Q c)
    reached_some good own only = record {
      good = good;
      own = own;
      only = λ x rest fits ends is.
          let a = at last x rest fits is in
          let u = of_some last (get x.1.findings) rest (g.fit x.1.findings fits.findings) ends a.0 in
          (only u.0 rest u.1.1.0 ends u.1.1.1, (ap is_some u.1.0, a.1));
    }

-- ---- the tail
abbrev one : Ratio
one = record { num = 1; den = 1 }

rate_one : IsRatio one
rate_one = search arith

tail_differs : (t : Tail) (z : List ℕ) → HasTail t
    → past_word (codes " tail none") (codes " tail " ++ (signed_decimal t.start ++ z)) ≡ None
unfolding past_word
tail_differs t z fits =
    rw (after_prefix (codes " tail ") (codes "none") (signed_decimal t.start ++ z) ∙
    integer_no_word t.start z fits.start)
    refl

abbrev tail : ℤ → ℕ → Ratio → Leap → Tail
tail start samples rate leap = record { start = start; samples = samples; rate = rate; leap = leap }

a_tail_fits : HasTail (tail (pos 0) 1 one NoLeap)
a_tail_fits = search (arith, rate_one)

tail_group : Group HasTail tail_in (codes " tail ") (codes " tail none") to_tail_leap
tail_group = search (arith, ends_fit, tail_differs)

module _ (line : List ℕ) (has : Bool) (m : Reached line (to_head to_head_rate) (λ c. has_head c ≡ has))
    (never : (key : List ℕ) (c : Channel) → HasChannelLine key c → line ≢ channel_line key c) where
  abbrev bytes : List ℕ
  bytes = m.good.rest

  -- a channel with this tail, or none
  abbrev findings_to : Option Tail → Findings
  findings_to t = Counted 1 a_finding (head_in m.good.channel.findings) t

  findings_fit : (t : Option Tail) → IfSome t HasTail → HasFindings (findings_to t)
  findings_fit t fits = search (arith, a_finding_fits, ends_fit)

  abbrev good_tail : (part : Tail → List ℕ → List ℕ) (t : Option Tail) → IfSome t HasTail → (rest : List ℕ)
      → ends_field rest ≡ true → bytes ≡ codes " tail " ++ or_none part t rest → BeginsAsChannel (to_tail part) line
  good_tail part t fits rest ends is =
      good_with line (to_tail part) m.good.key m.good.channel (findings_to t) rest m.good.has_line
      (findings_fit t fits) ends
      (m.good.is ∙ ap (λ (z : List ℕ). to_head to_head_rate m.good.key m.good.channel z) is)

  abbrev good : (part : Tail → List ℕ → List ℕ) (t : Tail) → HasTail t → (rest : List ℕ) → ends_field rest ≡ true
      → bytes ≡ codes " tail " ++ part t rest → BeginsAsChannel (to_tail part) line
  good part t = good_tail part (Some t)

  first_from_tail : IsFirstOf line (from_tail has bytes) tail_fields
  unfolding from_tail
  first_from_tail = by (past_word (codes " tail none") bytes) refl
    where
      by : (o : Option (List ℕ)) → past_word (codes " tail none") bytes ≡ o
          → IsFirstOf line (or_else o (from_findings false) (parts_of_tail has bytes)) tail_fields
      by None e =
          step line TailStart (TailSamples ∷ TailRate ∷ TailLeap ∷ InFindings ∷ First ∷ []) _
          (begin {Fits = HasTail} bytes (tail (pos 0) 1 one NoLeap) a_tail_fits) (start_field (codes " tail "))
          (λ t. t.start) (λ t s. tail s t.samples t.rate t.leap) (λ t h. h.start) (λ t s h k. assumption)
          (λ z. refl) (λ t s rest. refl) (good to_tail_start) (part_of tail_group m e to_tail_start) (λ a ends1 m1.
          step line TailSamples (TailRate ∷ TailLeap ∷ InFindings ∷ First ∷ []) _ m1 samples_field (λ t. t.samples)
          (λ t n. tail t.start n t.rate t.leap) (λ t h. (h.some, h.samples)) (λ t n h k. assumption)
          (λ z. refl) (λ t n rest. refl) (good to_tail_samples) (part_of tail_group m e to_tail_samples) (λ b ends2 m2.
          step line TailRate (TailLeap ∷ InFindings ∷ First ∷ []) _ m2 rate_field (λ t. t.rate)
          (λ t q. tail t.start t.samples q t.leap) (λ t h. h.rate) (λ t q h k. assumption)
          (λ z. refl) (λ t q rest. refl) (good to_tail_rate) (part_of tail_group m e to_tail_rate) (λ c ends3 m3.
          step line TailLeap (InFindings ∷ First ∷ []) _ m3 leap_field (λ t. t.leap)
          (λ t l. tail t.start t.samples t.rate l) (λ t h. tt) (λ t l h k. assumption)
          (λ z. refl) (λ t l rest. refl) (good to_tail_leap) (part_of tail_group m e to_tail_leap) (λ d ends4 m4.
          first_from_findings line has (reached_as (λ c q i. q.0 i && q.1 i) (reached_some tail_group m e
          (good to_tail_leap m4.x m4.fits d ends4 m4.is) (refl, m.own) m4.only)) never))))
      by (Some r) e =
          let w = word_past (codes " tail none") bytes r e in
          let good : (part : Tail → List ℕ → List ℕ) → BeginsAsChannel (to_tail part) line =
          λ part. good_tail part None tt r w.1 w.0 in
          let m2 = reached_none tail_group m r e (good to_tail_leap) refl (refl, m.own) in
          let last = first_from_findings line false (reached_as (λ c q i. q.0 i && q.1 i) m2) never in
          inr (good to_tail_start, inr (good to_tail_samples, inr (good to_tail_rate, inr (good to_tail_leap, last))))

-- ---- the head
head_differs : (h : Head) (z : List ℕ) → HasHead h
    → past_word (codes " head none") (codes " head " ++ (decimal h.number ++ z)) ≡ None
unfolding past_word
head_differs h z fits =
    rw (after_prefix (codes " head ") (codes "none") (decimal h.number ++ z)
    ∙ digits_no_word h.number z (omega (arith, fits.number))) refl

abbrev head : ℕ → ℕ → ℤ → Ratio → Head
head number offset start rate = record { number = number; offset = offset; start = start; rate = rate }

a_head_fits : HasHead (head 0 0 (pos 0) one)
a_head_fits = search (arith, rate_one)

head_group : Group HasHead head_in (codes " head ") (codes " head none") to_head_rate
head_group = search (arith, ends_fit, head_differs)

module _ (line : List ℕ) (m : Reached line to_samples (λ c. Unit {0}))
    (never : (key : List ℕ) (c : Channel) → HasChannelLine key c → line ≢ channel_line key c) where
  abbrev left : List ℕ
  left = m.good.rest

  -- a channel with this head, or none
  abbrev findings_with : Option Head → Findings
  findings_with h = Counted 1 a_finding h None

  findings_are : (h : Option Head) → IfSome h HasHead → HasFindings (findings_with h)
  findings_are h fits = (omega arith, omega arith, a_finding_fits, fits, tt)

  abbrev good_head : (part : Head → List ℕ → List ℕ) (h : Option Head) → IfSome h HasHead → (rest : List ℕ)
      → ends_field rest ≡ true → left ≡ codes " head " ++ or_none part h rest → BeginsAsChannel (to_head part) line
  good_head part h fits rest ends is =
      good_with line (to_head part) m.good.key m.good.channel (findings_with h) rest m.good.has_line
      (findings_are h fits) ends
      (m.good.is ∙ ap (λ (z : List ℕ). to_samples m.good.key m.good.channel z) is)

  abbrev of_head : (part : Head → List ℕ → List ℕ) (h : Head) → HasHead h → (rest : List ℕ)
      → ends_field rest ≡ true → left ≡ codes " head " ++ part h rest → BeginsAsChannel (to_head part) line
  of_head part h = good_head part (Some h)

  first_from_head : IsFirstOf line (from_head left) head_fields
  unfolding from_head
  first_from_head = by (past_word (codes " head none") left) refl
    where
      by : (o : Option (List ℕ)) → past_word (codes " head none") left ≡ o
          → IsFirstOf line (or_else o (from_tail false) (parts_of_head left)) head_fields
      by None e =
          step line HeadNumber (HeadOffset ∷ HeadStart ∷ HeadRate ∷ tail_fields) _
          (begin {Fits = HasHead} left (head 0 0 (pos 0) one) a_head_fits) (count_field (codes " head "))
          (λ h. h.number) (λ h n. head n h.offset h.start h.rate) (λ h l. l.number) (λ h n l k. assumption)
          (λ z. refl) (λ h n rest. refl) (of_head to_head_number) (part_of head_group m e to_head_number) (λ a ends1 m1.
          step line HeadOffset (HeadStart ∷ HeadRate ∷ tail_fields) _ m1 (count_field (codes " ")) (λ h. h.offset)
          (λ h o. head h.number o h.start h.rate) (λ h l. l.offset) (λ h o l k. assumption)
          (λ z. refl) (λ h o rest. refl) (of_head to_head_offset) (part_of head_group m e to_head_offset) (λ b ends2 m2.
          step line HeadStart (HeadRate ∷ tail_fields) _ m2 (start_field (codes " ")) (λ h. h.start)
          (λ h s. head h.number h.offset s h.rate) (λ h l. l.start) (λ h s l k. assumption)
          (λ z. refl) (λ h s rest. refl) (of_head to_head_start) (part_of head_group m e to_head_start) (λ c ends3 m3.
          step line HeadRate tail_fields _ m3 rate_field (λ h. h.rate) (λ h q. head h.number h.offset h.start q)
          (λ h l. l.rate) (λ h q l k. assumption)
          (λ z. refl) (λ h q rest. refl) (of_head to_head_rate) (part_of head_group m e to_head_rate) (λ d ends4 m4.
          first_from_tail line true (reached_as (λ c q. q.0) (reached_some head_group m e
          (of_head to_head_rate m4.x m4.fits d ends4 m4.is) (refl, tt) m4.only)) never))))
      by (Some r) e =
          let w = word_past (codes " head none") left r e in
          let good : (part : Head → List ℕ → List ℕ) → BeginsAsChannel (to_head part) line =
          λ part. good_head part None tt r w.1 w.0 in
          let m2 = reached_none head_group m r e (good to_head_rate) refl (refl, tt) in
          let last = first_from_tail line false (reached_as (λ c q. q.0) m2) never in
          inr (good to_head_number, inr (good to_head_offset, inr (good to_head_start, inr (good to_head_rate, last))))

-- ---- the first bad field
abbrev pub NoChannel : List ℕ → Type 0
NoChannel line = (key : List ℕ) (c : Channel) → HasChannelLine key c → line ≢ channel_line key c

abbrev pub NoCounts : List ℕ → Type 0
NoCounts line = (records bytes : ℕ) → HasCountsLine records bytes → line ≢ counts_line records bytes

first_in_channel : (line : List ℕ) → NoChannel line → IsFirstOf line (bad_in_channel line) channel_fields
unfolding bad_in_channel
first_in_channel line never =
    first_of line Key (Records ∷ Samples ∷ head_fields) (past_key line) _ (λ none g.
    neither (past_key line) g.rest none (ap past_key g.is
    ∙ key_on g.rest g.ends g.key g.has_line.key_length g.has_line.key_bytes)) (λ a e.
    let k = key_past line a e in
    let m : Read HasLine line (λ x. to_key x.0 x.1) a = record {
      x = (k.0, record { records = 0; samples = 0; findings = Counted 1 a_finding None None });
      fits = record {
        key_length = k.1;
        key_bytes = k.2;
        records = omega arith;
        samples = omega arith;
        findings = (omega arith, omega arith, a_finding_fits, tt, tt);
      };
      is = k.3;
      only = λ x rest l ends is. same_Some rest a (sym (ap past_key is
          ∙ key_on rest ends x.0 l.key_length l.key_bytes) ∙ e);
    } in (
      goods to_key m.x m.fits a k.4 m.is,
      step line Records (Samples ∷ head_fields) _ m (count_field (codes " records ")) (λ x. x.1.records)
          (λ x n. (x.0, record (x.1) { records = n })) (λ x l. l.records) (λ x n l r. assumption) (λ z. refl)
          (λ x n rest. refl) (goods to_records) (begun line to_records) (λ b ends1 m1.
          step line Samples head_fields _ m1 (count_field (codes " samples ")) (λ x. x.1.samples)
          (λ x n. (x.0, record (x.1) { samples = n })) (λ x l. l.samples) (λ x n l s. assumption) (λ z. refl)
          (λ x n rest. refl) (goods to_samples) (begun line to_samples) (λ c ends2 m2.
          first_from_head line (record {
            good = goods to_samples m2.x m2.fits c ends2 m2.is;
            own = tt;
            only = λ x rest fits ends is. (m2.only x rest fits ends is, tt);
          }) never)),
    ))

first_in_counts : (line : List ℕ) → NoCounts line → IsFirstOf line (bad_in_counts line) counts_fields
unfolding bad_in_counts
first_in_counts line never =
    first_of line AllRecords (AllBytes ∷ []) (past_count (codes "records ") line) (λ rest. AllBytes) (λ none g.
    neither (past_count (codes "records ") line) g.rest none
    (ap (λ (z : List ℕ). past_count (codes "records ") z) g.is
    ∙ (count_field (codes "records ")).on g.records g.rest g.has_line.records_fit g.ends)) (λ r e.
    let n = (count_field (codes "records ")).past line r e in (
      record {
        records = n.x;
        bytes = 0;
        has_line = record { records_fit = n.fits; bytes_fit = omega arith };
        rest = r;
        is = n.is;
        ends = n.ends;
      },
      inl (refl, λ g. never g.records g.bytes g.has_line g.is),
    ))

pub of_counts : (line : List ℕ) (field : Field) → starts_with nat_eq line (codes "records ") ≡ true
    → field ≡ bad_in_counts line → NoCounts line → IsFirstBad field line
of_counts line field e is never = search (arith, first_in_counts)

pub of_channel : (line : List ℕ) (field : Field) → starts_with nat_eq line (codes "records ") ≡ false
    → field ≡ bad_in_channel line → NoChannel line → IsFirstBad field line
of_channel line field e is never = search (arith, first_in_channel)

-- ---- there is one
one_of : (line : List ℕ) (f g : Field) (fs : List Field) → IsFirstOf line f fs → IsFirstOf line g fs → f ≡ g
one_of line f g [] a b = absurd a
one_of line f g (h ∷ hs) (inl a) (inl b) = a.0 ∙ sym b.0
one_of line f g (h ∷ hs) (inl a) (inr b) = absurd (a.1 b.0)
one_of line f g (h ∷ hs) (inr a) (inl b) = absurd (b.1 a.0)
one_of line f g (h ∷ hs) (inr a) (inr b) = one_of line f g hs a.1 b.1

pub bad_field_one : (field other : Field) (line : List ℕ) → IsFirstBad field line → IsFirstBad other line
    → field ≡ other
bad_field_one field other line a b = one_of line field other (fields_of line) a b
