-- A time of day is read from its texts, and from no other.
use Rattle.std.proofs.Common.{◌≡◌, ◌⊎◌, ℕ, ◌+◌, ◌*◌, ◌≤◌, refl, sym}
use Rattle.std.proofs.Common.{◌∙◌, ap, arith}
use Rattle.std.proofs.Common.{List, [], ◌∷◌, ◌++◌, Option, Some, None, inl, inr}
use Rattle.std.proofs.Common.{eqb}
use Rattle.std.specs.List.{join_with_byte, slice_split}
use Rattle.mseed_time.specs.Text.{padded_decimal}
use Rattle.mseed_select.specs.declared.clocks.Clock.{Clock}
use Rattle.mseed_select.specs.Word.{clock_at, clock_by_parts, clock_by_seconds, clock_in_hour, clock_of}
use Rattle.mseed_select.specs.Word.{fraction_of, number_in}
use Rattle.mseed_select.proofs.Padded.{IsFraction, Lacks, lacks_both, digits_lack, fraction_digits, fraction_of-back}
use Rattle.mseed_select.proofs.Padded.{fraction_of-is}
use Rattle.mseed_select.proofs.Padded.{number_in-is, number_in-padded, number_of-2, padded_lack}
use Rattle.mseed_select.proofs.TimeParts.{joined, one_part, three_parts, two_parts}

-- ---- what stands there
abbrev pub hour_text : ℕ → List ℕ
hour_text h = padded_decimal 2 h

abbrev pub minute_text : ℕ → ℕ → List ℕ
minute_text h m = padded_decimal 2 h ++ 58 ∷ padded_decimal 2 m

abbrev pub second_text : ℕ → ℕ → ℕ → List ℕ
second_text h m s = padded_decimal 2 h ++ 58 ∷ (padded_decimal 2 m ++ 58 ∷ padded_decimal 2 s)

abbrev pub fine_text : ℕ → ℕ → ℕ → List ℕ → List ℕ
fine_text h m s f = padded_decimal 2 h ++ 58 ∷ (padded_decimal 2 m ++ 58 ∷ (padded_decimal 2 s ++ 46 ∷ f))

-- a text of these fields, of which the last that are 0 may be left out
abbrev pub IsForm : List ℕ → ℕ → ℕ → ℕ → ℕ → Type 0
IsForm text h m s u =
    ((text ≡ hour_text h) × (m ≡ 0) × (s ≡ 0) × (u ≡ 0))
    ⊎ (((text ≡ minute_text h m) × (s ≡ 0) × (u ≡ 0))
    ⊎ (((text ≡ second_text h m s) × (u ≡ 0))
    ⊎ ((f : List ℕ) × (text ≡ fine_text h m s f) × IsFraction f u)))

pub record IsShape (text : List ℕ) (h m s u : ℕ) : Type 0 where
  pub hour : h ≤ 23
  pub minute : m ≤ 59
  pub second : s ≤ 60
  pub form : IsForm text h m s u

abbrev pub value_of : ℕ → ℕ → ℕ → ℕ → ℕ
value_of h m s u = ((h * 60 + m) * 60 + s) * 1_000_000 + u

-- ---- read
two_digits : (low high x : ℕ) → low ≤ x → x ≤ high → high ≤ 99 → number_in 2 low high (padded_decimal 2 x) ≡ Some x
two_digits low high x l h few = number_in-padded 2 low high x (number_of-2 x (omega arith)) l h

lack_58 : (x : ℕ) → Lacks 58 (padded_decimal 2 x)
lack_58 x = padded_lack 58 2 x (inl (omega arith))

lack_46 : (x : ℕ) → Lacks 46 (padded_decimal 2 x)
lack_46 x = padded_lack 46 2 x (inr (omega arith))

-- what stands behind the minute
seconds_read : (h m : ℕ) (second : List ℕ) → h ≤ 23 → m ≤ 59 → Lacks 58 second
    → clock_of (padded_decimal 2 h ++ 58 ∷ (padded_decimal 2 m ++ 58 ∷ second))
    ≡ clock_by_seconds h (Some m) (slice_split (λ (x : ℕ). eqb x 46) second)
seconds_read h m second k l none =
    rw (three_parts 58 (padded_decimal 2 h) (padded_decimal 2 m) second (lack_58 h) (lack_58 m) none)
    (rw (two_digits 0 23 h (omega arith) k (omega arith), two_digits 0 59 m (omega arith) l (omega arith)) refl)

fine_lacks : (s u : ℕ) (f : List ℕ) → IsFraction f u → Lacks 58 (padded_decimal 2 s ++ 46 ∷ f)
fine_lacks s u f is =
    lacks_both 58 (padded_decimal 2 s) 46 f (lack_58 s) refl
    (digits_lack 58 f (inl (omega arith)) (fraction_digits f u is))

pub shape_read : (text : List ℕ) (h m s u : ℕ) → IsShape text h m s u
    → clock_of text ≡ Some (record { hour = h; minute = m; second = s; micros = u })
shape_read text h m s u is = by is.form
  where
    hour : number_in 2 0 23 (padded_decimal 2 h) ≡ Some h
    hour = two_digits 0 23 h (omega arith) is.hour (omega arith)

    second : number_in 2 0 60 (padded_decimal 2 s) ≡ Some s
    second = two_digits 0 60 s (omega arith) is.second (omega arith)

    by : IsForm text h m s u → clock_of text ≡ Some (record { hour = h; minute = m; second = s; micros = u })
    by (inl a) = rw (a.0, a.1, a.2, a.3) (rw (one_part 58 (padded_decimal 2 h) (lack_58 h), hour) refl)
    by (inr (inl a)) =
        let two = two_parts 58 (padded_decimal 2 h) (padded_decimal 2 m) (lack_58 h) (lack_58 m) in
        rw (a.0, a.1, a.2) (rw (two, hour, two_digits 0 59 m (omega arith) is.minute (omega arith)) refl)
    by (inr (inr (inl a))) = rw (a.0, a.1) (seconds_read h m (padded_decimal 2 s) is.hour is.minute (lack_58 s)
        ∙ rw (one_part 46 (padded_decimal 2 s) (lack_46 s), second) refl)
    by (inr (inr (inr a))) =
        let none = digits_lack 46 a.0 (inr (omega arith)) (fraction_digits a.0 u a.2) in
        rw a.1 (seconds_read h m (padded_decimal 2 s ++ 46 ∷ a.0) is.hour is.minute (fine_lacks s u a.0 a.2)
        ∙ rw (two_parts 46 (padded_decimal 2 s) a.0 (lack_46 s) none, second, fraction_of-back a.0 u a.2) refl)

-- ---- known by what was read
pub record IsRead (text : List ℕ) (c : Clock) : Type 0 where
  pub hour : ℕ
  pub minute : ℕ
  pub second : ℕ
  pub micros : ℕ
  pub shape : IsShape text hour minute second micros
  pub clock : c ≡ record { hour = hour; minute = minute; second = second; micros = micros }

at_is : (h : ℕ) (om os ou : Option ℕ) (c : Clock) → clock_at h om os ou ≡ Some c
    → (m : ℕ) × (s : ℕ) × (u : ℕ) × (om ≡ Some m) × (os ≡ Some s) × (ou ≡ Some u)
    × (c ≡ record { hour = h; minute = m; second = s; micros = u })
at_is h (Some m) (Some s) (Some u) c e = (m, s, u, refl, refl, refl, sym (cc e))
at_is h om os ou c e = cc (e)

read_as : (text : List ℕ) (h m s u : ℕ) (c : Clock) → c ≡ record { hour = h; minute = m; second = s; micros = u }
    → h ≤ 23 → m ≤ 59 → s ≤ 60 → IsForm text h m s u → IsRead text c
read_as text h m s u c is k l n form = record {
  hour = h;
  minute = m;
  second = s;
  micros = u;
  shape = record { hour = k; minute = l; second = n; form = form };
  clock = is;
}

-- by what stands around the point
seconds_is : (h : ℕ) (hour minute second : List ℕ) (om : Option ℕ) (parts : List (List ℕ)) (c : Clock) → h ≤ 23
    → hour ≡ padded_decimal 2 h → number_in 2 0 59 minute ≡ om → second ≡ join_with_byte 46 parts
    → clock_by_seconds h om parts ≡ Some c → IsRead (hour ++ 58 ∷ (minute ++ 58 ∷ second)) c
seconds_is h hour minute second om (a ∷ []) c k first minute_in joins e =
    let is = at_is h om (number_in 2 0 60 a) (Some 0) c e in
    let m = number_in-is 2 0 59 minute is.0 (minute_in ∙ is.3) in
    let s = number_in-is 2 0 60 a is.1 is.4 in
    let none : is.2 ≡ 0 = sym (cc is.5) in
    read_as _ h is.0 is.1 is.2 c is.6 k m.most s.most
    (inr (inr (inl (λ i. first i ++ 58 ∷ (m.text_is i ++ 58 ∷ (joins ∙ s.text_is) i), none))))
seconds_is h hour minute second om (a ∷ b ∷ []) c k first minute_in joins e =
    let is = at_is h om (number_in 2 0 60 a) (fraction_of b) c e in
    let m = number_in-is 2 0 59 minute is.0 (minute_in ∙ is.3) in
    let s = number_in-is 2 0 60 a is.1 is.4 in
    read_as _ h is.0 is.1 is.2 c is.6 k m.most s.most
    (inr (inr (inr (
      b,
      λ i. first i ++ 58 ∷ (m.text_is i ++ 58 ∷ (joins ∙ ap (λ (t : List ℕ). t ++ 46 ∷ b) s.text_is) i),
      (fraction_of-is b is.2 is.5).0,
    ))))
seconds_is h hour minute second om parts c k first minute_in joins e = cc (e)

-- by what stands around the colons
hour_is : (hour : List ℕ) (oh : Option ℕ) (parts : List (List ℕ)) (c : Clock) → number_in 2 0 23 hour ≡ oh
    → clock_in_hour oh parts ≡ Some c → IsRead (join_with_byte 58 (hour ∷ parts)) c
hour_is hour (Some h) [] c hour_in e =
    let is = at_is h (Some 0) (Some 0) (Some 0) c e in
    let first = number_in-is 2 0 23 hour h hour_in in
    let none : (is.0 ≡ 0) × (is.1 ≡ 0) × (is.2 ≡ 0) = (sym (cc is.3), sym (cc is.4), sym (cc is.5)) in
    read_as hour h is.0 is.1 is.2 c is.6 first.most (omega (arith, none.0)) (omega (arith, none.1))
    (inl (first.text_is, none.0, none.1, none.2))
hour_is hour (Some h) (minute ∷ []) c hour_in e =
    let is = at_is h (number_in 2 0 59 minute) (Some 0) (Some 0) c e in
    let first = number_in-is 2 0 23 hour h hour_in in
    let m = number_in-is 2 0 59 minute is.0 is.3 in
    let none : (is.1 ≡ 0) × (is.2 ≡ 0) = (sym (cc is.4), sym (cc is.5)) in
    read_as _ h is.0 is.1 is.2 c is.6 first.most m.most (omega (arith, none.0))
    (inr (inl (λ i. first.text_is i ++ 58 ∷ m.text_is i, none.0, none.1)))
hour_is hour (Some h) (minute ∷ second ∷ []) c hour_in e =
    let first = number_in-is 2 0 23 hour h hour_in in
    seconds_is h hour minute second (number_in 2 0 59 minute) (slice_split (λ (x : ℕ). eqb x 46) second) c first.most
    first.text_is refl (joined 46 second _ refl) e
hour_is hour oh parts c hour_in e = cc (e)

parts_is : (parts : List (List ℕ)) (c : Clock) → clock_by_parts parts ≡ Some c → IsRead (join_with_byte 58 parts) c
parts_is [] c e = absurd (let f : None ≡ Some c = e in cc f)
parts_is (hour ∷ parts) c e = hour_is hour (number_in 2 0 23 hour) parts c refl e

pub clock_read : (text : List ℕ) (c : Clock) → clock_of text ≡ Some c → IsRead text c
clock_read text c e =
    let parts : List (List ℕ) = slice_split (λ (x : ℕ). eqb x 58) text in
    rw (joined 58 text parts refl) (parts_is parts c e)
