-- A record is asked for exactly where the test says so.
use Rattle.std.proofs.Common.{◌≡◌, ◌≢◌, ◌⊎◌, ℕ, ◌-◌, ◌*◌, ◌^◌, refl, ap, ◌∙◌, arith, Bool, true, cond}
use Rattle.std.proofs.Common.{◌&&◌, inl, inr, Option, Some, None, ℤ, pos, ◌+ℤ◌, ◌-ℤ◌, ◌*ℤ◌}
use Rattle.std.proofs.Common.{◌≤ℤ◌, ◌<ℤ◌}
use Rattle.std.specs.Prelude.{int_le, int_lt}
use Rattle.std.proofs.lemmas.Bool.{and_parts}
use Rattle.std.proofs.lemmas.Int.{ints}
use Rattle.std.specs.Bool.{Decides}
use Rattle.mseed_time.specs.Join.{drift_of}
use Rattle.mseed_time.specs.Rate.{Ratio}
use Rattle.mseed_time.specs.declared.fault.TimeFault.{TimeFault}
use Rattle.mseed_record.specs.Header.{key_at, samples_at}
use Rattle.mseed_record.specs.View.{View, start_of}
use Rattle.mseed_record.specs.Pattern.{is_of_channels}
use Rattle.mseed_record.specs.Selection.{BeginsBefore, IsAskedFor, IsInWindow, LacksTime, LastsTo, Reaches, Selection}
use Rattle.mseed_record.specs.Selection.{answer_by, answer_in, answer_of, asks_for, begins_before, is_asked}
use Rattle.mseed_record.specs.Selection.{is_without_time, lacks_time}
use Rattle.mseed_record.specs.Selection.{lasts_to, rate_in, reaches, start_fault}
use Rattle.mseed_record.specs.declared.answer.Answer.{Answer}
use Rattle.mseed_record.specs.declared.answer.Answer.TheVariants.{AskedFor, Left, NoTime}
use Rattle.mseed_select.proofs.Matched.{channels_back, channels_yes}

-- ---- the window
le_decides : (a b : ℤ) → Decides (int_le a b) (a ≤ℤ b)
le_decides a b = ((λ h. grind (arith, ints, h)), (λ h. grind (arith, ints, h)))

lt_decides : (a b : ℤ) → Decides (int_lt a b) (a <ℤ b)
lt_decides a b = ((λ h. grind (arith, ints, h)), (λ h. grind (arith, ints, h)))

lasts_decides : (rate : Option Ratio) (start : ℤ) (samples : ℕ) (instant : ℤ)
    → Decides (lasts_to rate start samples instant) (LastsTo rate start samples instant)
lasts_decides None start samples instant = le_decides instant start
lasts_decides (Some rate) start samples instant =
    le_decides ((instant -ℤ start) *ℤ pos rate.num) (pos ((samples - 1) * rate.den * 10 ^ 6))

reaches_decides : (from : Option ℤ) (v : View) → Decides (reaches from v) (Reaches from v)
reaches_decides None v = ((λ e. tt), (λ t. refl))
reaches_decides (Some from) v = lasts_decides (rate_in v) (start_of v) (samples_at v.order v.bytes) from

begins_decides : (until : Option ℤ) (v : View) → Decides (begins_before until v) (BeginsBefore until v)
begins_decides None v = ((λ e. tt), (λ t. refl))
begins_decides (Some until) v = lt_decides (start_of v) until

by_asked : (fault : Option TimeFault) (b : Bool) → answer_by fault b ≡ AskedFor → (fault ≡ None) × (b ≡ true)
by_asked fault b e = search arith

by_unknown : (fault : Option TimeFault) (b : Bool) → answer_by fault b ≡ NoTime → fault ≢ None
by_unknown fault b e none = grind arith

by_known : (fault : Option TimeFault) (b : Bool) → fault ≢ None → answer_by fault b ≡ NoTime
by_known (Some fault) b ne = refl
by_known None b ne = absurd (ne refl)

window_yes : (from until : Option ℤ) (v : View) → answer_in from until v ≡ AskedFor → IsInWindow from until v
window_yes None None v e = tt
window_yes None (Some until) v e =
    let h = by_asked (start_fault v) (reaches None v && begins_before (Some until) v) e in
    let w = and_parts (reaches None v) (begins_before (Some until) v) h.1 in
    (h.0, tt, (begins_decides (Some until) v).0 w.1)
window_yes (Some from) until v e =
    let h = by_asked (start_fault v) (reaches (Some from) v && begins_before until v) e in
    let w = and_parts (reaches (Some from) v) (begins_before until v) h.1 in
    (h.0, (reaches_decides (Some from) v).0 w.0, (begins_decides until v).0 w.1)

window_back : (from until : Option ℤ) (v : View) → IsInWindow from until v → answer_in from until v ≡ AskedFor
window_back None None v w = refl
window_back None (Some until) v w = rw (w.0, (begins_decides (Some until) v).1 w.2) refl
window_back (Some from) until v w =
    rw (w.0, (reaches_decides (Some from) v).1 w.1, (begins_decides until v).1 w.2) refl

window_unknown : (from until : Option ℤ) (v : View) → answer_in from until v ≡ NoTime
    → ((from ≢ None) ⊎ (until ≢ None)) × (start_fault v ≢ None)
window_unknown None None v e = absurd (let f : AskedFor ≡ NoTime = e in cc f)
window_unknown None (Some until) v e =
    (inr (λ n. absurd (cc n)), by_unknown (start_fault v) (reaches None v && begins_before (Some until) v) e)
window_unknown (Some from) until v e =
    (inl (λ n. absurd (cc n)), by_unknown (start_fault v) (reaches (Some from) v && begins_before until v) e)

window_bounded : (from until : Option ℤ) (v : View) → (from ≢ None) ⊎ (until ≢ None) → start_fault v ≢ None
    → answer_in from until v ≡ NoTime
window_bounded None None v (inl ne) unknown = absurd (ne refl)
window_bounded None None v (inr ne) unknown = absurd (ne refl)
window_bounded None (Some until) v bounded unknown =
    by_known (start_fault v) (reaches None v && begins_before (Some until) v) unknown
window_bounded (Some from) until v bounded unknown =
    by_known (start_fault v) (reaches (Some from) v && begins_before until v) unknown

-- ---- both
chosen : (b : Bool) (a : Answer) → cond b a Left ≡ AskedFor → (b ≡ true) × (a ≡ AskedFor)
chosen b a e = search arith

chosen_unknown : (b : Bool) (a : Answer) → cond b a Left ≡ NoTime → (b ≡ true) × (a ≡ NoTime)
chosen_unknown b a e = search arith

pub asked_yes : (s : Selection) (v : View) → answer_of s v ≡ AskedFor → IsAskedFor s v
asked_yes s v e =
    let h =
    chosen (is_of_channels s.channels (key_at v.bytes)) (answer_in s.from s.until v) e in record {
      channel = channels_yes s.channels (key_at v.bytes) h.0;
      window = window_yes s.from s.until v h.1;
    }

pub asked_back : (s : Selection) (v : View) → IsAskedFor s v → answer_of s v ≡ AskedFor
asked_back s v a =
    rw (channels_back s.channels (key_at v.bytes) a.channel) (window_back s.from s.until v a.window)

pub lacks_yes : (s : Selection) (v : View) → answer_of s v ≡ NoTime → LacksTime s v
lacks_yes s v e =
    let h = chosen_unknown (is_of_channels s.channels (key_at v.bytes)) (answer_in s.from s.until v) e in
    let w = window_unknown s.from s.until v h.1 in record {
      channel = channels_yes s.channels (key_at v.bytes) h.0;
      bounded = w.0;
      unknown = w.1;
    }

pub lacks_back : (s : Selection) (v : View) → LacksTime s v → answer_of s v ≡ NoTime
lacks_back s v l =
    rw (channels_back s.channels (key_at v.bytes) l.channel) (window_bounded s.from s.until v l.bounded l.unknown)

is_asked_yes : (a : Answer) → is_asked a ≡ true → a ≡ AskedFor
is_asked_yes a e = search arith

pub asks_for_yes : (s : Selection) (v : View) → asks_for s v ≡ true → IsAskedFor s v
asks_for_yes s v e = asked_yes s v (is_asked_yes (answer_of s v) e)

pub asks_for_back : (s : Selection) (v : View) → IsAskedFor s v → asks_for s v ≡ true
asks_for_back s v a = ap (λ (x : Answer). is_asked x) (asked_back s v a)

-- ---- instants
-- a difference that is nothing or less
pub less_than : (x y : ℤ) → int_le (x -ℤ y) (pos 0) ≡ int_le x y
less_than x y = grind (arith, ints)

pub no_more : (x y : ℤ) → ((x -ℤ y) +ℤ pos 0) ≡ x -ℤ y
no_more x y = omega (arith, ints)

-- a miss that is nothing or less is of an instant that the last sample reaches
pub lasts_is : (start : ℤ) (n : ℕ) (rate : Ratio) (instant miss : ℤ)
    → miss ≡ drift_of start (n - 1) rate (pos 0) instant
    → int_le miss (pos 0) ≡ lasts_to (Some rate) start n instant
lasts_is start n rate instant miss e =
    let due : ℤ = pos ((n - 1) * rate.den * 10 ^ 6) in
    ap (λ (m : ℤ). int_le m (pos 0))
    (e ∙ ap (λ (d : ℤ). d *ℤ pos rate.num -ℤ due) (no_more instant start))
    ∙ less_than ((instant -ℤ start) *ℤ pos rate.num) due

unknown_yes : (a : Answer) → is_without_time a ≡ true → a ≡ NoTime
unknown_yes a e = search arith

pub lacks_time_yes : (s : Selection) (v : View) → lacks_time s v ≡ true → LacksTime s v
lacks_time_yes s v e = lacks_yes s v (unknown_yes (answer_of s v) e)

pub lacks_time_back : (s : Selection) (v : View) → LacksTime s v → lacks_time s v ≡ true
lacks_time_back s v l = ap (λ (a : Answer). is_without_time a) (lacks_back s v l)
