-- What is written of a channel goes on where its records do, and shows a gap or an overlap where they leave one.
use Rattle.std.proofs.lemmas.Bool.{eq-eqb}
use Rattle.std.proofs.Common.{◌≡◌, ◌≢◌, ℕ, suc, ◌+◌, ◌*◌, ◌^◌, ◌<◌, ◌≤◌, nat_le}
use Rattle.std.proofs.Common.{false, List, []}
use Rattle.std.proofs.Common.{◌∷◌, ◌++◌, length, refl, sym, ap, subst, ◌∙◌, arith, ℤ, pos, negsuc}
use Rattle.std.proofs.Common.{neg_ℤ, unsigned_abs}
use Rattle.std.proofs.Common.{◌/◌, ◌+ℤ◌, ◌*ℤ◌, ◌-ℤ◌, IsTrue}
use Rattle.std.proofs.Common.{Option, Some, append-nil, append_assoc}
use Rattle.std.specs.List.{AllByRecursion, concat}
use Rattle.std.proofs.lemmas.Bool.Decides.{nat_tests}
use Rattle.std.proofs.lemmas.Int.{ints}
use Rattle.std.proofs.lemmas.List.{map-append}
use Rattle.std.proofs.ByRecursion.{All-append}
use Rattle.std.proofs.lemmas.Option.{same_Some}
use Rattle.mseed_time.specs.declared.outcome.Join.{Join}
use Rattle.mseed_time.specs.declared.outcome.Join.TheVariants.{Late, Early}
use Rattle.mseed_time.specs.Join.{join_by, step_of}
use Rattle.mseed_time.specs.Rate.{Ratio, SameRate}
use Rattle.mseed_record.specs.declared.leap.Leap.{Leap}
use Rattle.mseed_record.specs.declared.leap.Leap.TheVariants.{Both}
use Rattle.mseed_record.specs.Header.{key_at}
use Rattle.mseed_record.specs.View.{View, IsView, leap_of, start_of}
use Rattle.mseed_steim.specs.Reading.{HasOneReading, count_of}
use Rattle.mseed_audit.specs.Channels.{is_of_channel}
use Rattle.mseed_audit.specs.declared.finding.Why.{Why}
use Rattle.mseed_audit.specs.declared.finding.Why.TheVariants.{Gap, Overlap}
use Rattle.mseed_audit.specs.Follows.{AllNeighbours, Follows, IsContinuous, IsSound}
use Rattle.mseed_audit.specs.Judging.{IsFound, after, step_in, why_after, why_by, why_from, why_of}
use Rattle.mseed_audit.specs.Series.{Trace}
use Rattle.mseed_audit.proofs.Maps.{same_itself}
use Rattle.mseed_repack.specs.Stretches.{AreStretches, AreStretchesUpTo, samples_of}
use Rattle.mseed_repack.proofs.Drifts.{close_alike, far_alike, same_rates, signed_misses}
use borrow.Author.Differences.{up, down}
use Rattle.mseed_repack.proofs.Joining.{both_some, continuous}
use Rattle.mseed_repack.proofs.Runs.{samples_append}
use Rattle.mseed_pack.proofs.ReadBack.{stand}
use Rattle.mseed_pack.specs.declared.options.Options.{Options}
use Rattle.mseed_pack.specs.ReadBack.{AreViewsOf}
use Rattle.mseed_pack.proofs.Followed.{AreAt, are_views, bytes_in, continuous_at, laid, samples_in}
use Rattle.mseed_pack.proofs.ReadBack.{HaveOneViews}
use Rattle.mseed_pack.proofs.Viewed.{HeadersReadBack, PackedSpells}
use Rattle.mseed_repack.specs.Borders.{AreReadAs, IsClose, IsFar, IsFoundAfter, KeepsBorders, LeavesGap, MissesBy}
use Rattle.mseed_repack.specs.Borders.{Overlaps}
use Rattle.mseed_repack.specs.Restretch.{ChannelFits, IsChannelPacked}
use Rattle.mseed_repack.proofs.Borders.{AreBordering, IsBorder, IsLaid, bordering, joined_samples, miss_at, samples_at}
use Rattle.mseed_repack.proofs.ChannelReadBack.{IsPackedStretch, each_packed}
use Rattle.mseed_pack.proofs.Called.{OneSeries}
use Rattle.mseed_repack.proofs.Each.{AreMade, each_at_back, each_in_leading, each_made, nothing_there}
use Rattle.mseed_repack.proofs.Misses.{half_of}

-- those of records of one key are of that key
of_key_at : (key : List ℕ) (s : Trace) (first : ℕ) (vs : List View) (samples : List ℤ) → s.codes ≡ key
    → AreAt s first vs samples → AllByRecursion (λ (v : View). IsTrue (is_of_channel key v)) vs
of_key_at key s first [] samples e h = tt
of_key_at key s first (v ∷ vs) samples e h =
    grind (arith, nat_tests, same_itself, of_key_at key s (first + length h.0) vs h.1.0 e h.1.1.2)

each_of_key : (key : List ℕ) (vs : List View) (ss : List (List View)) (ws : List View) → AreStretchesUpTo vs ss []
    → AllByRecursion (λ (v : View). key_at v.bytes ≡ key) vs → AreMade IsLaid ss ws
    → AllByRecursion (λ (v : View). IsTrue (is_of_channel key v)) ws
each_of_key key vs [] ws cut keys e = grind (arith)
each_of_key key vs (s ∷ ss) ws (left, (first, cut)) keys (own, (rest, (parts, here, more))) =
    let P : View → Type 0 = λ v. key_at v.bytes ≡ key in
    let all : AllByRecursion P (s ++ left) = rw first.parts at keys in
    let of_first = rw here.series.parts at (each_in_leading P s left all) in
    rw parts (All-append (λ (v : View). IsTrue (is_of_channel key v)) own rest
    (of_key_at key here.trace 0 own here.trace.samples (here.series.codes ∙ of_first.0) here.at)
    (each_of_key key left ss rest cut (each_at_back P s left all) more))

-- Two neighbours that were read stand in one stretch, or in two, or behind it.
where_is : {So : Type 0} (leading : List View) (b v : View) (back s rest : List View)
    → leading ++ b ∷ (v ∷ back) ≡ s ++ rest → ((behind : List View) → s ≡ leading ++ b ∷ (v ∷ behind) → So)
    → (s ≡ leading ++ b ∷ [] → rest ≡ v ∷ back → So)
    → ((further : List View) → leading ≡ s ++ further → rest ≡ further ++ b ∷ (v ∷ back) → So) → So
where_is leading b v back [] rest e inside between later = later leading refl (sym e)
where_is [] b v back (x ∷ []) rest e inside between later =
    let here : x ∷ [] ≡ b ∷ [] = cc in
    let there : rest ≡ v ∷ back = cc in
    between here there
where_is [] b v back (x ∷ (y ∷ s)) rest e inside between later =
    let here : x ∷ (y ∷ s) ≡ b ∷ (v ∷ s) = cc in
    inside s here
where_is (w ∷ leading) b v back (x ∷ s) rest e inside between later =
    let here : w ≡ x = cc in
    let there : leading ++ b ∷ (v ∷ back) ≡ s ++ rest = cc in
    where_is leading b v back s rest there (λ behind split. inside behind (λ i. sym here i ∷ split i))
    (λ split. between (λ i. sym here i ∷ split i)) (λ further split. later further (λ i. here i ∷ split i))

neighbours_at : {X : Type 0} (R : X → X → Type 0) (leading : List X) (b v : X) (back : List X)
    → AllNeighbours R (leading ++ b ∷ (v ∷ back)) → R b v
neighbours_at R [] b v back h = h.0
neighbours_at R (x ∷ []) b v back h = h.1.0
neighbours_at R (x ∷ (y ∷ leading)) b v back h = neighbours_at R (y ∷ leading) b v back h.1

neighbours_after : {X : Type 0} (R : X → X → Type 0) (xs ys : List X) → AllNeighbours R (xs ++ ys) → AllNeighbours R ys
neighbours_after R [] ys h = h
neighbours_after R (x ∷ []) [] h = tt
neighbours_after R (x ∷ []) (y ∷ ys) h = h.1
neighbours_after R (x ∷ (z ∷ xs)) ys h = neighbours_after R (z ∷ xs) ys h.1

neighbours_joined : {X : Type 0} (R : X → X → Type 0) (xs : List X) (b v : X) (ys : List X)
    → AllNeighbours R (xs ++ b ∷ []) → R b v → AllNeighbours R (v ∷ ys) → AllNeighbours R (xs ++ b ∷ (v ∷ ys))
neighbours_joined R [] b v ys h at k = (at, k)
neighbours_joined R (x ∷ []) b v ys h at k = (h.0, (at, k))
neighbours_joined R (x ∷ (y ∷ xs)) b v ys h at k = (h.0, neighbours_joined R (y ∷ xs) b v ys h.1 at k)

-- By what they miss, the two records that are written at a border follow one another, or don't.

-- a gap or an overlap of more than half a period is found
why_reported : (leap : Leap) (join : Join) → leap ≢ Both → why_by leap join ≡ why_of join
why_reported leap join h = grind (arith)

late_by : (rate : Ratio) (z miss drift : ℤ) (left : ℕ) → z ≡ (miss +ℤ drift) +ℤ pos left
    → (3 * (rate.den * 10 ^ 6) + 4 * rate.num) + 4 * down miss ≤ 4 * up miss
    → 4 * unsigned_abs drift ≤ rate.den * 10 ^ 6 → 0 < rate.num → (us : ℕ) × (join_by z rate ≡ Late us)
late_by rate (pos n) miss drift left e far near some =
    let wide : rate.den * 10 ^ 6 < 2 * n = omega (arith, ints) in
    let more : nat_le (2 * n) (rate.den * 10 ^ 6) ≡ false = grind (arith, nat_tests) in
    (n / rate.num, rw more refl)
late_by rate (negsuc n) miss drift left e far near some = absurd (omega (arith, ints))

early_by : (rate : Ratio) (z miss drift : ℤ) (left : ℕ) → z ≡ (miss +ℤ drift) +ℤ pos left
    → (3 * (rate.den * 10 ^ 6) + 4 * rate.num) + 4 * up miss ≤ 4 * down miss
    → 4 * unsigned_abs drift ≤ rate.den * 10 ^ 6 → left < rate.num → (us : ℕ) × (join_by z rate ≡ Early us)
early_by rate (pos n) miss drift left e far near small = absurd (omega (arith, ints))
early_by rate (negsuc n) miss drift left e far near small =
    let wide : rate.den * 10 ^ 6 < 2 * suc n = omega (arith, ints) in
    let more : nat_le (2 * suc n) (rate.den * 10 ^ 6) ≡ false = grind (arith, nat_tests) in
    (suc n / rate.num, rw more refl)

module _ (b v last next : View) (h : IsBorder b v last next) where
  own_rate : {rate : Ratio} {miss : ℤ} → MissesBy b v rate miss → rate ≡ h.own
  own_rate {rate = rate} by = same_Some rate h.own (sym by.rate_is ∙ h.own_is)

  -- the rates of both are one
  rates_at : {rate : Ratio} {miss : ℤ} → MissesBy b v rate miss → SameRate h.rate h.comes.rate
  rates_at {rate = rate} by =
      let coming = same_Some by.next h.comes.rate (sym by.next_is ∙ h.comes.read_is) in
      let same : SameRate h.own h.comes.rate = rw (own_rate by, coming) at by.same in
      same_rates _ _ _ _ _ _ h.own_counts.1 (sym h.same) same

  close_follows : IsClose b v → Follows last next
  close_follows (rate, (miss, (by, close))) =
      let mine = rw (← by.miss_is, own_rate by) at close in
      let here = close_alike _ _ _ _ _ _ h.own_counts.1 (sym h.same) mine in
      let half = half_of (miss_at b v h.rate) h.drift h.left h.rate.num (h.rate.den * 10 ^ 6) here h.near h.small in (
        h.rate,
        (
          h.comes.rate,
          record {
            before_is = h.rate_is;
            next_is = h.comes.rate_is;
            same = rates_at by;
            one_step = h.reported;
            joins = rw h.miss half;
          },
        ),
      )

  -- what is found, by how much the later one misses
  found_by : {rate : Ratio} {miss : ℤ} → MissesBy b v rate miss → (join : Join)
      → join_by (miss_at last next h.rate) h.rate ≡ join → IsFound (Some last) next (why_of join)
  found_by by join e =
      let is_same = eq-eqb (h.rate.num * h.comes.rate.den) (h.comes.rate.num * h.rate.den) (rates_at by) in
      let why : why_after (Some last) next h.comes.rate ≡ why_of join =
      ap (λ (o : Option Ratio). why_from last o next h.comes.rate) h.rate_is
      ∙ rw is_same (ap (λ (j : Join). why_by (leap_of last.bytes) j) e
      ∙ why_reported (leap_of last.bytes) join h.reported) in
      subst (λ (w : Option Why). IsFound (Some last) next w) why
      (after h.comes.rate h.comes.rate_is h.comes.samples h.comes.whole)

  -- by the clock of what was written the later record misses as much as by that of what was read
  misses_alike : {rate : Ratio} {miss : ℤ} → MissesBy b v rate miss
      → miss *ℤ pos h.rate.den ≡ miss_at b v h.rate *ℤ pos h.own.den
  misses_alike by =
      let is = rw (own_rate by) at by.miss_is in
      rw is at (signed_misses (start_of v -ℤ start_of b +ℤ step_of (step_in (leap_of b.bytes))) h.rate.num h.rate.den
      h.own.num h.own.den (count_of b) (sym h.same))

  gap_found : LeavesGap b v → (us : ℕ) × IsFound (Some last) next (Some (Gap us))
  gap_found (rate, (miss, (by, far))) =
      let wide = rw (own_rate by) at far in
      let same = misses_alike by in
      let M : ℤ = miss_at b v h.rate in
      let ahead = far_alike miss 0 (up M) (down M) h.rate.num h.rate.den h.own.num h.own.den h.own_counts.1 (sym h.same)
      (omega (arith, ints, same)) (omega (arith, wide)) in
      let late = late_by h.rate (miss_at last next h.rate) M h.drift h.left h.miss ahead h.near h.counts.0 in
      (late.0, found_by by (Late late.0) late.1)

  overlap_found : Overlaps b v → (us : ℕ) × IsFound (Some last) next (Some (Overlap us))
  overlap_found (rate, (miss, (by, far))) =
      let wide = rw (own_rate by) at far in
      let same = misses_alike by in
      let M : ℤ = miss_at b v h.rate in
      let z : ℤ = neg_ℤ (pos miss) in
      let behind = far_alike (down z) (up z) (down M) (up M) h.rate.num h.rate.den h.own.num h.own.den h.own_counts.1
      (sym h.same) (omega (arith, ints, same)) (omega (arith, ints, wide)) in
      let early = early_by h.rate (miss_at last next h.rate) M h.drift h.left h.miss behind h.near h.small in
      (early.0, found_by by (Early early.0) early.1)

-- neighbours within half a period aren't so far from one another
never_far : (b v : View) (rate : Ratio) (miss : ℤ) (size : ℕ) → unsigned_abs miss ≡ size → MissesBy b v rate miss
    → IsFar rate size → ¬ (Follows b v)
never_far b v rate miss size e by far (own, (next, follows)) =
    let same : own ≡ rate = same_Some own rate (sym follows.before_is ∙ by.rate_is) in
    let joins = rw same at follows.joins in
    let half : 2 * size ≤ rate.den * 10 ^ 6 = rw (by.miss_is, e) at joins in
    let counts = (both_some b rate by.rate_is).0 in
    omega (arith, half, far, counts)

-- What two neighbours do that don't follow one another, and what is found of it where it is written.
record Shows (R : View → View → Type 0) (why : ℕ → Why) : Type 0 where
  apart : (b v : View) → R b v → ¬ (Follows b v)
  found : (b v last next : View) → IsBorder b v last next → R b v → (us : ℕ) × IsFound (Some last) next (Some (why us))

gaps_show : Shows LeavesGap (λ us. Gap us)
gaps_show = record {
  apart = λ b v (rate, (miss, (by, far))). never_far b v rate (pos miss) miss refl by far;
  found = gap_found;
}

overlaps_show : Shows Overlaps (λ us. Overlap us)
overlaps_show = record {
  apart = λ b v (rate, (miss, (by, far))). never_far b v rate (neg_ℤ (pos miss)) miss (omega (arith, ints)) by far;
  found = overlap_found;
}

-- Where it is found.

-- the records of the next stretch, and what was written of it
record NextLaid (v : View) (ws : List View) : Type 0 where
  further : List View
  own : List View
  rest : List View
  parts : ws ≡ own ++ rest
  here : IsLaid (v ∷ further) own

next_laid : (left : List View) (v : View) (back : List View) (ss : List (List View)) (ws : List View) → left ≡ v ∷ back
    → AreStretchesUpTo left ss [] → AreMade IsLaid ss ws → NextLaid v ws
next_laid left v back [] ws e cut all = absurd (nothing_there [] v back (sym cut ∙ e))
next_laid left v back ([] ∷ ss) ws e (others, (first, cut)) all = absurd first.stretch
next_laid left v back ((w ∷ s) ∷ ss) ws e (others, (first, cut)) (own, (rest, (parts, here, more))) = grind (arith)

-- what was written on both sides of a border, among all
at_border : (ws own others rest tail : List View) (b v : View) (h : AreBordering b v own others) → ws ≡ own ++ rest
    → rest ≡ others ++ tail → ws ≡ h.before ++ h.last ∷ (h.next ∷ (h.behind ++ tail))
at_border ws own others rest tail b v h h' h2 = grind (arith, append_assoc)

own_size : (s own : List View) → IsLaid s own → samples_of own ≡ samples_of s
own_size s own h = grind (arith, samples_at, joined_samples)

-- what is found after a stretch
later : {why : ℕ → Why} (s own leading further rest ws : List View) (b v : View) → IsLaid s own → ws ≡ own ++ rest
    → leading ≡ s ++ further → IsFoundAfter why (samples_of (further ++ b ∷ [])) (start_of v) rest
    → IsFoundAfter why (samples_of (leading ++ b ∷ [])) (start_of v) ws
later s own leading further rest ws b v here parts split there =
    let own_is : samples_of own ≡ samples_of s = own_size s own here in
    let mine = ap samples_of (append_assoc own there.before (there.last ∷ [])) ∙ samples_append own (there.before ++
    there.last ∷ []) in
    let its = ap (λ (us : List View). samples_of (us ++ b ∷ [])) split ∙ ap samples_of (append_assoc s further (b ∷ []))
    ∙ samples_append s (further ++ b ∷ []) in
    let place_there = there.place in
    record {
      before = own ++ there.before;
      last = there.last;
      next = there.next;
      behind = there.behind;
      parts = parts ∙ ap (λ (us : List View). own ++ us) there.parts
          ∙ sym (append_assoc own there.before (there.last ∷ (there.next ∷ there.behind)));
      place = omega (arith, own_is, mine, its, place_there);
      start_is = there.start_is;
      microseconds = there.microseconds;
      found = there.found;
    }

find : {R : View → View → Type 0} {why : ℕ → Why} → Shows R why → (vs : List View) (ss : List (List View))
    (ws leading : List View) (b v : View) (back : List View) → AreStretchesUpTo vs ss [] → AreMade IsLaid ss ws → R b v
    → vs ≡ leading ++ b ∷ (v ∷ back) → IsFoundAfter why (samples_of (leading ++ b ∷ [])) (start_of v) ws
find shows vs [] ws leading b v back cut all r e = absurd (nothing_there leading b (v ∷ back) (sym cut ∙ e))
find {R} {why} shows vs (s ∷ ss) ws leading b v back (left, (first, cut)) (own, (rest, (parts, here, more))) r e =
    where_is leading b v back s left (sym e ∙ first.parts) inside between
    (λ further split follows. later s own leading further rest ws b v here parts split
    (find shows left ss rest further b v back cut more r follows))
  where
    inside : (behind : List View) → s ≡ leading ++ b ∷ (v ∷ behind)
        → IsFoundAfter why (samples_of (leading ++ b ∷ [])) (start_of v) ws
    inside behind split =
        let all = rw split at (continuous s here.sound here.stretch).follow in
        absurd (shows.apart b v r (neighbours_at Follows leading b v behind all))

    between : s ≡ leading ++ b ∷ [] → left ≡ v ∷ back
        → IsFoundAfter why (samples_of (leading ++ b ∷ [])) (start_of v) ws
    between split follows =
        let next = next_laid left v back ss rest follows cut more in
        let at = bordering s leading next.further own next.own b v here next.here split in
        let found = shows.found b v at.last at.next at.border r in
        record {
          before = at.before;
          last = at.last;
          next = at.next;
          behind = at.behind ++ next.rest;
          parts = at_border ws own next.own rest next.rest b v at parts next.parts;
          place = ap samples_of (sym at.parts) ∙ own_size s own here ∙ ap samples_of split;
          start_is = at.border.comes.start;
          microseconds = found.0;
          found = found.1;
        }

-- Where each record is close to the one before it, what is written is continuous.

record Ending (vs : List View) : Type 0 where
  before : List View
  last : View
  parts : vs ≡ before ++ last ∷ []

ending : (v : View) (vs : List View) → Ending (v ∷ vs)
ending v [] = record { before = []; last = v; parts = refl }
ending v (w ∷ vs) =
    let rest = ending w vs in
    record { before = v ∷ rest.before; last = rest.last; parts = ap (λ (us : List View). v ∷ us) rest.parts }

some_written : (vs : List View) (ss : List (List View)) (ws : List View) → vs ≢ [] → AreStretchesUpTo vs ss []
    → AreMade IsLaid ss ws → ws ≢ []
some_written vs [] ws some cut all none = some cut
some_written vs (s ∷ ss) ws some cut ([], (rest, (parts, here, more))) none = here.some here.at
some_written vs (s ∷ ss) ws some cut (v ∷ own, (rest, (parts, here, more))) none = grind (arith, nothing_there)

-- What was written of a channel: its views, which are of the key of its records.
pub record IsOwn (vs : List View) (records : List (List ℕ)) : Type 0 where
  pub views : List View
  pub are : AreViewsOf records views
  pub of_key : (key : List ℕ) → AllByRecursion (λ (v : View). key_at v.bytes ≡ key) vs
      → AllByRecursion (λ (v : View). IsTrue (is_of_channel key v)) views
  pub borders : KeepsBorders vs views

module _ (headers : HeadersReadBack) (spells : PackedSpells) (single : (v : View) → HasOneReading v)
    (once : HaveOneViews) (series : OneSeries) where
  -- the views of what was written of each stretch
  all_laid : (ss : List (List View)) (records : List (List ℕ)) → AreMade IsPackedStretch ss records
      → (ws : List View) × (AreMade IsLaid ss ws × (bytes_in ws ≡ records))
  all_laid [] records e = ([], (refl, sym e))
  all_laid (s ∷ ss) records (own, (rest, (parts, here, more))) =
      let behind = all_laid ss rest more in
      let trace : Trace = here.packed.trace in
      let k = here.packed.packing in
      let whole : samples_in k.pieces ≡ trace.samples = sym (append-nil (samples_in k.pieces)) ∙ k.joined in
      let lies = laid headers spells trace here.options here.traced here.fits 0 0 k.pieces whole k.placed k.each in
      let bytes = lies.bytes ∙ k.bytes in
      let first : IsLaid s lies.views = record {
        trace = trace;
        is = here.traced;
        slow = here.fits.slow;
        some = here.fits.some;
        series = here.packed.series;
        at = subst (λ (xs : List ℤ). AreAt trace 0 lies.views xs) whole lies.at;
        stretch = here.is.stretch;
        sound = here.is.sound;
      } in
      let all = map-append (λ (v : View). v.bytes) lies.views behind.0 ∙ (λ i. bytes i ++ behind.1.1 i) ∙ sym parts in
      (lies.views ++ behind.0, ((lies.views, (behind.0, (refl, first, behind.1.0))), all))

  own_continuous : (s own : List View) → IsLaid s own → IsContinuous own
  own_continuous s own h = continuous_at single h.trace h.is h.slow h.some own h.at

  all_follow : (vs : List View) (ss : List (List View)) (ws : List View) → AllNeighbours IsClose vs
      → AreStretchesUpTo vs ss [] → AreMade IsLaid ss ws → AllNeighbours Follows ws
  all_follow vs [] ws close cut e = rw e tt
  all_follow vs (s ∷ []) ws close cut (own, (rest, (parts, here, none))) =
      rw (parts, none, append-nil own) (own_continuous s own here).follow
  all_follow vs ([] ∷ (t ∷ ts)) ws close (left, (first, cut)) all = absurd first.stretch
  all_follow vs ((w ∷ s) ∷ ([] ∷ ts)) ws close (left, (first, (others, (second, cut)))) all = absurd second.stretch
  all_follow vs ((w ∷ s) ∷ ((v ∷ t) ∷ ts)) ws close (left, (first, cut)) (own, (rest, (parts, here, more))) =
      let end = ending w s in
      let second = cut.1.0 in
      let back : List View = t ++ cut.0 in
      let all : vs ≡ end.before ++ end.last ∷ (v ∷ back) =
      first.parts ∙ (λ i. end.parts i ++ second.parts i) ∙ append_assoc end.before (end.last ∷ []) (v ∷ back) in
      let near = neighbours_at IsClose end.before end.last v back (rw all at close) in
      let at = bordering (w ∷ s) end.before t own more.0 end.last v here more.1.1.1 end.parts in
      let behind =
      all_follow left ((v ∷ t) ∷ ts) rest (neighbours_after IsClose (w ∷ s) left (rw first.parts at close)) cut more in
      let next : rest ≡ at.next ∷ (at.behind ++ more.1.0) = more.1.1.0 ∙ (λ i. at.parts_after i ++ more.1.0) in
      rw (at_border ws own more.0 rest more.1.0 end.last v at parts more.1.1.0)
      (neighbours_joined _ _ _ _ _ (rw at.parts at (own_continuous (w ∷ s) own here).follow) (close_follows end.last v
      at.last at.next at.border near) (rw next at behind))

  keeps_borders : (vs : List View) (ss : List (List View)) (ws : List View) → AreStretches vs ss
      → AreMade IsLaid ss ws → KeepsBorders vs ws
  keeps_borders vs ss ws cut all = record {
    continuous = λ some close. record {
      some = some_written vs ss ws some cut all;
      each = each_made IsLaid IsSound (λ s own h. (own_continuous s own h).each) ss ws all;
      follow = all_follow vs ss ws close cut all;
    };
    gap = λ leading b v back e gap. find gaps_show vs ss ws leading b v back cut all gap e;
    overlap = λ leading b v back e overlap. find overlaps_show vs ss ws leading b v back cut all overlap e;
  }

  -- What was written of a channel: its views, which are of its key.
  pub own_of : (o : Options) (vs : List View) (records : List (List ℕ)) → AllByRecursion IsView vs → ChannelFits o vs
      → IsChannelPacked o vs records → IsOwn vs records
  own_of o vs records views fits packed =
      let all = all_laid packed.stretches records (each_packed series o vs records views fits packed) in
      record {
        views = all.0;
        are = record {
          bytes = all.1.1;
          each = each_made _ _ (λ s own h. are_views h.trace 0 own h.trace.samples h.at) _ _ all.1.0;
        };
        of_key = λ key keys. each_of_key key vs packed.stretches all.0 packed.are keys all.1.0;
        borders = keeps_borders vs packed.stretches all.0 packed.are all.1.0;
      }

  -- what is so of the views of what was written
  pub read_as : (o : Options) (vs : List View) (records : List (List ℕ)) (P : List View → Type 0)
      → AllByRecursion IsView vs → ChannelFits o vs → IsChannelPacked o vs records
      → ((ws : List View) → KeepsBorders vs ws → P ws) → AreReadAs P records
  read_as o vs records P views fits packed is_so =
      let own = own_of o vs records views fits packed in
      record {
        views = own.views;
        are = own.are;
        only = λ others h. once (concat records) (length (concat records)) others own.views (stand others records h)
            (stand own.views records own.are);
        is_so = is_so own.views own.borders;
      }
