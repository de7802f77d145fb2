-- Channels that are packed by lists of stretches.
use Rattle.std.proofs.Common.{◌≡◌, ◌≢◌, ℕ, zero, suc, ◌+◌, ◌-◌, ◌<◌, ◌≤◌, ◌^◌, List, [], ◌∷◌, ◌++◌}
use Rattle.std.proofs.Common.{length, take, drop, get_or, refl, sym, ap, subst, ◌∙◌, arith, append_assoc, append-nil}
use Rattle.std.proofs.Common.{length-append}
use Rattle.std.specs.Prelude.{Option, None, unwrap_or, Result, Ok, Err, IfOk, IfErr}
use Rattle.std.specs.List.{AllByRecursion, concat}
use Rattle.std.proofs.lemmas.List.{drop_all, drop_more, same_from_push, take_all}
use Rattle.std.proofs.lemmas.List.Folds.{concat-append}
use Rattle.mseed_record.specs.View.{View}
use Rattle.mseed_stream.specs.Device.{BytesWritten}
use Rattle.mseed_audit.specs.Follows.{IsSound}
use Rattle.mseed_audit.specs.Series.{Trace, IsSeriesOf}
use Rattle.mseed_repack.specs.Stretches.{AreStretches, AreStretchesUpTo, IsFirstStretch}
use Rattle.mseed_pack.specs.Outcome.{EmittedAll, EmittedPrefix}
use Rattle.mseed_pack.specs.declared.fault.PackFault.{PackFault}
use Rattle.mseed_steim.specs.declared.encoding.Encoding.{Encoding}
use Rattle.mseed_pack.specs.declared.options.Options.{Options}
use Rattle.mseed_repack.specs.Repack.{Channel, IsPackedInPart, IsStretchPacked, StretchFits}
use Rattle.mseed_repack.specs.Repack.{StretchMisfits, Wrote, records_in}
use Rattle.mseed_repack.specs.Restretch.{ArePackedOn, ChannelFits, IsNextStretch}
use Rattle.mseed_repack.specs.Restretch.{IsNumberedOn, more, none}
use Rattle.mseed_repack.specs.ByStretches.{AreFound}
use Rattle.mseed_repack.specs.private.Planning.{AreReady, CanBeWritten, GoesBy, IsCutAs, IsPartAs, IsPartOn}
use Rattle.mseed_repack.specs.private.Planning.{IsPlanned, IsReadable, IsReady, IsStretchText, IsStretchWritten}
use Rattle.mseed_repack.specs.private.Planning.{IsTextAs, IsTextOn, IsPackabilityAs, ready_next, ready_none}
use Rattle.mseed_repack.specs.private.Planning.{most_of, stretches_by}
use Rattle.mseed_repack.specs.private.Reading.{steps_of}
use Rattle.mseed_repack.specs.declared.plan.Plan.{Plan}
use Rattle.mseed_repack.specs.declared.plan.Way.{Way}
use Rattle.mseed_repack.specs.declared.packability.Packability.{Packability}
use Rattle.mseed_repack.specs.declared.packability.Packability.TheVariants.{Fit, Broken, Misfit}
use Rattle.mseed_repack.specs.declared.stretching.Cutting.{Cutting}
use Rattle.mseed_repack.specs.declared.stretching.Cutting.TheVariants.{Whole, Stretches}
use Rattle.mseed_repack.proofs.ChannelReadBack.{one_next}
use Rattle.mseed_repack.proofs.Each.{each_at_back, each_in_leading, nothing_there}
use Rattle.mseed_repack.proofs.ReadChannels.{steps_append}
use Rattle.mseed_repack.proofs.Stretched.{on_more, on_none}

-- what is so of a text that was written
pub wrote_as : {P Q : List ℕ → Type 0} {n : ℕ} {old new : BytesWritten} → ((text : List ℕ) → P text → Q text)
    → Wrote P n old new → Wrote Q n old new
wrote_as is wrote = search (is, wrote)

-- a stretch goes its way in more room, and whatever the sequence number is
pub goes_on : (encoding other : Encoding) (room next : ℕ) (way : Way) (s : List View) → other ≡ encoding → room ≤ next
    → GoesBy encoding room way s → GoesBy other next way s
goes_on encoding other room next way s h h2 h3 = grind (arith)

-- and so does one that is planned
roomier : {o : Options} {room places : ℕ} {way : Way} {s : List View} (next : ℕ) → room ≤ next
    → IsPlanned o room places way s → IsPlanned o next places way s
roomier next h h2 = grind (arith, goes_on)

pub written_on : (o : Options) (room next places : ℕ) (ps : List Plan) (vs : List View) → room ≤ next
    → CanBeWritten o room places ps vs → CanBeWritten o next places ps vs
written_on o room next places [] vs le all = tt
written_on o room next places (p ∷ ps) vs le all =
    (roomier next le all.0, written_on o room next places ps (drop (most_of p) vs) le all.1)

-- each stretch can be packed
fit_by : (o : Options) (room places : ℕ) (ps : List Plan) (vs : List View) → CanBeWritten o room places ps vs
    → AllByRecursion (StretchFits o) (stretches_by ps vs)
fit_by o room places [] vs all = tt
fit_by o room places (p ∷ ps) vs all = (all.0.fits, fit_by o room places ps (drop (most_of p) vs) all.1)

-- The stretches into which a channel is cut.

-- records that are left can be read
pub record CanGoOn (places : ℕ) (vs : List View) : Type 0 where
  pub sound : AllByRecursion IsSound vs
  pub few : length vs ≤ 2 ^ 40
  pub steps_fit : steps_of vs ≤ places

some_first : (vs s rest : List View) → IsFirstStretch vs s rest → s ≢ []
some_first vs s rest h = grind (arith)

pub first_fewer : (vs s rest : List View) → IsFirstStretch vs s rest → length rest < length vs
first_fewer vs s rest h = grind (arith, length-append)

-- the first stretch of them, and those after it
pub first_read : (places n : ℕ) (vs : List View) → CanGoOn places vs → IsFirstStretch vs (take n vs) (drop n vs)
    → IsReadable places (take n vs) × CanGoOn places (drop n vs)
first_read places n vs h h2 = grind (arith, length-append, steps_append, some_first, each_in_leading, each_at_back)

-- the records begin with stretches that are planned, up to those that are left
abbrev pub ArePlannedUpTo : Options → ℕ → ℕ → List Plan → List View → List View → Type 0
ArePlannedUpTo o room places [] vs left = vs ≡ left
ArePlannedUpTo o room places (p ∷ ps) vs left =
    IsFirstStretch vs (take (most_of p) vs) (drop (most_of p) vs) × IsPlanned o room places p.way (take (most_of p) vs)
    × ArePlannedUpTo o room places ps (drop (most_of p) vs) left

-- one more
pub planned_more : (o : Options) (room next places : ℕ) (ps : List Plan) (p : Plan) (vs left : List View) → room ≤ next
    → ArePlannedUpTo o room places ps vs left → IsFirstStretch left (take (most_of p) left) (drop (most_of p) left)
    → IsPlanned o next places p.way (take (most_of p) left)
    → ArePlannedUpTo o next places (ps ++ p ∷ []) vs (drop (most_of p) left)
planned_more o room next places [] p vs left le e first one = grind (arith)
planned_more o room next places (q ∷ ps) p vs left le all first one =
    grind (arith, roomier, planned_more o room next places ps p (drop (most_of q) vs) left le all.2 first one)

planned_cut : (o : Options) (room places : ℕ) (ps : List Plan) (vs left : List View)
    → ArePlannedUpTo o room places ps vs left → AreStretchesUpTo vs (stretches_by ps vs) left
planned_cut o room places [] vs left e = e
planned_cut o room places (p ∷ ps) vs left all =
    grind (arith, planned_cut o room places ps (drop (most_of p) vs) left all.2)

planned_written : (o : Options) (room places : ℕ) (ps : List Plan) (vs left : List View)
    → ArePlannedUpTo o room places ps vs left → CanBeWritten o room places ps vs
planned_written o room places [] vs left e = tt
planned_written o room places (p ∷ ps) vs left all =
    grind (arith, planned_written o room places ps (drop (most_of p) vs) left all.2)

as_planned : (ps : List Plan) (vs : List View) → length (stretches_by ps vs) ≡ length ps
as_planned [] vs = refl
as_planned (p ∷ ps) vs = ap suc (as_planned ps (drop (most_of p) vs))

-- where none is left, the channel fits
pub channel_fits : (o : Options) (room places : ℕ) (ps : List Plan) (vs : List View) → AllByRecursion IsSound vs
    → AreStretches vs (stretches_by ps vs) → CanBeWritten o room places ps vs → ChannelFits o vs
channel_fits o room places ps vs h h2 h3 = grind (arith, fit_by)

pub planned_all : (o : Options) (room places : ℕ) (ps : List Plan) (vs left : List View) → AllByRecursion IsSound vs
    → ArePlannedUpTo o room places ps vs left → left ≡ [] → IsReady Stretches o room places vs Fit ps
planned_all o room places ps vs left h h2 h3 = grind (arith, planned_written, planned_cut, channel_fits)

-- or the next one can't be packed
pub planned_misfit : (o : Options) (room next places further : ℕ) (ps : List Plan) (vs left s rest : List View)
    (n : ℕ) (fault : PackFault) → AllByRecursion IsSound vs → ArePlannedUpTo o room places ps vs left
    → IsFirstStretch left s rest → n ≡ length ps + 1 → StretchMisfits o fault s
    → IsReady Stretches o next further vs (Misfit n fault) ps
planned_misfit o room next places further ps vs left s rest n fault h h2 h3 h4 h5 =
    grind (arith, planned_cut, as_planned, fit_by, planned_written)

-- A channel that isn't cut is one stretch.

whole_is : (p : Plan) (vs : List View) → length vs ≤ 2 ^ 40 → p.records ≡ None → take (most_of p) vs ≡ vs
whole_is p vs few e =
    ap (λ (n : Option ℕ). take (unwrap_or n (2 ^ 64 - 1)) vs) e ∙ take_all (2 ^ 64 - 1) vs (omega (arith, few))

pub whole_fits : (o : Options) (room places : ℕ) (p : Plan) (ps : List Plan) (vs : List View) → IsReadable places vs
    → p.records ≡ None → ps ≡ p ∷ [] → StretchFits o vs → GoesBy o.encoding room p.way vs
    → IsReady Whole o room places vs Fit ps
whole_fits o room places p ps vs h h2 h3 h4 h5 = grind (arith, whole_is)

pub whole_misfits : (o : Options) (room places : ℕ) (ps : List Plan) (vs : List View) (fault : PackFault)
    → AllByRecursion IsSound vs → StretchMisfits o fault vs → IsReady Whole o room places vs (Misfit 1 fault) ps
whole_misfits o room places ps vs fault h h2 = grind (arith)

-- however it is cut, a channel is broken where a record isn't sound
pub broken_as : (cutting : Cutting) (o : Options) (room places : ℕ) (ps : List Plan) (vs : List View)
    → ¬ (AllByRecursion IsSound vs) → IsReady cutting o room places vs Broken ps
broken_as cutting o room places ps vs h = grind (arith)

-- The stretches that are written, one after another.

-- so many are written, and those that are left can be; the options are those of the next one
pub record IsPackedSo (o : Options) (room places : ℕ) (ss : List (List View)) (ps : List Plan) (left : List View)
    (next : Options) (old new : BytesWritten) : Type 0 where
  pub done : List (List View)
  pub parts : ss ≡ done ++ stretches_by ps left
  pub can : CanBeWritten o room places ps left
  pub records : List (List ℕ)
  pub packed : ArePackedOn o done records
  pub next_is : IsNumberedOn o (length records) next
  pub bytes : new.bytes ≡ old.bytes ++ concat records
  pub failures : new.failures ≡ old.failures

pub packed_none : (o : Options) (room places : ℕ) (ps : List Plan) (vs : List View) (s : BytesWritten)
    → o.first_sequence < 1_000_000 → CanBeWritten o room places ps vs
    → IsPackedSo o room places (stretches_by ps vs) ps vs o s s
packed_none o room places ps vs s few can = record {
  done = [];
  parts = refl;
  can = can;
  records = [];
  packed = none;
  next_is = on_none o few;
  bytes = sym (append-nil s.bytes);
  failures = refl;
}

-- where the next plan is met
pub packed_next : {o next : Options} {room places : ℕ} {ss : List (List View)} {left : List View}
    {old new : BytesWritten} (ps : List Plan) (k : ℕ) (p : Plan) (vs : List View) → k < length ps → vs ≡ left
    → IsPackedSo o room places ss (drop k ps) left next old new
    → IsPackedSo o room places ss (get_or ps k p ∷ drop (k + 1) ps) vs next old new
packed_next ps k p vs h h2 h3 = grind (arith, drop_more)

pub packed_more : {o next further : Options} {room places : ℕ} {ss : List (List View)} {p : Plan} {ps : List Plan}
    {vs : List View} {count : ℕ} {first old new : BytesWritten} → IsPackedSo o room places ss (p ∷ ps) vs next first old
    → Wrote (IsStretchText next (take (most_of p) vs) count) 0 old new → IsNumberedOn next count further
    → IsPackedSo o room places ss ps (drop (most_of p) vs) further first new
packed_more {o = o} {next = next} {further = further} {p = p} {ps = ps} {vs = vs} {count = count} {first = first} h
    wrote on =
    let s : List View = take (most_of p) vs in
    let one = wrote.text_is.series in
    let size : length (h.records ++ one.records) ≡ length h.records + length one.records =
    length-append h.records one.records in
    let behind : length h.records + count ≡ length (h.records ++ one.records) =
    omega (arith, size, wrote.text_is.count_is) in
    record {
      done = h.done ++ s ∷ [];
      parts = h.parts ∙ sym (append_assoc h.done (s ∷ []) (stretches_by ps (drop (most_of p) vs)));
      can = h.can.1;
      records = h.records ++ one.records;
      packed = more h.done s h.records one.records next h.packed h.next_is one.packed;
      next_is = rw behind at (on_more o next further (length h.records) count h.next_is on);
      bytes = wrote.bytes ∙ ap (λ (xs : List ℕ). xs ++ wrote.text) h.bytes
          ∙ append_assoc first.bytes (concat h.records) wrote.text
          ∙ ap (λ (xs : List ℕ). first.bytes ++ (concat h.records ++ xs)) one.text_is
          ∙ ap (λ (xs : List ℕ). first.bytes ++ xs) (sym (concat-append h.records one.records));
      failures = omega (arith, h.failures, wrote.failed);
    }

pub packed_all : {o next : Options} {room places : ℕ} {ss : List (List View)} {left : List View}
    {first new : BytesWritten} (ps : List Plan) (k : ℕ) → length ps ≤ k
    → IsPackedSo o room places ss (drop k ps) left next first new → Wrote (IsTextOn o ss) 0 first new
packed_all ps k h h2 = grind (arith, drop_all, append-nil)

pub packed_part : {o next : Options} {room places : ℕ} {ss : List (List View)} {p : Plan} {ps : List Plan}
    {vs : List View} {first old new : BytesWritten} → IsPackedSo o room places ss (p ∷ ps) vs next first old
    → Wrote (IsPackedInPart next (take (most_of p) vs)) 1 old new → Wrote (IsPartOn o ss) 1 first new
packed_part {next = next} {p = p} {ps = ps} {vs = vs} {first = first} h wrote = record {
  text = concat h.records ++ wrote.text;
  text_is = record {
    before = h.done;
    stretch = take (most_of p) vs;
    back = stretches_by ps (drop (most_of p) vs);
    parts = h.parts;
    records = h.records;
    packed = h.packed;
    options = next;
    numbered = h.next_is;
    own = wrote.text;
    part = wrote.text_is;
    text_is = refl;
  };
  bytes = wrote.bytes ∙ ap (λ (xs : List ℕ). xs ++ wrote.text) h.bytes
      ∙ append_assoc first.bytes (concat h.records) wrote.text;
  failed = omega (arith, h.failures, wrote.failed);
}

-- what packing a stretch left behind
pub emitted : (o : Options) (vs : List View) (s : Trace) (result : Result ℕ ℕ) (old new : BytesWritten)
    → IsSeriesOf s vs → IfOk result (λ count. EmittedAll s o count old new)
    → IfErr result (λ taken. EmittedPrefix s o taken old new) → IsStretchWritten o vs result old new
emitted o vs s (Ok count) old new series all part = record {
  text = concat all.records;
  text_is = record {
    series = record {
      records = all.records;
      packed = record { trace = s; series = series; packing = all.packing };
      text_is = refl;
    };
    count_is = all.count_is;
  };
  bytes = all.bytes;
  failed = omega (arith, all.failures);
}
emitted o vs s (Err taken) old new series all part = record {
  text = take taken (concat (part.records ++ part.last ∷ []));
  text_is = record {
    trace = s;
    series = series;
    records = part.records ++ part.last ∷ [];
    left = part.left;
    packing = part.packing;
    taken = taken;
    text_is = refl;
  };
  bytes = part.bytes;
  failed = part.failures;
}

-- The text of a channel whose records are cut so.

next_upto : (before back : List (List View)) (s vs left : List View) → AreStretchesUpTo vs (before ++ s ∷ back) left
    → IsNextStretch vs before s
next_upto [] back s vs left (rest, (first, behind)) = record { left = vs; cut = refl; rest = rest; first = first }
next_upto (b ∷ before) back s vs left (rest, (first, behind)) = grind (arith, next_upto before back s rest left behind)

on_nothing : (o : Options) (ss : List (List View)) (records : List (List ℕ)) → ArePackedOn o ss records → ss ≡ []
    → records ≡ []
on_nothing o ss records h h2 = grind (arith, nothing_there)

-- after nothing the options are the same
on_same : (o next : Options) (records : List (List ℕ)) → records ≡ [] → IsNumberedOn o (length records) next → next ≡ o
on_same o next records e on = one_next o next o 0 (rw e at on) (on_none o o.numbered)

on_one : (o : Options) (ss : List (List View)) (s : List View) (records : List (List ℕ)) → ArePackedOn o ss records
    → ss ≡ s ∷ [] → IsStretchPacked o s records
on_one o _ s _ none e = absurd (nothing_there [] s [] e)
on_one o _ s _ (more ss t records others next before on here) e =
    let same = same_from_push ss [] t s e in
    let first = on_nothing o ss records before same.0 in
    rw first (rw (same.1, on_same o next records first on) at here)

one_part : (before back : List (List View)) (s t : List View) → s ∷ [] ≡ before ++ t ∷ back → (before ≡ []) × (t ≡ s)
one_part [] back s t e = (refl, ap (λ (ts : List (List View)). get_or ts 0 t) (sym e))
one_part (b ∷ before) back s t e =
    let rest : [] ≡ before ++ t ∷ back = cc in
    absurd (nothing_there before t back rest)

pub text_as : (cutting : Cutting) (o : Options) (vs : List View) (ss : List (List View)) (text : List ℕ)
    → IsCutAs cutting vs ss → IsTextOn o ss text → IsTextAs cutting o vs text
text_as Whole o vs ss text one is = search (arith, on_one)
text_as Stretches o vs ss text are is = grind (arith)

pub part_as : (cutting : Cutting) (o : Options) (vs : List View) (ss : List (List View)) (text : List ℕ)
    → IsCutAs cutting vs ss → IsPartOn o ss text → IsPartAs cutting o vs text
part_as Whole o vs ss text one p =
    let same = one_part p.before p.back vs p.stretch (sym one ∙ p.parts) in
    let first : p.records ≡ [] = on_nothing o p.before p.records p.packed same.0 in
    let own : p.own ≡ text = sym (p.text_is ∙ ap (λ (rs : List (List ℕ)). concat rs ++ p.own) first) in
    subst (λ (q : Options). IsPackedInPart q vs text) (on_same o p.options p.records first p.numbered)
    (rw same.1 at (subst (λ (t : List ℕ). IsPackedInPart p.options p.stretch t) own p.part))
part_as Stretches o vs ss text are p =
    let next = next_upto p.before p.back p.stretch vs [] (rw p.parts at are) in
    search (next, p)

-- What is found of all channels, and how they are planned.

pub packabilities_of : {cutting : Cutting} {o : Options} {room places : ℕ} {views : List View} (cs : List Channel)
    (ss : List Packability) (ls : List (List Plan)) → AreReady cutting o room places views cs ss ls
    → AreFound (IsPackabilityAs cutting o) views cs ss
packabilities_of _ _ _ ready_none = tt
packabilities_of _ _ _ (ready_next c s ps cs ss ls one rest) = (one.stands, packabilities_of cs ss ls rest)

-- of each channel something is found, and there are plans for it
pub packability_each : {cutting : Cutting} {o : Options} {room places : ℕ} {views : List View} (cs : List Channel)
    (ss : List Packability) (ls : List (List Plan)) → AreReady cutting o room places views cs ss ls
    → length ss ≡ length cs
packability_each _ _ _ ready_none = refl
packability_each _ _ _ (ready_next c s ps cs ss ls one rest) = ap suc (packability_each cs ss ls rest)

pub plan_each : {cutting : Cutting} {o : Options} {room places : ℕ} {views : List View} (cs : List Channel)
    (ss : List Packability) (ls : List (List Plan)) → AreReady cutting o room places views cs ss ls
    → length cs ≡ length ls
plan_each _ _ _ ready_none = refl
plan_each _ _ _ (ready_next c s ps cs ss ls one rest) = ap suc (plan_each cs ss ls rest)

pub ready_at : {cutting : Cutting} {o : Options} {room places : ℕ} {views : List View} (cs : List Channel)
    (ss : List Packability) (ls : List (List Plan)) (k : ℕ) (c : Channel)
    → AreReady cutting o room places views cs ss ls → k < length cs
    → IsReady cutting o room places (records_in views (get_or cs k c).0) (get_or ss k Fit) (get_or ls k [])
ready_at _ _ _ k c ready_none lt = absurd (omega (arith, lt))
ready_at _ _ _ zero c (ready_next d s ps cs ss ls one rest) lt = one
ready_at _ _ _ (suc k) c (ready_next d s ps cs ss ls one rest) lt = ready_at cs ss ls k c rest (omega (arith, lt))

-- one more channel
pub ready_more : {cutting : Cutting} {o : Options} {room places : ℕ} (next : ℕ) {views : List View} (cs : List Channel)
    (ss : List Packability) (ls : List (List Plan)) (c : Channel) (s : Packability) (ps : List Plan) → room ≤ next
    → AreReady cutting o room places views cs ss ls → IsReady cutting o next places (records_in views c.0) s ps
    → AreReady cutting o next places views (cs ++ c ∷ []) (ss ++ s ∷ []) (ls ++ ps ∷ [])
ready_more next _ _ _ c s ps le ready_none one = ready_next c s ps [] [] [] one ready_none
ready_more {o = o} {room = room} {places = places} next {views = views} _ _ _ c s ps le
    (ready_next d t qs cs ss ls first rest) one =
    ready_next d t qs (cs ++ c ∷ []) (ss ++ s ∷ []) (ls ++ ps ∷ [])
    (record {
      stands = first.stands;
      cut = first.cut;
      can = λ fit. written_on o room next places qs (records_in views d.0) le (first.can fit);
    })
    (ready_more next cs ss ls c s ps le rest one)
