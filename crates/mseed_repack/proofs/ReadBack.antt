-- What was written when an archive was packed anew reads back.
use Rattle.mseed_repack.proofs.Wholes.{all_records}
use Rattle.std.specs.Prelude.{⊤}
use Rattle.std.proofs.Common.{◌≡◌, ◌≢◌, ◌↔◌, ℕ, List, [], ◌∷◌, ◌++◌, length-take, IsTrue}
use Rattle.std.proofs.Common.{Result}
use Rattle.std.proofs.Common.{Ok, map, refl, sym, ap, subst, ◌∙◌, ⊎_elim, append-nil, arith}
use Rattle.std.specs.List.{AllByRecursion, concat}
use Rattle.std.specs.Map.{keys_of}
use Rattle.std.specs.Ordering.{nat_cmp, is_eq}
use Rattle.std.specs.Cmp.Lexicographic.{slice_cmp}
use Rattle.std.specs.List.Sorted.{IsStrictlySortedBy}
use Rattle.std.specs.declared.cmp.Ordering.TheVariants.{Less}
use Rattle.std.proofs.lemmas.Bool.{false≢true}
use Rattle.std.proofs.ByRecursion.{All-weaker}
use Rattle.std.proofs.lemmas.List.Elements.{All-from_recursion, All-map, recursion_from_All}
use Rattle.std.proofs.lemmas.List.Folds.{concat-append}
use Rattle.mseed_record.specs.View.{View, IsView}
use Rattle.mseed_record.proofs.Called.{record_long}
use Rattle.mseed_stream.specs.Archive.{HasNoFurther, IsArchive}
use Rattle.mseed_stream.specs.Device.{BytesRead, BytesWritten}
use Rattle.mseed_stream.specs.Walk.{bytes_in}
use Rattle.mseed_audit.specs.Channels.{Placed, added_from, records_of, same_key, views_in}
use Rattle.mseed_audit.specs.Follows.{IsContinuous}
use Rattle.mseed_audit.specs.Series.{Trace, IsSeriesOf}
use Rattle.mseed_audit.specs.Verdict.{AreVerdicts, says_continuous}
use Rattle.mseed_audit.proofs.Assembled.{first_key}
use Rattle.mseed_audit.proofs.Following.{views_are}
use Rattle.mseed_audit.proofs.Maps.{same_itself}
use Rattle.mseed_pack.specs.Fitting.{Fits}
use Rattle.mseed_pack.specs.Outcome.{IsTrace}
use Rattle.mseed_pack.specs.Packing.{IsPacking}
use Rattle.mseed_pack.specs.ReadBack.{AreApart, AreViewsOf, Packed, ReadsAs, StandsIn, records_of_all}
use Rattle.mseed_pack.specs.declared.options.Options.{Options}
use Rattle.mseed_pack.proofs.Archived.{others_gone}
use Rattle.mseed_pack.proofs.Parted.{views_joined}
use Rattle.mseed_pack.proofs.Traced.{kept_views}
use Rattle.mseed_repack.specs.OneRepacking.{ComeToOne}
use Rattle.mseed_repack.specs.ReadBack.{IsReadBack}
use Rattle.mseed_repack.specs.Repack.{ArePackedInto, CanBePacked, Channel, IsRepacking, IsSeriesText, IsWhole}
use Rattle.mseed_repack.specs.Repack.{IsFitFor, IsStretchPacked, Wrote, records_in}
use Rattle.mseed_repack.specs.declared.fault.RepackFault.{RepackFault}
use Rattle.mseed_pack.proofs.Called.{OneSeries, ExactVerdicts}
use Rattle.mseed_repack.proofs.ChannelReadBack.{packed_fits}
use Rattle.mseed_repack.proofs.Written.{HasNoOthers, IsWritten, Others, are_verdicts, codes_of}
use Rattle.mseed_repack.proofs.Written.{either_key, entries, entry, not_there}

-- The series of the input's channels, and what each was packed into.

record IsRead (o : Options) (views : List View) (p : Packed) : Type 0 where
  series : IsSeriesOf p.series (records_in views p.series.codes)
  fits : Fits p.series o
  packing : IsPacking p.series o p.records
  reads : ReadsAs p.series p.records

record Gathered (o : Options) (views : List View) (cs : List Channel) (text : List ℕ) : Type 0 where
  packed : List Packed
  keys : codes_of packed ≡ keys_of cs
  text_is : text ≡ concat (records_of_all packed)
  each : AllByRecursion (IsRead o views) packed

-- The records that were written.

written_of : (o : Options) (views : List View) (packed : List Packed) → AllByRecursion (IsRead o views) packed
    → (written : List View) × AreViewsOf (records_of_all packed) written
written_of o views [] each = ([], record { bytes = refl; each = tt })
written_of o views (p ∷ ps) each =
    let rest = written_of o views ps each.1 in (
      each.0.reads.views ++ rest.0,
      views_joined p.records (records_of_all ps) each.0.reads.views rest.0
          each.0.reads.are_views rest.1,
    )

-- what has a key above one has another
pub others_by : {X : Type 0} (f : X → List ℕ) (key : List ℕ) (xs : List X)
    → AllByRecursion (λ k. slice_cmp nat_cmp key k ≡ Less) (map f xs) → AllByRecursion (λ (x : X). f x ≢ key) xs
others_by f key [] h = tt
others_by f key (x ∷ xs) h = (
  λ same. false≢true (sym (ap is_eq h.0) ∙ ap (λ (k : List ℕ). same_key key k) same ∙ same_itself key),
  others_by f key xs h.1,
)

apart : (packed : List Packed) → IsStrictlySortedBy (slice_cmp nat_cmp) (codes_of packed) → AreApart packed
unfolding IsStrictlySortedBy
apart [] sorted = tt
apart (p ∷ ps) sorted = (others_by (λ (q : Packed). q.series.codes) p.series.codes ps sorted.0, apart ps sorted.1)

-- read there and written there
record IsBoth (o : Options) (views written : List View) (p : Packed) : Type 0 where
  read : IsRead o views p
  own : IsWritten written p

all_both : (o : Options) (views written : List View) (packed : List Packed) → AllByRecursion (IsRead o views) packed
    → AllByRecursion (StandsIn written) packed → AllByRecursion (IsBoth o views written) packed
all_both o views written [] each stand = tt
all_both o views written (p ∷ ps) each stand = grind (arith, all_both o views written ps each.1 stand.1)

nothing_in : (ps : List Placed) → views_in ps ≡ [] → ps ≡ []
nothing_in [] e = refl
nothing_in (p ∷ ps) e = cc

-- They are an archive.

pub none_further : HasNoFurther []
none_further = grind (arith, record_long, length-take)

an_archive : (packed : List Packed) (written : List View) (text : List ℕ) → text ≡ concat (records_of_all packed)
    → AreViewsOf (records_of_all packed) written → IsArchive text (bytes_in written) []
an_archive packed written text e are = record {
  joined = e ∙ ap (λ (rs : List (List ℕ)). concat rs) (sym are.bytes) ∙ sym (append-nil (concat (bytes_in written)));
  each = all_records written are.each;
  no_further = none_further;
}

-- Packed anew, they are written again.

packed_again : (o : Options) (views written : List View) (packed : List Packed)
    → AllByRecursion (IsBoth o views written) packed
    → ArePackedInto o written (entries written packed) (concat (records_of_all packed))
packed_again o views written [] each = refl
packed_again o views written (p ∷ ps) each =
    let packed : IsStretchPacked o (records_in written p.series.codes) p.records =
    record { trace = p.series; series = each.0.own.series; packing = each.0.read.packing } in
    let first : IsSeriesText o (records_in written p.series.codes) (concat p.records) =
    record { records = p.records; packed = packed; text_is = refl } in
    let both = concat-append p.records (records_of_all ps) in
    (concat p.records, (concat (records_of_all ps), (both, first, packed_again o views written ps each.1)))

-- The series are the same.

no_series : (s : Trace) (vs : List View) → vs ≡ [] → IsSeriesOf s vs → ⊥
no_series s vs e series = let parts : [] ≡ series.first ∷ series.rest = sym e ∙ series.parts in cc

module _
    (reads : (s : Trace) (o : Options) (records : List (List ℕ)) → IsTrace s → Fits s o → IsPacking s o records
    → ReadsAs s records)
    (archived : (packed : List Packed) (views : List View)
    → AllByRecursion (λ (p : Packed). ReadsAs p.series p.records) packed → AreApart packed
    → AreViewsOf (records_of_all packed) views → AllByRecursion (StandsIn views) packed) (exact : ExactVerdicts)
    (series : OneSeries)
    (outcome : (o : Options) (h : BytesRead) (result other : Result ⊤ RepackFault) (old new before after : BytesWritten)
    → IsRepacking o result h old new → IsRepacking o other h before after
    → ComeToOne result other old new before after) where
  gathered : (o : Options) (views : List View) (cs : List Channel) (text : List ℕ) → AllByRecursion IsView views
      → AllByRecursion (λ (c : Channel). IsContinuous (records_in views c.0)) cs
      → AllByRecursion (λ (c : Channel). CanBePacked o views c.0) cs → ArePackedInto o views cs text
      → Gathered o views cs text
  gathered o views [] text each continuous fit e = record { packed = []; keys = refl; text_is = e; each = tt }
  gathered o views (c ∷ cs) text each continuous fit (own, (rest, a)) =
      let is = a.1 in
      let into = is.packed in
      let s : Trace = into.trace in
      let traced = packed_fits series (rw views_are (kept_views c.0 views each)) continuous.0 fit.0 into in
      let key = into.series.codes ∙ sym (first_key c.0 views into.series.first into.series.rest (sym (views_are c.0
      views) ∙ into.series.parts)) in
      let behind = gathered o views cs rest each continuous.1 fit.1 a.2 in
      let keys = behind.keys in
      record {
        packed = record { series = s; records = is.records } ∷ behind.packed;
        keys = λ i. key i ∷ keys i;
        text_is = a.0 ∙ ap (λ (xs : List ℕ). xs ++ rest) is.text_is
            ∙ ap (λ (xs : List ℕ). concat is.records ++ xs) behind.text_is
            ∙ sym (concat-append is.records (records_of_all behind.packed));
        each = (
          record {
            series = subst (λ (k : List ℕ). IsSeriesOf s (records_in views k)) (sym key) into.series;
            fits = traced.1;
            packing = into.packing;
            reads = reads s o is.records traced.0 traced.1 into.packing;
          },
          behind.each,
        );
      }

  same_series : (o : Options) (views written : List View) (cs : List Channel) (packed : List Packed)
      → codes_of packed ≡ keys_of cs → AreVerdicts (added_from 0 views) cs
      → AllByRecursion (IsBoth o views written) packed → HasNoOthers written packed
      → (key : List ℕ) (s : Trace) → IsSeriesOf s (records_in views key) ↔ IsSeriesOf s (records_in written key)
  same_series o views written cs packed keys verdicts all gone key s =
      ⊎_elim found none_has (either_key key packed (IsBoth o views written) all)
    where
      found : ((p : Packed) × (IsBoth o views written p × (p.series.codes ≡ key)))
          → IsSeriesOf s (records_in views key) ↔ IsSeriesOf s (records_in written key)
      found (p, (two, code)) =
          let here : IsSeriesOf p.series (records_in views key) = rw (← code) two.read.series in
          let there : IsSeriesOf p.series (records_in written key) = rw (← code) two.own.series in (
            λ is. rw (series p.series s (records_in views key) here is) at there,
            λ is. rw (series p.series s (records_in written key) there is) at here,
          )

      none_has : Others key packed → IsSeriesOf s (records_in views key) ↔ IsSeriesOf s (records_in written key)
      none_has others =
          let empty : records_of key (added_from 0 views) ≡ [] =
          rw (not_there key packed cs keys others) at (verdicts.each key) in (
            λ is. absurd (no_series s (records_in views key) (ap (λ (ps : List Placed). views_in ps) empty) is),
            λ is. absurd (no_series _ _ (ap (λ (ps : List Placed). views_in ps) (gone key others)) is),
          )

  -- what was written reads back
  pub reads_back : (o : Options) (h : BytesRead) (old new : BytesWritten) → IsRepacking {U = ⊤} o (Ok tt) h old new
      → IsReadBack o h old new
  reads_back o h old new repacked =
      let views : List View = repacked.0 in
      let cs : List Channel = repacked.1.0 in
      let fit = repacked.1.1.0 in
      let wrote = repacked.1.1.1 in
      let text : List ℕ = wrote.text in
      let all = gathered o views cs text fit.archive.whole.each
      (recursion_from_All (λ (c : Channel). IsContinuous (records_in views c.0)) cs fit.continuous)
      (recursion_from_All (λ (c : Channel). CanBePacked o views c.0) cs fit.fit) wrote.text_is in
      let packed : List Packed = all.packed in
      let each = All-weaker (IsRead o views) (λ (p : Packed). ReadsAs p.series p.records) (λ p is. is.reads) packed
      all.each in
      let made = written_of o views packed all.each in
      let written : List View = made.0 in
      let sorted : IsStrictlySortedBy (slice_cmp nat_cmp) (codes_of packed) =
      rw all.keys fit.archive.verdicts.ascending in
      let both = all_both _ _ _ _ all.each (archived packed written each (apart packed sorted) made.1) in
      let every = All-from_recursion (IsBoth o views written) packed both in
      let gone : HasNoOthers written packed = λ key others. nothing_in (records_of key (added_from 0 written))
      (views_are key written ∙ others_gone key packed written each others made.1) in
      let channels : List Channel = entries written packed in
      let verdicts = are_verdicts exact written packed sorted
      (All-weaker (IsBoth o views written) (IsWritten written) (λ p two. two.own) packed both) gone in
      let archive = an_archive packed written text all.text_is made.1 in
      record {
        views = views;
        read = fit.archive.whole;
        text = text;
        wrote = wrote.bytes;
        written = written;
        archive = archive;
        each = made.1.each;
        channels = channels;
        verdicts = verdicts;
        continuous = All-map (λ (c : Channel). IsTrue (says_continuous c.1)) (entry written) packed (λ k p lt. refl);
        series = same_series o views written cs packed all.keys fit.archive.verdicts both gone;
        again = λ other result before after few read second.
            let whole : IsWhole other written =
            record {
              archive = rw read.bytes archive;
              each = made.1.each;
              few = few;
              ended = read.ended;
              fine = read.fine;
            } in
            let fit_again : IsFitFor o other written channels = record {
              archive = record { whole = whole; verdicts = verdicts };
              continuous = All-map (λ (c : Channel). IsContinuous (records_in written c.0)) (entry written) packed
                  (λ k p lt. (every k p lt).own.continuous);
              fit = All-map (λ (c : Channel). CanBePacked o written c.0) (entry written) packed
                  (λ k p lt. record { trace = _; series = (every k p lt).own.series; fits = (every k p lt).read.fits });
            } in
            let texts = rw (sym all.text_is) at (packed_again o views written packed both) in
            let text_again : Wrote (ArePackedInto o written channels) 0 old new =
            record { text = text; text_is = texts; bytes = wrote.bytes; failed = wrote.failed } in
            outcome o other (Ok tt) result old new before after (written, (channels, (fit_again, text_again))) second;
      }
