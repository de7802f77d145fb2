-- What the stretches of a channel were packed into reads back, and is one list of records.
use Rattle.std.proofs.Common.{◌≡◌, ℕ, ℤ, ◌<◌, ◌≤◌, List, [], ◌∷◌, ◌++◌, length, refl, sym, ap, subst, ◌∙◌}
use Rattle.std.proofs.Common.{arith}
use Rattle.std.proofs.Math.Bridge.{le_prop}
use Rattle.std.specs.List.{AllByRecursion, concat}
use Rattle.std.proofs.lemmas.List.{same_from_push}
use Rattle.mseed_record.specs.View.{View, IsView}
use Rattle.mseed_stream.specs.Device.{BytesRead}
use Rattle.mseed_audit.specs.Follows.{IsContinuous, IsSound}
use Rattle.mseed_audit.specs.Series.{Trace, AreJoined, none}
use Rattle.mseed_audit.proofs.Following.{views_are}
use Rattle.mseed_repack.specs.Stretches.{AreStretchesUpTo, IsStretch}
use Rattle.mseed_pack.specs.Fitting.{Fits}
use Rattle.mseed_pack.specs.Outcome.{IsTrace}
use Rattle.mseed_pack.specs.Packing.{IsPacking}
use Rattle.mseed_pack.specs.ReadBack.{ReadsAs}
use Rattle.mseed_steim.specs.declared.encoding.Encoding.{Encoding}
use Rattle.mseed_pack.specs.declared.options.Options.{Options}
use Rattle.mseed_pack.proofs.Traced.{is_trace, kept_views}
use Rattle.mseed_repack.specs.ByStretches.{ArePackabilities, AreStretched, EachRestretching, WroteFitting, kept_of}
use Rattle.mseed_repack.specs.declared.packability.Packability.{Packability}
use Rattle.mseed_repack.specs.Repack.{Channel, IsArchiveOf, IsStretchPacked, StretchFits, records_in}
use Rattle.mseed_repack.specs.Restretch.{ArePackedOn, ChannelFits, IsChannelPacked, IsChannelText, IsNumberedOn}
use Rattle.mseed_repack.specs.Restretch.{none as packed_none, more as packed_more}
use Rattle.mseed_repack.specs.StretchesReadBack.{AreChannelsReadBack, AreReadBack, IsChannelReadBack}
use Rattle.mseed_repack.specs.StretchesReadBack.{IsStretchedBack, IsTextReadBack, KeepsTime}
use Rattle.mseed_repack.specs.StretchesReadBack.{read_none, read_more}
use Rattle.mseed_repack.proofs.Each.{AreMade, each_at_back, each_in_leading, made_push, nothing_there}
use Rattle.mseed_pack.proofs.Called.{OneSeries}
use Rattle.mseed_repack.proofs.ReadChannels.{joined_append}
use Rattle.mseed_repack.proofs.Cuts.{one_list}
use Rattle.mseed_repack.proofs.Joining.{continuous}
use Rattle.mseed_repack.proofs.Stretched.{fits_on}
use Rattle.mseed_repack.proofs.Times.{stay_near}
use Rattle.mseed_repack.proofs.Texts.{one_text, texts_each}

-- a stretch of sound records
pub record IsSoundStretch (s : List View) : Type 0 where
  pub stretch : IsStretch s
  pub sound : AllByRecursion IsSound s
  pub views : AllByRecursion IsView s

pub each_sound : (vs : List View) (ss : List (List View)) (left : List View) → AllByRecursion IsSound vs
    → AllByRecursion IsView vs → AreStretchesUpTo vs ss left → AllByRecursion IsSoundStretch ss
each_sound vs [] left sound views cut = tt
each_sound vs (s ∷ ss) left sound views (rest, (first, cut)) =
    let all = rw first.parts at sound in
    let each = rw first.parts at views in (
      search (first, each_in_leading IsSound s rest all, each_in_leading IsView s rest each),
      each_sound rest ss left (each_at_back IsSound s rest all) (each_at_back IsView s rest each) cut,
    )

keeps_time : (s : List View) → IsStretch s → KeepsTime s
keeps_time s h = grind (arith, stay_near)

-- a stretch that fits, and was packed, fits by the series that was packed, which is one
pub packed_fits : OneSeries
    → {o : Options} {s : List View} {records : List (List ℕ)} → AllByRecursion IsView s → IsContinuous s
    → StretchFits o s → (packed : IsStretchPacked o s records) → IsTrace packed.trace × Fits packed.trace o
packed_fits series {o} {s} {records} views continuous fits packed =
    let same = series fits.trace packed.trace s fits.series packed.series in
    let fit : Fits packed.trace o = rw same at fits.fits in
    (is_trace packed.trace o s records views continuous packed.series fit packed.packing, fit)

all_joined : (vs : List View) (ss : List (List View)) (records : List (List ℕ)) (samples : List ℤ)
    → AreReadBack ss records samples → AreStretchesUpTo vs ss [] → AreJoined vs samples
all_joined vs _ _ _ read_none cut = subst (λ (us : List View). AreJoined us []) (sym cut) none
all_joined vs _ _ _ (read_more s ss trace records rest samples first behind) (left, (stretch, cut)) =
    grind (arith, joined_append, all_joined left ss rest samples behind cut)

-- how a stretch was packed into its records
pub record IsPackedStretch (s : List View) (records : List (List ℕ)) : Type 0 where
  pub is : IsSoundStretch s
  pub options : Options
  pub packed : IsStretchPacked options s records
  pub traced : IsTrace packed.trace
  pub fits : Fits packed.trace options

-- each stretch of a channel that fits was
pub each_packed : OneSeries → (o : Options) (vs : List View) (records : List (List ℕ)) → AllByRecursion IsView vs
    → ChannelFits o vs → (packed : IsChannelPacked o vs records) → AreMade IsPackedStretch packed.stretches records
each_packed series o vs records views fits packed =
    let same = one_list vs fits.stretches packed.stretches fits.are packed.are in
    by _ _ (each_sound vs packed.stretches [] fits.sound views packed.are) (rw same at fits.fit) packed.packed
  where
    by : (ss : List (List View)) (rs : List (List ℕ)) → AllByRecursion IsSoundStretch ss
        → AllByRecursion (StretchFits o) ss → ArePackedOn o ss rs → AreMade IsPackedStretch ss rs
    by _ _ sound fit packed_none = refl
    by _ _ sound fit (packed_more ss s rs others next packed on here) =
        let is = (each_at_back IsSoundStretch ss (s ∷ []) sound).0 in
        let can = fits_on o next (length rs) s on (each_at_back (StretchFits o) ss (s ∷ []) fit).0 in
        let traced = packed_fits series is.views (continuous s is.sound is.stretch) can here in
        made_push IsPackedStretch ss s rs others
        (by ss rs (each_in_leading IsSoundStretch ss (s ∷ []) sound) (each_in_leading (StretchFits o) ss (s ∷ []) fit)
        packed)
        (record { is = is; options = next; packed = here; traced = traced.0; fits = traced.1 })

-- A channel is packed by its stretches in one way.

abbrev make : (e : ℕ) (c : Encoding) (n : ℕ) → 7 ≤ e → e ≤ 12 → n < 1_000_000 → Options
make e c n long short numbered = record {
  exponent = e;
  encoding = c;
  first_sequence = n;
  long = long;
  short = short;
  numbered = numbered;
}

made : (e f : ℕ) (c d : Encoding) (n m : ℕ) (l : 7 ≤ e) (s : e ≤ 12) (k : n < 1_000_000) (l' : 7 ≤ f) (s' : f ≤ 12)
    (k' : m < 1_000_000) → e ≡ f → c ≡ d → n ≡ m → make e c n l s k ≡ make f d m l' s' k'
made e f c d n m l s k l' s' k' p q r =
    subst (λ (g : ℕ). (a : 7 ≤ g) (b : g ≤ 12) → make e c n l s k ≡ make g d m a b k') p
    (λ a b. rw (sym q) (subst (λ (i : ℕ). (j : i < 1_000_000) → make e c n l s k ≡ make e c i a b j) r
    (λ j. ap (λ (x : 7 ≤ e). make e c n x s k) (le_prop l a) ∙ ap (λ (x : e ≤ 12). make e c n a x k) (le_prop s b)
    ∙ ap (λ (x : n < 1_000_000). make e c n a b x) (le_prop k j)) k')) l' s'

pub one_next : (o a b : Options) (n : ℕ) → IsNumberedOn o n a → IsNumberedOn o n b → a ≡ b
one_next o a b n on other =
    made _ _ _ _ _ _ _ _ _ _ _ _ (on.exponent_is ∙ sym other.exponent_is) (on.encoding_is ∙ sym other.encoding_is)
    (on.sequence_is ∙ sym other.sequence_is)

module _ (series : OneSeries)
    (packing : (s : Trace) (o : Options) (records others : List (List ℕ)) → IsPacking s o records
    → IsPacking s o others → records ≡ others) where
  one_on : (o : Options) (ss ts : List (List View)) (rs qs : List (List ℕ)) → ArePackedOn o ss rs
      → ArePackedOn o ts qs → ss ≡ ts → rs ≡ qs
  one_on o _ _ _ _ packed_none packed_none e = refl
  one_on o _ _ _ _ packed_none (packed_more ts t qs own other q on_other there) e = absurd (nothing_there ts t [] e)
  one_on o _ _ _ _ (packed_more ss s rs others next p on here) packed_none e = absurd (nothing_there ss s [] (sym e))
  one_on o _ _ _ _ (packed_more ss s rs others next p on here) (packed_more ts t qs own other q on_other there) e =
      let parts = same_from_push ss ts s t e in
      let before : rs ≡ qs = one_on o ss ts rs qs p q parts.0 in
      let same : other ≡ next = one_next o other next (length rs) (rw (← before) at on_other) on in
      let its : IsStretchPacked next s own = rw (same, ← parts.1) at there in
      let trace : here.trace ≡ its.trace = series here.trace its.trace s here.series its.series in
      let last : others ≡ own = packing its.trace next others own (rw trace at here.packing) its.packing in
      λ i. before i ++ last i

  pub one_packing : (o : Options) (vs : List View) (records others : List (List ℕ)) → IsChannelPacked o vs records
      → IsChannelPacked o vs others → records ≡ others
  one_packing o vs records others h h2 = grind (arith, one_on, one_list)

  -- and so is an archive
  pub one_archive : (o : Options) (views : List View) (cs : List Channel) (text other : List ℕ)
      → AreStretched o views cs text → AreStretched o views cs other → text ≡ other
  one_archive o views =
      one_text (λ (c : Channel) own. IsChannelText o (records_in views c.0) own) (λ c text other a b. a.text_is
      ∙ ap concat (one_packing o (records_in views c.0) a.records b.records a.packed b.packed) ∙ sym b.text_is)

-- What was written of an archive reads back.

-- each channel that is kept fits
pub kept_fit : (o : Options) (views : List View) (cs : List Channel) (ss : List Packability)
    → ArePackabilities o views cs ss
    → AllByRecursion (λ (c : Channel). ChannelFits o (records_in views c.0)) (kept_of cs ss)
kept_fit o views (c ∷ cs) (s ∷ ss) all = grind (arith, kept_fit o views cs ss all.1)
kept_fit o views cs ss all = tt

-- what follows for a text of channels that fit is so of whatever is written of an archive
pub each_restretching : (P : List View → List Channel → List ℕ → Type 0)
    → ((o : Options) (h : BytesRead) (views : List View) (channels : List Channel) (ss : List Packability)
    (text : List ℕ)
    → IsArchiveOf h views channels
    → AllByRecursion (λ (c : Channel). ChannelFits o (records_in views c.0)) (kept_of channels ss)
    → AreStretched o views (kept_of channels ss) text → P views (kept_of channels ss) text)
    → EachRestretching (WroteFitting P)
each_restretching P follows place o leave left h old new reported_old reported_new came =
    let views = came.0 in
    let channels = came.1.0 in
    let archive = came.1.1.0 in
    let were = came.1.1.1 in
    let kept = were.kept in
    record {
      views = views;
      channels = channels;
      archive = archive;
      packabilities = were.packabilities;
      are = kept.are;
      wrote = record {
        text = kept.wrote.text;
        text_is = follows o h views channels were.packabilities kept.wrote.text archive
            (kept_fit o views channels were.packabilities kept.are) kept.wrote.text_is;
        bytes = kept.wrote.bytes;
        failed = kept.wrote.failed;
      };
    }

module _
    (reads : (s : Trace) (o : Options) (records : List (List ℕ)) → IsTrace s → Fits s o → IsPacking s o records
    → ReadsAs s records)
    (series : OneSeries) where
  all_read : (ss : List (List View)) (records : List (List ℕ)) → AreMade IsPackedStretch ss records
      → (samples : List ℤ) × AreReadBack ss records samples
  all_read [] records e = ([], rw e read_none)
  all_read (s ∷ ss) records (own, (rest, (parts, here, more))) =
      let behind = all_read ss rest more in
      let trace : Trace = here.packed.trace in (
        trace.samples ++ behind.0,
        rw parts (read_more s ss trace own rest behind.0 (record {
          series = here.packed.series;
          reads = reads trace here.options own here.traced here.fits here.packed.packing;
          keeps = keeps_time s here.is.stretch;
        }) behind.1),
      )

  pub reads_back : (o : Options) (vs : List View) (records : List (List ℕ)) → AllByRecursion IsView vs
      → ChannelFits o vs → IsChannelPacked o vs records → IsChannelReadBack vs records
  reads_back o vs records views fits packed =
      let all = all_read packed.stretches records (each_packed series o vs records views fits packed) in
      record {
        stretches = packed.stretches;
        are = packed.are;
        samples = all.0;
        read = all.1;
        joined = all_joined vs packed.stretches records all.0 all.1 packed.are;
      }

  pub stretched_back : EachRestretching IsStretchedBack
  stretched_back = each_restretching (λ views kept text. AreChannelsReadBack views kept text)
      (λ o h views channels ss text archive fit stretched.
      texts_each (λ (c : Channel) own. IsChannelText o (records_in views c.0) own)
      (λ (c : Channel) own. IsTextReadBack (records_in views c.0) own)
      (λ (c : Channel). ChannelFits o (records_in views c.0)) (λ c own fits is. record {
        records = is.records;
        reads = reads_back _ _ _ (rw views_are (kept_views c.0 views archive.whole.each)) fits is.packed;
        text_is = is.text_is;
      }) (kept_of channels ss) text fit stretched)
