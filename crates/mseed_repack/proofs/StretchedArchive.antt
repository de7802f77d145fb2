-- What was written of an archive by stretches is an archive, channel after channel.
use Rattle.std.proofs.ByRecursion.{All-weaker, kept_by_passes}
use Rattle.std.proofs.Common.{arith}
use Rattle.std.specs.Prelude.{⊤}
use Rattle.std.proofs.Common.{◌≡◌, ◌≢◌, ℕ, List, [], ◌∷◌, ◌++◌, IsTrue, refl, sym, ap, subst}
use Rattle.std.proofs.Common.{◌∙◌}
use Rattle.std.proofs.Common.{append_assoc, append-nil}
use Rattle.std.specs.List.{AllByRecursion, concat, filter}
use Rattle.std.specs.Map.{keys_of}
use Rattle.std.specs.Ordering.{nat_cmp}
use Rattle.std.specs.Cmp.Lexicographic.{slice_cmp}
use Rattle.std.specs.List.Sorted.{IsStrictlySortedBy}
use Rattle.std.proofs.lemmas.List.{map-append}
use Rattle.std.proofs.lemmas.List.Elements.{filter-append}
use Rattle.std.proofs.lemmas.List.Folds.{concat-append}
use Rattle.mseed_record.specs.Header.{key_at}
use Rattle.mseed_record.specs.View.{View, IsView}
use Rattle.mseed_steim.specs.Reading.{HasOneReading}
use Rattle.mseed_pack.proofs.Called.{OneSeries}
use Rattle.mseed_pack.proofs.ReadBack.{HaveOneViews}
use Rattle.mseed_pack.proofs.Viewed.{HeadersReadBack, PackedSpells}
use Rattle.mseed_stream.specs.Walk.{bytes_in}
use Rattle.mseed_audit.specs.Channels.{is_of_channel}
use Rattle.mseed_audit.proofs.Following.{views_are}
use Rattle.mseed_pack.specs.declared.options.Options.{Options}
use Rattle.mseed_pack.proofs.Archived.{all_kept, key_of}
use Rattle.mseed_pack.proofs.Traced.{kept_views}
use Rattle.mseed_repack.specs.Borders.{IsArchiveKept, IsStretchedArchive, KeepsBorders}
use Rattle.mseed_repack.specs.ByStretches.{AreStretched, EachRestretching, kept_of}
use Rattle.mseed_repack.specs.Repack.{Channel, records_in}
use Rattle.mseed_repack.specs.Restretch.{ChannelFits}
use Rattle.mseed_repack.specs.declared.packability.Packability.{Packability}
use Rattle.mseed_repack.proofs.Bordered.{own_of}
use Rattle.mseed_repack.proofs.Each.{AreMade, each_made}
use Rattle.mseed_repack.proofs.ChannelReadBack.{each_restretching}
use Rattle.mseed_repack.proofs.ReadBack.{none_further, others_by}
use Rattle.mseed_repack.proofs.Wholes.{all_records}

-- the views of what was written of a channel
record IsOf (views : List View) (c : Channel) (own : List View) : Type 0 where
  each : AllByRecursion IsView own
  of_key : AllByRecursion (λ (v : View). IsTrue (is_of_channel c.0 v)) own
  borders : KeepsBorders (records_in views c.0) own

-- the records of a channel have its key
kept_keys : (key : List ℕ) (vs : List View)
    → AllByRecursion (λ (v : View). key_at v.bytes ≡ key) (filter (is_of_channel key) vs)
kept_keys key vs =
    All-weaker _ _ (λ (v : View) is. sym (key_of key v is)) _ (kept_by_passes (is_of_channel key) vs)

-- The keys of channels rise, so that no two are the same.

abbrev AreOthers : List ℕ → List Channel → Type 0
AreOthers key cs = AllByRecursion (λ (c : Channel). c.0 ≢ key) cs

abbrev AreDistinct : List Channel → Type 0
AreDistinct [] = ⊤
AreDistinct (c ∷ cs) = AreOthers c.0 cs × AreDistinct cs

distinct : (cs : List Channel) → IsStrictlySortedBy (slice_cmp nat_cmp) (keys_of cs) → AreDistinct cs
unfolding IsStrictlySortedBy
distinct [] sorted = tt
distinct (c ∷ cs) sorted = (others_by (λ (d : Channel). d.0) c.0 cs sorted.0, distinct cs sorted.1)

others_kept : (key : List ℕ) (cs : List Channel) (ss : List Packability) → AreOthers key cs
    → AreOthers key (kept_of cs ss)
others_kept key (c ∷ cs) (s ∷ ss) h = grind (arith, others_kept key cs ss h.1)
others_kept key cs ss h = tt

distinct_kept : (cs : List Channel) (ss : List Packability) → AreDistinct cs → AreDistinct (kept_of cs ss)
distinct_kept (c ∷ cs) (s ∷ ss) h = grind (arith, others_kept c.0 cs ss h.0, distinct_kept cs ss h.1)
distinct_kept cs ss h = tt

-- Of all that was written, the records of a channel are its own.

none_of : (key other : List ℕ) (vs : List View) → key ≢ other
    → AllByRecursion (λ (v : View). IsTrue (is_of_channel key v)) vs → filter (is_of_channel other) vs ≡ []
none_of key other [] apart h = refl
none_of key other (v ∷ vs) apart h = grind (arith, key_of, none_of key other vs apart h.1)

filter_parts : (key : List ℕ) (ws own rest : List View) → ws ≡ own ++ rest
    → filter (is_of_channel key) ws ≡ filter (is_of_channel key) own ++ filter (is_of_channel key) rest
filter_parts key ws own rest h = grind (arith, filter-append)

none_among : (views : List View) (key : List ℕ) (cs : List Channel) (ws : List View) → AreMade (IsOf views) cs ws
    → AreOthers key cs → filter (is_of_channel key) ws ≡ []
none_among views key [] ws e others = ap (λ (us : List View). filter (is_of_channel key) us) e
none_among views key (c ∷ cs) ws (own, (rest, (parts, here, more))) others =
    let mine : filter (is_of_channel key) own ≡ [] = none_of c.0 key own others.0 here.of_key in
    let theirs : filter (is_of_channel key) rest ≡ [] = none_among views key cs rest more others.1 in
    filter_parts key ws own rest parts ∙ (λ i. mine i ++ theirs i)

-- before others nothing of theirs stands
abbrev NoneBefore : List View → List Channel → Type 0
NoneBefore before cs = AllByRecursion (λ (c : Channel). filter (is_of_channel c.0) before ≡ []) cs

none_yet : (cs : List Channel) → NoneBefore [] cs
none_yet [] = tt
none_yet (c ∷ cs) = (refl, none_yet cs)

none_still : (key : List ℕ) (before own : List View) (cs : List Channel)
    → AllByRecursion (λ (v : View). IsTrue (is_of_channel key v)) own → AreOthers key cs → NoneBefore before cs
    → NoneBefore (before ++ own) cs
none_still key before own [] of_key others none = tt
none_still key before own (c ∷ cs) of_key others none =
    grind (arith, none_of, filter-append, none_still key before own cs of_key others.1 none.1)

each_keeps : (views : List View) (cs : List Channel) (before ws : List View) → AreMade (IsOf views) cs ws → AreDistinct
    cs
    → NoneBefore before cs
    → AllByRecursion (λ (c : Channel). KeepsBorders (records_in views c.0) (filter (is_of_channel c.0) (before ++ ws)))
    cs
each_keeps views [] before ws are apart none = tt
each_keeps views (c ∷ cs) before ws (own, (rest, (parts, here, more))) apart none =
    let first : filter (is_of_channel c.0) before ≡ [] = none.0 in
    let mine : filter (is_of_channel c.0) own ≡ own = all_kept c.0 own here.of_key in
    let theirs : filter (is_of_channel c.0) rest ≡ [] = none_among views c.0 cs rest more apart.0 in
    let same = filter-append (is_of_channel c.0) before ws ∙ (λ i. first i ++ filter (is_of_channel c.0) ws) ∙
    filter_parts c.0 ws own rest parts ∙ (λ i. mine i ++ theirs i) ∙ append-nil own in
    let further = each_keeps views cs (before ++ own) rest more apart.1
    (none_still c.0 before own cs here.of_key apart.0 none.1) in
    let all = append_assoc before own rest ∙ ap (λ (us : List View). before ++ us) (sym parts) in (
      subst (λ (us : List View). KeepsBorders (records_in views c.0) us) (sym same) here.borders,
      rw all at further,
    )

module _ (headers : HeadersReadBack) (spells : PackedSpells) (single : (v : View) → HasOneReading v)
    (once : HaveOneViews) (series : OneSeries) where
  all_of : (o : Options) (views : List View) (cs : List Channel) (text : List ℕ) → AllByRecursion IsView views
      → AllByRecursion (λ (c : Channel). ChannelFits o (records_in views c.0)) cs → AreStretched o views cs text
      → (ws : List View) × (AreMade (IsOf views) cs ws × (concat (bytes_in ws) ≡ text))
  all_of o views [] text each fit none = ([], (refl, sym none))
  all_of o views (c ∷ cs) text each fit (its, (rest, written)) =
      let here = written.1 in
      let behind = all_of o views cs rest each fit.1 written.2 in
      let mine = views_are c.0 views in
      let is = own_of headers spells single once series o (records_in views c.0) here.records
      (rw mine (kept_views c.0 views each)) fit.0 here.packed in
      let own : IsOf views c is.views = record {
        each = is.are.each;
        of_key = is.of_key c.0 (rw mine (kept_keys c.0 views));
        borders = is.borders;
      } in
      let all = ap (λ (rs : List (List ℕ)). concat rs) (map-append (λ (v : View). v.bytes) is.views behind.0)
      ∙ concat-append (bytes_in is.views) (bytes_in behind.0) ∙ (λ i. concat (is.are.bytes i) ++ behind.1.1 i)
      ∙ ap (λ (xs : List ℕ). xs ++ rest) (sym here.text_is) ∙ sym written.0 in
      (is.views ++ behind.0, ((is.views, (behind.0, (refl, own, behind.1.0))), all))

  pub stretched_archive : EachRestretching IsStretchedArchive
  stretched_archive = each_restretching (λ views kept text. IsArchiveKept views kept text)
      (λ o h views channels ss text archive fit stretched.
      let kept : List Channel = kept_of channels ss in
      let all = all_of o views kept text archive.whole.each fit stretched in
      let written : List View = all.0 in
      let each = each_made (IsOf views) IsView (λ c own is. is.each) kept written all.1.0 in
      let apart = distinct_kept channels ss (distinct channels archive.verdicts.ascending) in
      record {
        written = written;
        read = record {
          joined = sym all.1.1 ∙ sym (append-nil (concat (bytes_in written)));
          each = all_records written each;
          no_further = none_further;
        };
        each = each;
        others = λ key others. views_are key written ∙ none_among views key kept written all.1.0 others;
        borders = All-weaker _ _ (λ (c : Channel) keeps. rw (views_are c.0 written) keeps) kept
            (each_keeps views kept [] written all.1.0 apart (none_yet kept));
      })
