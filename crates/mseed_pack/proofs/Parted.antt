-- Some records, one after another, of those that a series is packed into.
use Rattle.std.proofs.Common.{◌≡◌, ◌≢◌, ℕ, ℤ, List, [], ◌∷◌, ◌++◌, ◌^◌, length, IsTrue, Result, refl, sym}
use Rattle.std.proofs.Common.{ap, ◌∙◌, append_assoc}
use Rattle.std.specs.List.{AllByRecursion}
use Rattle.std.proofs.ByRecursion.{All-append, All-map, All-take, All-weaker}
use Rattle.std.proofs.lemmas.List.{map-append, take_at}
use Rattle.mseed_record.specs.Header.{key_at}
use Rattle.mseed_record.specs.View.{View, IsView}
use Rattle.mseed_audit.specs.declared.assembly.NotContinuous.{NotContinuous}
use Rattle.mseed_audit.specs.Channels.{added_from, is_of_channel, records_of}
use Rattle.mseed_audit.specs.Follows.{AllNeighbours, Follows, IsContinuous, IsSound}
use Rattle.mseed_audit.specs.Series.{Trace, AreJoined, none, one, IsSeries, IsSeriesOf}
use Rattle.mseed_pack.specs.declared.options.Options.{Options}
use Rattle.mseed_pack.specs.Packing.{IsPacked, IsPacking, Piece}
use Rattle.mseed_pack.proofs.Growing.{packed_length}
use Rattle.mseed_pack.specs.ReadBack.{AreViewsOf, IsPartOf, ReadsAs, IsAssembled}
use Rattle.mseed_audit.proofs.Following.{views_are}
use Rattle.mseed_pack.proofs.Archived.{all_kept, halves, key_of}
use Rattle.mseed_pack.proofs.Called.{assembled_of}
use Rattle.mseed_pack.proofs.Followed.{bytes_in}

-- what holds of each member of a list holds of each in the middle of it
all_middle : {X : Type 0} (P : X → Type 0) (xs ys zs : List X) → AllByRecursion P (xs ++ (ys ++ zs))
    → AllByRecursion P ys
all_middle P [] ys zs h = rw (take_at ys zs (length ys) refl) at (All-take P (length ys) (ys ++ zs) h)
all_middle P (x ∷ xs) ys zs h = all_middle P xs ys zs h.1

neighbours_back : {X : Type 0} (R : X → X → Type 0) (xs ys : List X) → AllNeighbours R (xs ++ ys) → AllNeighbours R ys
neighbours_back R [] ys h = h
neighbours_back R (x ∷ []) [] h = tt
neighbours_back R (x ∷ []) (y ∷ ys) h = h.1
neighbours_back R (x ∷ (z ∷ zs)) ys h = neighbours_back R (z ∷ zs) ys h.1

neighbours_prefix : {X : Type 0} (R : X → X → Type 0) (xs ys : List X) → AllNeighbours R (xs ++ ys) → AllNeighbours R xs
neighbours_prefix R [] ys h = tt
neighbours_prefix R (x ∷ []) ys h = tt
neighbours_prefix R (x ∷ (y ∷ zs)) ys h = (h.0, neighbours_prefix R (y ∷ zs) ys h.1)

-- samples are cut where their records are
record Shares (prefix back : List View) (samples : List ℤ) : Type 0 where
  older : List ℤ
  later : List ℤ
  parts : samples ≡ older ++ later
  first : AreJoined prefix older
  second : AreJoined back later

shares : (prefix back : List View) (samples : List ℤ) → AreJoined (prefix ++ back) samples → Shares prefix back samples
shares [] back samples h = record { older = []; later = samples; parts = refl; first = none; second = h }
shares (v ∷ vs) back _ (one _ _ xs rest is more) =
    let behind = shares vs back rest more in
    record {
      older = xs ++ behind.older;
      later = behind.later;
      parts = ap (λ (ys : List ℤ). xs ++ ys) behind.parts ∙ sym (append_assoc xs behind.older behind.later);
      first = one v vs xs behind.older is behind.first;
      second = behind.second;
    }

pub views_joined : (xs ys : List (List ℕ)) (us vs : List View) → AreViewsOf xs us → AreViewsOf ys vs
    → AreViewsOf (xs ++ ys) (us ++ vs)
views_joined xs ys us vs h k =
    record { bytes = rw (map-append, h.bytes, k.bytes); each = All-append IsView us vs h.each k.each }

-- the series' views, with those of the records that are looked at in their place
pub record Thirds (s : Trace) (before after : List (List ℕ)) (views : List View) : Type 0 where
  pub prefix : List View
  pub back : List View
  pub first : AreViewsOf before prefix
  pub second : AreViewsOf after back
  pub channel : AllByRecursion (λ (v : View). IsTrue (is_of_channel s.codes v)) views
  pub continuous : IsContinuous (prefix ++ (views ++ back))
  pub series : IsSeriesOf s (prefix ++ (views ++ back))

pub have_views : (s : Trace) (before held after : List (List ℕ)) → ReadsAs s (before ++ (held ++ after))
    → (views : List View) × AreViewsOf held views
have_views s before held after reads =
    let cut = halves before (held ++ after) reads.views reads.are_views.bytes reads.are_views.each in
    let rest = halves held after cut.back cut.second.bytes cut.second.each in
    (rest.prefix, rest.first)

module _ (s : Trace) (before held after : List (List ℕ)) (views : List View)
    (reads : ReadsAs s (before ++ (held ++ after))) (are : AreViewsOf held views) where
  -- views of the records before and after them are all others
  pub only_views : (us vs : List View) → AreViewsOf before us → AreViewsOf after vs → us ++ (views ++ vs) ≡ reads.views
  only_views us vs h k = reads.only (us ++ (views ++ vs)) (views_joined before (held ++ after) us (views ++ vs) h
      (views_joined held after views vs are k))

  pub thirds : Thirds s before after views
  thirds =
      let cut = halves before (held ++ after) reads.views reads.are_views.bytes reads.are_views.each in
      let rest = halves held after cut.back cut.second.bytes cut.second.each in
      let same = sym (only_views cut.prefix rest.back cut.first rest.second) in
      record {
        prefix = cut.prefix;
        back = rest.back;
        first = cut.first;
        second = rest.second;
        channel = all_middle (λ (v : View). IsTrue (is_of_channel s.codes v)) cut.prefix views rest.back
            (rw same at reads.channel);
        continuous = rw same at reads.continuous;
        series = rw same at reads.series;
      }

  pub continuous : held ≢ [] → IsContinuous views
  continuous some = record {
    some = λ (none : views ≡ []). some (sym are.bytes ∙ ap (λ (vs : List View). bytes_in vs) none);
    each = all_middle IsSound thirds.prefix views thirds.back thirds.continuous.each;
    follow = neighbours_prefix Follows views thirds.back
        (neighbours_back Follows thirds.prefix (views ++ thirds.back) thirds.continuous.follow);
  }

  pub of_key : AllByRecursion (λ (v : View). key_at v.bytes ≡ s.codes) views
  of_key = All-weaker _ _ (λ v is. sym (key_of s.codes v is)) views thirds.channel

  pub is_part : ((vs : List View) (xs ys : List ℤ) → AreJoined vs xs → AreJoined vs ys → xs ≡ ys) → (part : Trace)
      → IsSeriesOf part views → IsPartOf s before after part
  is_part same part series =
      let outer = shares thirds.prefix (views ++ thirds.back) s.samples thirds.series.samples in
      let inner = shares views thirds.back outer.later outer.second in
      record {
        older = outer.older;
        later = inner.later;
        samples = outer.parts ∙ ap (λ (xs : List ℤ). outer.older ++ xs) (inner.parts ∙ ap (λ (xs : List ℤ). xs
            ++ inner.later) (same views inner.older part.samples inner.first series.samples));
        before_it = (thirds.prefix, thirds.first, outer.first);
        after_it = (thirds.back, thirds.second, inner.second);
        codes = series.codes ∙ (rw series.parts at of_key).0;
      }

  pub assembled : held ≢ [] → (answer : Result Trace NotContinuous)
      → IsSeries answer (records_of s.codes (added_from 0 views)) → IsAssembled answer views
  assembled some answer is =
      let own = views_are s.codes views ∙ all_kept s.codes views thirds.channel in
      rw own at (assembled_of (records_of s.codes (added_from 0 views)) answer (rw own (continuous some)) is)

pub same_length : (s : Trace) (o : Options) (records : List (List ℕ)) → IsPacking s o records
    → AllByRecursion (λ (r : List ℕ). length r ≡ 2 ^ o.exponent) records
same_length s o records k = rw k.bytes at (All-map (λ (r : List ℕ). length r ≡ 2 ^ o.exponent)
    (λ (p : Piece). p.bytes) k.pieces (All-weaker (IsPacked s o) _ (packed_length s o) k.pieces k.each))
