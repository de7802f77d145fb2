-- What a series is packed into reads back as the series.
use Rattle.std.proofs.Common.{◌≡◌, ℕ, List, length, IsTrue, refl, sym}
use Rattle.std.proofs.Common.{subst, ◌∙◌, append-nil, arith, ℤ}
use Rattle.std.specs.List.{concat}
use Rattle.std.proofs.ByRecursion.{All-map, All-weaker}
use Rattle.std.proofs.lemmas.Bool.{lt-ltb}
use Rattle.std.proofs.lemmas.List.{take_all}
use Rattle.mseed_record.specs.Record.{IsRecord}
use Rattle.mseed_record.specs.View.{View, IsView}
use Rattle.mseed_steim.specs.Reading.{count_of, HasOneReading}
use Rattle.mseed_stream.specs.Walk.{AreViews}
use Rattle.mseed_stream.proofs.OneInput.{same_views}
use Rattle.mseed_stream.proofs.Records.{view_record}
use Rattle.mseed_audit.specs.Channels.{is_of_channel}
use Rattle.mseed_audit.proofs.Maps.{same_itself}
use Rattle.mseed_audit.specs.Series.{Trace}
use Rattle.mseed_pack.specs.declared.options.Options.{Options}
use Rattle.mseed_pack.specs.Fitting.{Fits}
use Rattle.mseed_pack.specs.Outcome.{IsTrace}
use Rattle.mseed_pack.specs.Packing.{IsPacking}
use Rattle.mseed_pack.specs.ReadBack.{AreViewsOf, ReadsAs}
use Rattle.mseed_pack.proofs.Followed.{AreAt, are_views, each_at, samples_in, bytes_in, laid, continuous_at, series_at}
use Rattle.mseed_pack.proofs.Viewed.{HeadersReadBack, PackedSpells, IsAt}

-- bytes up to an offset have one list of views
abbrev pub HaveOneViews : Type 0
HaveOneViews = (bytes : List ℕ) (offset : ℕ) (views others : List View) → AreViews bytes offset views
    → AreViews bytes offset others → views ≡ others

-- the records, one after another, have these views
pub stand : (vs : List View) (records : List (List ℕ)) → AreViewsOf records vs
    → AreViews (concat records) (length (concat records)) vs
stand vs records h =
    rw (← h.bytes) (record {
      each = h.each;
      records = record {
        joined = take_all (length (concat (bytes_in vs))) (concat (bytes_in vs)) (omega arith);
        each = All-map IsRecord (λ (v : View). v.bytes) vs (All-weaker IsView _ view_record vs h.each);
      };
      offset_is = refl;
    })

is_of_key : (s : Trace) (first : ℕ) (v : View) (samples : List ℤ) → IsAt s first v samples → IsTrue
    (is_of_channel s.codes v)
is_of_key s first v samples is =
    rw (lt-ltb 0 (count_of v) (omega (arith, is.count, is.some)), is.key) (same_itself s.codes)

module _ (headers : HeadersReadBack) (spells : PackedSpells) (single : (v : View) → HasOneReading v) (s : Trace)
    (o : Options) (records : List (List ℕ)) (trace : IsTrace s) (fits : Fits s o) (k : IsPacking s o records) where
  -- the views of the records that the series is packed into
  pub lies_at : (views : List View) × (AreViewsOf records views × AreAt s 0 views s.samples)
  lies_at =
      let whole : samples_in k.pieces ≡ s.samples = sym (append-nil (samples_in k.pieces)) ∙ k.joined in
      let lies = laid headers spells s o trace fits 0 0 k.pieces whole k.placed k.each in
      let at = subst (λ (xs : List ℤ). AreAt s 0 lies.views xs) whole lies.at in
      (lies.views, (record { bytes = lies.bytes ∙ k.bytes; each = are_views s 0 lies.views s.samples at }, at))

  pub reads_as : ReadsAs s records
  reads_as = record {
    views = lies_at.0;
    are_views = lies_at.1.0;
    only = λ others h. same_views others lies_at.0 h.each lies_at.1.0.each (h.bytes ∙ sym lies_at.1.0.bytes);
    channel = each_at s _ (is_of_key s) 0 lies_at.0 s.samples lies_at.1.1;
    continuous = continuous_at single s trace fits.slow fits.some lies_at.0 lies_at.1.1;
    series = series_at s trace fits.some lies_at.0 lies_at.1.1;
  }
