-- The links of an archive's channels, and what is found and written of their records.
use Rattle.mseed_audit.specs.Channels.{is_of_channel}
use Rattle.std.proofs.lemmas.List.Sums.{count_by-le-length, length-filter}
use Rattle.std.proofs.Common.{◌≡◌, ◌≢◌, ℕ, ◌+◌, ◌<◌, ◌≤◌, ◌^◌, List, []}
use Rattle.std.proofs.Common.{◌∷◌, length, map, drop, get_or, refl, sym, ap, ◌∙◌, arith}
use Rattle.std.specs.List.{AllByRecursion}
use Rattle.std.proofs.lemmas.List.{drop_all, drop_more, get_or_default, length-map}
use Rattle.mseed_record.specs.View.{View}
use Rattle.mseed_record.specs.Viewing.{view_of}
use Rattle.mseed_record.specs.declared.view.RecordView.{RecordView}
use Rattle.mseed_stream.specs.Device.{BytesWritten}
use Rattle.mseed_audit.specs.Follows.{IsSound}
use Rattle.mseed_audit.proofs.Following.{views_are}
use Rattle.mseed_pack.specs.declared.options.Options.{Options}
use Rattle.mseed_repack.specs.Repack.{AreContinuous, Channel, Wrote}
use Rattle.mseed_repack.specs.Repack.{records_in}
use Rattle.mseed_repack.specs.ByStretches.{IsFit, kept_of}
use Rattle.mseed_repack.specs.private.Archives.{IsAudited, IsWalkOf, records_on}
use Rattle.mseed_repack.specs.private.Planning.{AreReady, CanBeWritten, IsCutAs, IsPartAs, IsPartOn, IsReady}
use Rattle.mseed_repack.specs.private.Planning.{IsTextAs, IsTextOn}
use Rattle.mseed_repack.specs.private.Planning.{PartsAs, TextsAs, stretches_by}
use Rattle.mseed_repack.specs.private.Reading.{channel_in}
use Rattle.mseed_repack.specs.private.Restretching.{AreFoundAs}
use Rattle.mseed_repack.specs.declared.plan.Plan.{Plan}
use Rattle.mseed_repack.specs.declared.packability.Packability.{Packability}
use Rattle.mseed_repack.specs.declared.packability.Packability.TheVariants.{Fit, Broken}
use Rattle.mseed_repack.specs.declared.stretching.Cutting.{Cutting}
use Rattle.mseed_repack.specs.declared.archive.Archive.{Archive}
use Rattle.mseed_repack.specs.declared.archive.ChannelWalk.{ChannelWalk}
use Rattle.mseed_repack.proofs.Planning.{packability_each, part_as, ready_at, text_as, wrote_as}
use Rattle.mseed_repack.proofs.Packabilities.{unsound_at}
use Rattle.mseed_repack.proofs.Texts.{IsWrittenSo, written_all, written_next, written_part}

abbrev views_of : Archive → List View
views_of a = map view_of a.views.now

-- the records of a walk are those of its channel
pub on_trail : (a : Archive) (k : ℕ) (t : ChannelWalk) (w : IsWalkOf a k t)
    → records_on t ≡ channel_in w.channel.0 (map view_of a.views.now)
on_trail a k t w = w.records_are ∙ views_are w.channel.0 (views_of a)

-- all of them
pub all_on : (a : Archive) (k : ℕ) (t : ChannelWalk) → IsWalkOf a k t → t.views.now ≡ a.views.now
    → records_on t ≡ channel_in t.codes.now (map view_of t.views.now)
all_on a k t w same = on_trail a k t w ∙ ap (λ (key : List ℕ). channel_in key (views_of a)) (sym w.codes_are)
    ∙ ap (λ (rs : List RecordView). channel_in t.codes.now (map view_of rs)) (sym same)

-- the channel is the one at its number
pub channel_on : (a : Archive) (k : ℕ) (t : ChannelWalk) (c : Channel) (w : IsWalkOf a k t) → k < length a.channels.now
    → c ≡ get_or a.channels.now k c → w.channel ≡ c
channel_on a k t c w lt is = w.at ∙ get_or_default a.channels.now k w.channel c lt ∙ sym is

-- however the channel is met
pub of_channel : (a : Archive) (k : ℕ) (t : ChannelWalk) (c : Channel) → k < length a.channels.now
    → c ≡ get_or a.channels.now k c → IsWalkOf a k t → records_on t ≡ channel_in c.0 (map view_of a.views.now)
of_channel a k t c lt is w =
    on_trail a k t w ∙ ap (λ (d : Channel). channel_in d.0 (views_of a)) (channel_on a k t c w lt is)

at_index : (a : Archive) (k : ℕ) (t : ChannelWalk) (w : IsWalkOf a k t)
    → records_on t ≡ records_in (views_of a) (get_or a.channels.now k w.channel).0
at_index a k t w = w.records_are ∙ ap (λ (d : Channel). records_in (views_of a) d.0) w.at

-- not all of those of a broken channel are sound
pub unsound_on : (a : Archive) (ss : List Packability) (k : ℕ) (t : ChannelWalk) → IsWalkOf a k t
    → AreFoundAs (map view_of a.views.now) a.channels.now ss → k < length a.channels.now
    → length ss ≡ length a.channels.now → get_or ss k Fit ≡ Broken → ¬ (AllByRecursion IsSound (records_on t))
unsound_on a ss k t w found lt size broken =
    let c = get_or a.channels.now k w.channel in
    rw (at_index a k t w) (unsound_at found.0 found.1.0 (views_of a) a.channels.now ss k c found.1.1 lt size
    (get_or_default a.channels.now k w.channel c lt) broken)

pub few_on : (a : Archive) (k : ℕ) (t : ChannelWalk) → IsWalkOf a k t → length (records_on t) ≤ length a.views.now
few_on a k t w =
    let size = ap (λ (vs : List View). length vs) (on_trail a k t w) in
    let count = length-filter (is_of_channel w.channel.0) (views_of a) in
    omega (
      arith,
      size,
      count,
      count_by-le-length (is_of_channel w.channel.0) (views_of a),
      length-map a.views.now view_of,
    )

-- no channel has more records than a loop can count
pub few_trail : (a : Archive) (k : ℕ) (t : ChannelWalk) → IsWalkOf a k t → IsAudited a → length (records_on t) ≤ 2 ^ 40
few_trail a k t h h2 = search (arith, few_on)

-- the records of a continuous channel are some
pub some_on : (a : Archive) (k : ℕ) (t : ChannelWalk) → k < length a.channels.now → IsWalkOf a k t
    → AreContinuous (map view_of a.views.now) a.channels.now → records_on t ≢ []
some_on a k t h h2 h3 = grind (arith, at_index)

-- one that doesn't fit is left out
unkept : (c : Channel) (s : Packability) (cs : List Channel) (ss : List Packability) → (s ≡ Fit → ⊥)
    → kept_of (c ∷ cs) (s ∷ ss) ≡ kept_of cs ss
unkept c s cs ss h = grind (arith)

-- what was written of the first channels
abbrev pub text_of : Cutting → Options → Archive → Channel → List ℕ → Type 0
text_of cutting o a c own = IsTextAs cutting o (records_in (map view_of a.views.now) c.0) own

abbrev pub part_of : Cutting → Options → Archive → Channel → List ℕ → Type 0
part_of cutting o a c own = IsPartAs cutting o (records_in (map view_of a.views.now) c.0) own

abbrev pub AreWrittenTo : Cutting → Options → Archive → List Packability → ℕ → BytesWritten → BytesWritten → Type 0
AreWrittenTo cutting o a ss k =
    IsWrittenSo (text_of cutting o a) (part_of cutting o a) (kept_of a.channels.now ss)
    (kept_of (drop k a.channels.now) (drop k ss))

-- What is found and written of the channel of a walk.
module _ {cutting : Cutting} {o : Options} {room places : ℕ} (a : Archive) (ss : List Packability)
    (ls : List (List Plan)) (ready : AreReady cutting o room places (map view_of a.views.now) a.channels.now ss ls)
    (k : ℕ) (lt : k < length a.channels.now) (t : ChannelWalk) (w : IsWalkOf a k t) where
  inside : k < length ss
  inside = omega (arith, lt, packability_each a.channels.now ss ls ready)

  pub ready_on : (s : Packability) (ps : List Plan) → get_or ss k s ≡ Fit → ps ≡ get_or ls k []
      → IsCutAs cutting (records_on t) (stretches_by ps (records_on t)) × CanBeWritten o room places ps (records_on t)
  ready_on s ps fit e =
      let is = ready_at a.channels.now ss ls k w.channel ready lt in
      let here : IsReady cutting o room places (records_on t) (get_or ss k Fit) ps = rw (e, at_index a k t w) is in
      let fits = get_or_default ss k Fit s inside ∙ fit in
      (here.cut fits, here.can fits)

  pub texts_still : {first new : BytesWritten} (s : Packability) → (get_or ss k s ≡ Fit → ⊥)
      → AreWrittenTo cutting o a ss k first new → AreWrittenTo cutting o a ss (k + 1) first new
  texts_still s h h2 = grind (arith, drop_more, inside, unkept)

  -- of one that fits the text is written, or a part of it
  kept_on : {first old : BytesWritten} (s : Packability) → get_or ss k s ≡ Fit → AreWrittenTo cutting o a ss k first old
      → IsWrittenSo (text_of cutting o a) (part_of cutting o a) (kept_of a.channels.now ss)
      (get_or a.channels.now k w.channel ∷ kept_of (drop (k + 1) a.channels.now) (drop (k + 1) ss)) first old
  kept_on s h h2 = grind (arith, drop_more, inside)

  pub texts_next : {first old new : BytesWritten} (s : Packability) (ps : List Plan) → get_or ss k s ≡ Fit
      → ps ≡ get_or ls k [] → AreWrittenTo cutting o a ss k first old
      → Wrote (IsTextOn o (stretches_by ps (records_on t))) 0 old new → AreWrittenTo cutting o a ss (k + 1) first new
  texts_next s ps fit e so one = written_next (kept_on s fit so) (wrote_as (λ text is. rw (at_index a k t w) at
      (text_as cutting o (records_on t) (stretches_by ps (records_on t)) text (ready_on s ps fit e).0 is)) one)

  pub texts_part : {first old new : BytesWritten} (s : Packability) (ps : List Plan) → get_or ss k s ≡ Fit
      → ps ≡ get_or ls k [] → AreWrittenTo cutting o a ss k first old
      → Wrote (IsPartOn o (stretches_by ps (records_on t))) 1 old new
      → Wrote (PartsAs cutting o (map view_of a.views.now) (kept_of a.channels.now ss)) 1 first new
  texts_part s ps fit e so one = written_part (kept_on s fit so) (wrote_as (λ text is. rw (at_index a k t w) at
      (part_as cutting o (records_on t) (stretches_by ps (records_on t)) text (ready_on s ps fit e).0 is)) one)

-- all are written
pub texts_all : (cutting : Cutting) (o : Options) {first new : BytesWritten} (a : Archive) (ss : List Packability)
    (k : ℕ) → length a.channels.now ≤ k → AreWrittenTo cutting o a ss k first new
    → Wrote (TextsAs cutting o (map view_of a.views.now) (kept_of a.channels.now ss)) 0 first new
texts_all cutting o a ss k past so = let none = drop_all k a.channels.now past in written_all (rw none at so)

-- Channels that are packed whole.

-- where each fits, each is kept
pub kept_all : (cs : List Channel) (ss : List Packability) → length ss ≡ length cs → AllByRecursion IsFit ss
    → kept_of cs ss ≡ cs
kept_all [] ss size fit = refl
kept_all (c ∷ cs) [] size fit = absurd (omega (arith, size))
kept_all (c ∷ cs) (s ∷ ss) size fit = grind (arith, kept_all cs ss (omega (arith, size)) fit.1)
