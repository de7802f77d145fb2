-- Where a record of a channel borders on the next one, and what is read there of what was written.
use Rattle.std.specs.Prelude.{◌≡◌, ◌≢◌, ℕ, ◌+◌, ◌*◌, ◌^◌, ◌≤◌, ℤ, pos, neg_ℤ, unsigned_abs, List, [], ◌∷◌, ◌++◌, Some}
use Rattle.std.specs.List.{AllByRecursion}
use Rattle.mseed_time.specs.Join.{miss_of}
use Rattle.mseed_time.specs.Rate.{Ratio, SameRate}
use Rattle.mseed_record.specs.View.{View, IsView, leap_of, start_of}
use Rattle.mseed_steim.specs.Reading.{count_of}
use Rattle.mseed_stream.specs.Archive.{IsArchive}
use Rattle.mseed_stream.specs.Device.{BytesRead, BytesWritten}
use Rattle.mseed_stream.specs.Walk.{bytes_in}
use Rattle.mseed_audit.specs.Follows.{AllNeighbours, IsContinuous}
use Rattle.mseed_audit.specs.Judging.{IsFound, known_rate, step_in}
use Rattle.mseed_audit.specs.declared.finding.Why.{Why}
use Rattle.mseed_audit.specs.declared.finding.Why.TheVariants.{Gap, Overlap}
use Rattle.mseed_repack.specs.Stretches.{samples_of}
use Rattle.mseed_pack.specs.ReadBack.{AreViewsOf}
use Rattle.mseed_pack.specs.declared.options.Options.{Options}
use Rattle.mseed_repack.specs.ByStretches.{WroteFitting}
use Rattle.mseed_repack.specs.Repack.{Channel, records_in}

-- The next record has the same rate, and misses this one's end, with its leap second put in, by `miss` microseconds
-- times num: positive where it is late.
pub record MissesBy (b v : View) (rate : Ratio) (miss : ℤ) : Type 0 where
  pub next : Ratio
  pub rate_is : known_rate b ≡ Some rate
  pub next_is : known_rate v ≡ Some next
  pub same : SameRate rate next
  pub miss_is : miss_of (start_of b) (count_of b) rate (step_in (leap_of b.bytes)) (start_of v) ≡ miss

-- it begins within a quarter of a sample period, less a microsecond, of that end
abbrev pub IsClose : View → View → Type 0
IsClose b v =
    (rate : Ratio) × ((miss : ℤ) × (MissesBy b v rate miss × (4 * (unsigned_abs miss + rate.num) ≤ rate.den * 10 ^ 6)))

-- three quarters of a sample period and a microsecond, or more
abbrev pub IsFar : Ratio → ℕ → Type 0
IsFar rate miss = 3 * (rate.den * 10 ^ 6) + 4 * rate.num ≤ 4 * miss

-- it begins so late
abbrev pub LeavesGap : View → View → Type 0
LeavesGap b v = (rate : Ratio) × ((miss : ℕ) × (MissesBy b v rate (pos miss) × IsFar rate miss))

-- or so early
abbrev pub Overlaps : View → View → Type 0
Overlaps b v = (rate : Ratio) × ((miss : ℕ) × (MissesBy b v rate (neg_ℤ (pos miss)) × IsFar rate miss))

-- the records have one list of views, of which this is so
pub record AreReadAs (P : List View → Type 0) (records : List (List ℕ)) : Type 0 where
  pub views : List View
  pub are : AreViewsOf records views
  pub only : (others : List View) → AreViewsOf records others → others ≡ views
  pub is_so : P views

-- After `samples` samples a record begins at this instant, and this is found of it: a gap, or an overlap, by its
-- microseconds.
pub record IsFoundAfter (why : ℕ → Why) (samples : ℕ) (start : ℤ) (views : List View) : Type 0 where
  pub before : List View
  pub last : View
  pub next : View
  pub behind : List View
  pub parts : views ≡ before ++ last ∷ (next ∷ behind)
  pub place : samples_of (before ++ last ∷ []) ≡ samples
  pub start_is : start_of next ≡ start
  pub microseconds : ℕ
  pub found : IsFound (Some last) next (Some (why microseconds))

-- what was written of records is continuous where they nearly are, and shows each gap and overlap that is wide
pub record KeepsBorders (vs written : List View) : Type 0 where
  pub continuous : vs ≢ [] → AllNeighbours IsClose vs → IsContinuous written
  pub gap : (leading : List View) (b v : View) (back : List View) → vs ≡ leading ++ b ∷ (v ∷ back) → LeavesGap b v
      → IsFoundAfter (λ us. Gap us) (samples_of (leading ++ b ∷ [])) (start_of v) written
  pub overlap : (leading : List View) (b v : View) (back : List View) → vs ≡ leading ++ b ∷ (v ∷ back) → Overlaps b v
      → IsFoundAfter (λ us. Overlap us) (samples_of (leading ++ b ∷ [])) (start_of v) written

-- the text is an archive of these channels and no others, and keeps the borders of each
pub record IsArchiveKept (views : List View) (kept : List Channel) (text : List ℕ) : Type 0 where
  pub written : List View
  pub read : IsArchive text (bytes_in written) []
  pub each : AllByRecursion IsView written
  pub others : (key : List ℕ) → AllByRecursion (λ (c : Channel). c.0 ≢ key) kept → records_in written key ≡ []
  pub borders : AllByRecursion (λ (c : Channel). KeepsBorders (records_in views c.0) (records_in written c.0)) kept

-- What was written of an archive by stretches is an archive, of the channels that fit and no others: and so is what was
-- written of each of them.
abbrev pub IsStretchedArchive : Options → BytesRead → BytesWritten → BytesWritten → Type 0
IsStretchedArchive o h old new = WroteFitting (λ views kept text. IsArchiveKept views kept text) o h old new
