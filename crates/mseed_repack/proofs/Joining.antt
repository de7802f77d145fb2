-- The neighbours in a stretch join.
use Rattle.std.proofs.Common.{◌≡◌, ◌≢◌, ℕ, suc, ◌+◌, ◌*◌, ◌^◌, ◌≤◌, ◌<◌, List, [], ◌∷◌, ◌++◌, ℤ, pos}
use Rattle.std.proofs.Common.{◌+ℤ◌}
use Rattle.std.proofs.Common.{◌-ℤ◌, ◌*ℤ◌, unsigned_abs, arith, refl, Some, Option, IsSome, sym, ap, subst, ◌∙◌}
use Rattle.std.proofs.lemmas.Bool.{false≢true}
use Rattle.std.proofs.lemmas.Int.{ints}
use Rattle.std.specs.List.{AllByRecursion}
use Rattle.std.proofs.lemmas.Option.{same_Some}
use Rattle.mseed_time.specs.declared.fault.TimeFault.{TimeFault}
use Rattle.mseed_time.specs.Join.{Joins, step_of}
use Rattle.mseed_time.specs.Rate.{Ratio, SameRate, rate_of}
use Rattle.mseed_record.specs.declared.leap.Leap.TheVariants.{Both}
use Rattle.mseed_record.specs.View.{View, leap_of, start_of, step_in}
use Rattle.mseed_steim.specs.Reading.{count_of}
use Rattle.mseed_audit.specs.Follows.{AllNeighbours, Follows, IsContinuous, IsSound}
use Rattle.mseed_audit.specs.Judging.{known_rate, rate_unless}
use Rattle.mseed_repack.specs.Stretches.{AllGoOn, GoesOn, GoesOnAt, IsOnTime, IsStretch, added_by, last_of}
use Rattle.mseed_repack.specs.Stretches.{samples_of}
use Rattle.mseed_repack.proofs.Drifts.{at_start, half_alike, miss_is, same_rates}
use Rattle.mseed_repack.proofs.Runs.{added_append, last_snoc, samples_append}

-- of a rate both numbers count

product : (a b : ℕ) → 0 < suc a * suc b
product a b = omega arith

both_by : (f m : ℤ) (r : Ratio) → rate_of f m ≡ Some r → (0 < r.num) × (0 < r.den)
both_by f m r h = grind (arith, same_Some, product)

unless_some : (o : Option TimeFault) (rate : Option Ratio) (r : Ratio) → rate_unless o rate ≡ Some r → rate ≡ Some r
unless_some o rate r h = grind (arith)

pub both_some : (v : View) (r : Ratio) → known_rate v ≡ Some r → (0 < r.num) × (0 < r.den)
both_some v r h = search (arith, both_by, unless_some)

-- A record that is on time after others, by a rate and a start, and has that rate itself.
pub record IsPackability (rate : Ratio) (start : ℤ) (before : List View) (b : View) : Type 0 where
  pub own : Ratio
  pub known : known_rate b ≡ Some own
  pub same : SameRate rate own
  pub on_time : IsOnTime start (samples_of before) rate (added_by before) (start_of b)

-- the last of records that end with one
pub last_is : (first : View) (rest before : List View) (b : View) → first ∷ rest ≡ before ++ b ∷ []
    → last_of first rest ≡ b
last_is first rest [] b e = grind (arith)
last_is first rest (w ∷ ws) b e = grind (arith, last_snoc)

pub added_one : (before : List View) (b : View)
    → added_by (before ++ b ∷ []) ≡ added_by before +ℤ step_of (step_in (leap_of b.bytes))
added_one before b = grind (arith, ints, added_append)

pub samples_one : (before : List View) (b : View) → samples_of (before ++ b ∷ []) ≡ samples_of before + count_of b
samples_one before b = let all = samples_append before (b ∷ []) in omega (arith, all)

-- the next record is on time after them and this one
next_on_time : (rate next : Ratio) (first : View) (rest before : List View) (b v : View)
    → first ∷ rest ≡ before ++ b ∷ [] → GoesOnAt rate next first rest v
    → IsOnTime (start_of first) (samples_of before + count_of b) rate
    (added_by before +ℤ step_of (step_in (leap_of b.bytes))) (start_of v)
next_on_time rate next first rest before b v e go =
    let count = ap samples_of e ∙ samples_one before b in
    let added = ap added_by e ∙ added_one before b in
    rw (count, added) at go.on_time

-- and joins this one
next_joins : (rate own : Ratio) (start : ℤ) (n : ℕ) (added : ℤ) (b v : View) → 0 < rate.den → SameRate rate own
    → IsOnTime start n rate added (start_of b)
    → IsOnTime start (n + count_of b) rate (added +ℤ step_of (step_in (leap_of b.bytes))) (start_of v)
    → Joins (start_of b) (count_of b) own (step_in (leap_of b.bytes)) (start_of v)
next_joins rate own start n added b v some same near far =
    let step : ℤ = step_of (step_in (leap_of b.bytes)) in
    let way : ℤ = start_of v -ℤ start_of b +ℤ step in
    let miss : ℤ = way *ℤ pos rate.num -ℤ pos (count_of b * rate.den * 10 ^ 6) in
    let is = miss_is start (start_of b) (start_of v) added step rate.num n (count_of b) rate.den in
    let within : 2 * unsigned_abs miss ≤ rate.den * 10 ^ 6 = omega (arith, ints, near, far, is) in
    half_alike way rate.num rate.den own.num own.den (count_of b) some (sym same) within

-- one record further

pub going : (rate : Ratio) (first : View) (rest : List View) (v : View) → known_rate first ≡ Some rate
    → GoesOn (first ∷ rest) v → (next : Ratio) × GoesOnAt rate next first rest v
going rate first rest v h h2 = grind (arith, same_Some)

follows_next : (rate next : Ratio) (first : View) (rest before : List View) (b v : View) → known_rate first ≡ Some rate
    → first ∷ rest ≡ before ++ b ∷ [] → IsPackability rate (start_of first) before b → GoesOnAt rate next first rest v
    → Follows b v
follows_next rate next first rest before b v known e stands go =
    let some : 0 < rate.den = (both_some first rate known).1 in (
      stands.own,
      (
        next,
        record {
          before_is = stands.known;
          next_is = go.next_is;
          same = same_rates rate.num rate.den stands.own.num stands.own.den next.num next.den some stands.same go.same;
          one_step = subst (λ (w : View). leap_of w.bytes ≢ Both) (last_is first rest before b e) go.one_step;
          joins = next_joins rate stands.own (start_of first) (samples_of before) (added_by before) b v some stands.same
              stands.on_time (next_on_time rate next first rest before b v e go);
        },
      ),
    )

pub stands_next : (rate next : Ratio) (first : View) (rest before : List View) (b v : View)
    → first ∷ rest ≡ before ++ b ∷ [] → GoesOnAt rate next first rest v
    → IsPackability rate (start_of first) (before ++ b ∷ []) v
stands_next rate next first rest before b v h h2 = grind (arith)

neighbours : (rate : Ratio) (first : View) (rest before : List View) (b : View) (vs : List View)
    → known_rate first ≡ Some rate → first ∷ rest ≡ before ++ b ∷ [] → IsPackability rate (start_of first) before b
    → AllGoOn (first ∷ rest) vs → AllNeighbours Follows (b ∷ vs)
neighbours rate first rest before b [] known e stands more = tt
neighbours rate first rest before b (v ∷ vs) known e stands (go, more) =
    let next = going rate first rest v known go in (
      follows_next rate next.0 first rest before b v known e stands next.1,
      neighbours rate first (rest ++ v ∷ []) (before ++ b ∷ []) v vs known (ap (λ (us : List View). us ++ v ∷ []) e)
          (stands_next rate next.0 first rest before b v e next.1) more,
    )

pub rate_there : {X : Type 0} (o : Option X) → IsSome o → (x : X) × (o ≡ Some x)
rate_there o h = grind (arith, false≢true)

pub stands_first : (rate : Ratio) (first : View) → known_rate first ≡ Some rate → IsPackability rate (start_of first)
    [] first
stands_first rate first h = grind (arith, at_start)

pub continuous : (s : List View) → AllByRecursion IsSound s → IsStretch s → IsContinuous s
continuous [] each is = absurd is
continuous (v ∷ vs) each is =
    let rate = rate_there (known_rate v) each.0.timed in
    record {
      some = λ none. cc;
      each = each;
      follow = neighbours rate.0 v [] [] v vs rate.1 refl (stands_first rate.0 v rate.1) is;
    }
