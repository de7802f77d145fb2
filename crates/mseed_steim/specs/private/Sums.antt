-- A walk over items that adds them up. What it answers is stated in Samples.
use Rattle.std.specs.Prelude.{zero, suc}
use Rattle.std.specs.Prelude.{◌≡◌, ⊤, ℕ, ◌+◌, ◌-◌, ◌*◌, ◌/◌, ◌^◌, ◌<◌, ◌≤◌, ◌==◌, nat_lt, Bool, if◌then◌else◌, List}
use Rattle.std.specs.Prelude.{[], ◌∷◌, ◌++◌, map, take, length, ℤ, pos, negsuc, ◌+ℤ◌, ◌-ℤ◌, nat_abs, Option, Some, None}
use Rattle.std.specs.Prelude.{Result, Ok, Err}
use Rattle.mseed_steim.specs.declared.fault.ReadFault.{ReadFault}
use Rattle.mseed_steim.specs.declared.fault.ReadFault.TheVariants.{Short, BadWord, Overflow}
use Rattle.mseed_steim.specs.declared.keep.Taken.{Taken}
use Rattle.mseed_steim.specs.declared.keep.Task.{Task}
use Rattle.mseed_steim.specs.declared.sum.Sum.{Sum}
use Rattle.mseed_steim.specs.declared.scheme.Scheme.{Scheme}
use Rattle.mseed_steim.specs.declared.fault.Ends.{Ends}
use Rattle.mseed_steim.specs.Frames.{data_words, first_constant, words_from}
use Rattle.mseed_time.specs.declared.order.Order.{Order}
use Rattle.mseed_steim.specs.declared.form.Form.{Form}
use Rattle.mseed_steim.specs.Samples.{AnswersPayload, AreEnds}
use Rattle.mseed_steim.specs.private.Items.{Items, items_of}
use Rattle.mseed_steim.specs.private.Moves.{Moves, MovesBy}
use Rattle.mseed_steim.specs.private.Unpacked.{data_in, left_from}

-- 32 bits hold the number
abbrev pub fits : ℤ → Bool
fits (pos n) = nat_lt n (2 ^ 31)
fits (negsuc n) = nat_lt n (2 ^ 31)

-- the sum with one more sample
abbrev pub one_more : Sum → ℤ → Sum
one_more sum last = record { met = sum.met + 1; last = last }

-- what is added of a difference: nothing for the first sample
abbrev pub used : ℕ → ℤ → ℤ
used met d = if met == 0 then pos 0 else d

-- the sum once n samples have been met, or what comes first in place of one
unfoldable pub fold : ℕ → Sum → Items → Result Sum ReadFault
fold n sum [] = if sum.met == n then Ok sum else Err (Short sum.met)
fold n sum (Err at ∷ more) = if sum.met == n then Ok sum else Err (BadWord at.frame at.word)
fold n sum (Ok d ∷ more) =
    if sum.met == n then Ok sum
    else if fits (sum.last +ℤ used sum.met d) then fold n (one_more sum (sum.last +ℤ used sum.met d)) more
    else Err (Overflow sum.met)

-- the walk over a payload's words, from its first constant on
abbrev pub walk : Scheme → List ℕ → ℕ → Result Sum ReadFault
walk scheme payload n =
    fold n (record { met = 0; last = first_constant payload }) (items_of scheme (data_words payload))

-- what is kept of a difference and the sample that it comes to
abbrev pub Keep : Type 0
Keep = ℤ → ℤ → ℤ

-- the sample, or the difference
abbrev pub the_sample : Keep
the_sample d s = s

abbrev pub the_difference : Keep
the_difference d s = d

-- the samples that the walk meets
unfoldable pub met_in : ℕ → Sum → Items → List ℤ
met_in n sum [] = []
met_in n sum (Err at ∷ more) = []
met_in n sum (Ok d ∷ more) =
    if sum.met == n then []
    else if fits (sum.last +ℤ used sum.met d)
    then (sum.last +ℤ used sum.met d) ∷ met_in n (one_more sum (sum.last +ℤ used sum.met d)) more
    else []

-- what is kept of one sample, before which so many have been met
abbrev pub kept_at : Keep → ℕ → ℤ → ℤ → ℤ
kept_at keep met d s = if met == 0 then s else keep d s

-- what is kept of some differences and their sums, each with those before it, once so many samples have been met
abbrev pub kept_along : Keep → ℕ → ℤ → List ℤ → List ℤ
kept_along keep met last [] = []
kept_along keep met last (d ∷ ds) = kept_at keep met d (last +ℤ d) ∷ kept_along keep (met + 1) (last +ℤ d) ds

-- some differences, with another number in place of the first sample's
abbrev pub with_first : ℕ → ℤ → List ℤ → List ℤ
with_first met z [] = []
with_first met z (d ∷ ds) = (if met == 0 then z else d) ∷ ds

-- the first sample's difference, which no sample is by, is 0
abbrev pub IsCounted : ℕ → List ℤ → Type 0
IsCounted met [] = ⊤
IsCounted met (d ∷ ds) = met ≡ 0 → d ≡ pos 0

-- what is kept of some samples after one, of each by its difference from the one before it, and of all samples
abbrev pub kept_from : Keep → ℤ → List ℤ → List ℤ
kept_from keep before [] = []
kept_from keep before (x ∷ xs) = keep (x -ℤ before) x ∷ kept_from keep x xs

abbrev pub kept_of : Keep → List ℤ → List ℤ
kept_of keep [] = []
kept_of keep (x ∷ xs) = x ∷ kept_from keep x xs

-- what is kept of the samples after so many, of which this is the last
abbrev pub kept_on : Keep → ℕ → ℤ → List ℤ → List ℤ
kept_on keep zero before xs = kept_of keep xs
kept_on keep (suc met) before xs = kept_from keep before xs

-- where something is kept, it is what is kept of the samples
abbrev pub AreKept : Option Keep → List ℤ → List ℤ → Type 0
AreKept None samples out = ⊤
AreKept (Some keep) samples out = out ≡ kept_of keep samples

-- the ends of samples that are a reading and end on their constant, with what is kept of them; or why there are none
abbrev pub IsKept : Option Keep → Form → Order → List ℕ → ℕ → List ℤ → Result Ends ReadFault → Type 0
IsKept keep form order payload n out r =
    AnswersPayload form order payload n (λ ends samples. AreEnds ends samples × AreKept keep samples out) r

-- the sums of some differences, each with those before it
abbrev pub sums : ℤ → List ℤ → List ℤ
sums last [] = []
sums last (d ∷ ds) = (last +ℤ d) ∷ sums (last +ℤ d) ds

-- The last four sums of some differences, and of the last two differences, of which this is the last one, their sums
-- each with the one before it: no sum with differences that go so far more leaves 32 bits.
pub record IsWindow (reach : ℕ) (last : ℤ) (four pairs : List ℤ) : Type 0 where
  pub first : ℤ
  pub second : ℤ
  pub third : ℤ
  pub sums_are : four ≡ first ∷ (first +ℤ second) ∷ ((first +ℤ second) +ℤ third)
      ∷ (((first +ℤ second) +ℤ third) +ℤ last) ∷ []
  pub one : ℤ
  pub other : ℤ
  pub pairs_are : pairs ≡ one ∷ other ∷ (third +ℤ second) ∷ (last +ℤ third) ∷ []
  pub near : nat_abs first + (nat_abs second + (nat_abs third + nat_abs last)) + reach < 2 ^ 31

-- items that end, or go on with the place of a bad word
abbrev pub IsEnd : Items → Type 0
IsEnd [] = ⊤
IsEnd (Ok d ∷ more) = ⊥
IsEnd (Err at ∷ more) = ⊤

-- what such items are in place of one difference more, once so many have been met
abbrev pub lack_at : ℕ → Items → ReadFault
lack_at met [] = Short met
lack_at met (Ok d ∷ more) = Short met
lack_at met (Err at ∷ more) = BadWord at.frame at.word

-- the items begin with n differences; or with fewer, and this is what comes in place of one more
abbrev pub Lacks : ℕ → Items → Option ReadFault → Type 0
Lacks n items None = (ds : List ℤ) × ((more : Items) × ((items ≡ map Ok ds ++ more) × (length ds ≡ n)))
Lacks n items (Some fault) =
    (ds : List ℤ) × ((rest : Items)
    × ((items ≡ map Ok ds ++ rest) × IsEnd rest × (length ds < n) × (fault ≡ lack_at (length ds) rest)))

-- how many places there are for n samples: one for each, where something is kept of them
abbrev pub places_for : Option Keep → ℕ → ℕ
places_for None n = 0
places_for (Some keep) n = n

-- where something is kept, it is put into the next places; those before are as they were
abbrev pub Puts : Option Keep → ℕ → (Keep → List ℤ) → List ℤ → List ℤ → Type 0
Puts None met put before after = ⊤
Puts (Some keep) met put before after = take (met + length (put keep)) after ≡ take met before ++ put keep

-- all that a walk keeps: what stands in the first places, and after it what is kept of the samples to come
abbrev pub kept_in : Option Keep → ℕ → Sum → List ℤ → Items → List ℤ
kept_in None n sum out items = []
kept_in (Some keep) n sum out items = take sum.met out ++ kept_on keep sum.met sum.last (met_in n sum items)

-- what stands in all places, where something is kept
abbrev pub in_places : Option Keep → List ℤ → List ℤ
in_places None out = []
in_places (Some keep) out = out

-- A walk over these items answers the same, and keeps the same in all, as one from the next sum on over those after.
pub record Continues (keep : Option Keep) (n : ℕ) (sum : Sum) (before : List ℤ)
    (items behind : Items) (after : List ℤ) (next : Sum) : Type 0 where
  pub folded : fold n sum items ≡ fold n next behind
  pub kept : kept_in keep n next after behind ≡ kept_in keep n sum before items
  pub met : next.met ≤ n
  pub places : length after ≡ places_for keep n

-- it goes on so from the answer, or ends with the answer's fault
abbrev pub Walks : Option Keep → ℕ → Sum → List ℤ → Items → Items → List ℤ → Result Sum ReadFault → Type 0
Walks keep n sum before items behind after (Ok next) = Continues keep n sum before items behind after next
Walks keep n sum before items behind after (Err fault) = fold n sum items ≡ Err fault

-- over these differences, whatever stands after them
abbrev pub WalksOver : Option Keep → ℕ → Sum → List ℤ → List ℤ → List ℤ → Result Sum ReadFault → Type 0
WalksOver keep n sum before ds after result =
    (more : Items) → Walks keep n sum before (map Ok ds ++ more) more after result

-- the items of the words that aren't taken yet, from a frame on
abbrev pub items_left : Task → List ℕ → ℕ → ℕ → Items
items_left task payload met frame = items_of task.scheme (left_from payload met frame)

-- over the first of the frames from one on
abbrev pub WalksFrame : Option Keep → Task → List ℕ → ℕ → Sum → List ℤ → List ℤ → Result Sum ReadFault → Type 0
WalksFrame keep task payload frame sum before after result =
    (met : ℕ) → Walks keep task.samples sum before (items_left task payload sum.met frame)
    (items_left task payload met (frame + 1)) after result

-- No more samples are met than are needed, and they have their places.
pub record CanKeep (keep : Option Keep) (samples : ℕ) (sum : Sum) (out : List ℤ) : Type 0 where
  pub met : sum.met ≤ samples
  pub places : length out ≡ places_for keep samples

-- The frame is one of the payload's, samples are needed of it, and they have their places.
pub record CanTake (keep : Option Keep) (task : Task) (payload : List ℕ) (frame : ℕ) (sum : Sum) (out : List ℤ)
    : Type 0 where
  pub inside : frame < length payload / 64
  pub left : sum.met < task.samples
  pub places : length out ≡ places_for keep task.samples

-- The walk goes on after so many frames.
pub record Takes (keep : Option Keep) (task : Task) (payload : List ℕ) (frame : ℕ) (sum : Sum)
    (before after : List ℤ) (taken : Taken) : Type 0 where
  pub some : 0 < taken.frames
  pub inside : frame + taken.frames ≤ length payload / 64
  pub continues : Continues keep task.samples sum before (items_left task payload sum.met frame)
      (items_left task payload taken.sum.met (frame + taken.frames)) after taken.sum

-- Whatever a run of frames moves a sum by, but for a number that isn't used, is what the walk adds up over them.
abbrev pub AddsRun : Scheme → List ℕ → ℕ → Sum → ℤ → Type 0
AddsRun scheme payload index sum unused =
    (k count reach : ℕ) (by : ℤ) → 0 < k → index + k ≤ length payload / 64
    → MovesBy scheme (words_from payload (16 * index + data_in sum.met index) (16 * k - data_in sum.met index)) count by
    reach
    → (ds : List ℤ) × (Moves count (by -ℤ unused) reach (with_first sum.met (pos 0) ds) × ((met : ℕ)
    → items_of scheme (left_from payload sum.met index)
    ≡ map Ok ds ++ items_of scheme (left_from payload met (index + k))))
