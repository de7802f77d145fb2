-- The samples that a payload's bytes say (SEED manual, chapter 8, blockette 1000, field 4, and appendix B).
use Rattle.std.specs.Prelude.{◌≡◌, ◌≢◌, ⊤, ℕ, ◌+◌, ◌-◌, ◌*◌, ◌/◌, ◌^◌, ◌<◌, ◌≤◌, ◌==◌, if◌then◌else◌, List, [], ◌∷◌}
use Rattle.std.specs.Prelude.{◌++◌, length, slice_get, ℤ, ◌+ℤ◌, ◌-ℤ◌, Option, Some, None, Result, MatchResult, All}
use Rattle.mseed_time.specs.declared.order.Order.{Order}
use Rattle.mseed_time.specs.declared.order.Order.TheVariants.{Big}
use Rattle.mseed_time.specs.Fields.{number_at}
use Rattle.mseed_steim.specs.declared.scheme.Scheme.{Scheme}
use Rattle.mseed_steim.specs.declared.scheme.Scheme.TheVariants.{One as Steim1, Two as Steim2}
use Rattle.mseed_steim.specs.declared.form.Width.{Width}
use Rattle.mseed_steim.specs.declared.form.Width.TheVariants.{Two, Four}
use Rattle.mseed_steim.specs.declared.form.Form.{Form}
use Rattle.mseed_steim.specs.declared.form.Form.TheVariants.{Integers, Frames}
use Rattle.mseed_steim.specs.declared.fault.Ends.{Ends}
use Rattle.mseed_steim.specs.declared.fault.ReadFault.{ReadFault}
use Rattle.mseed_steim.specs.declared.fault.ReadFault.TheVariants.{Short, BadWord, Overflow, LastDiffers}
use Rattle.mseed_steim.specs.Spelling.{residue, IsWithin, SpellsNone}
use Rattle.mseed_steim.specs.Frames.{DataWord, data_words, first_constant, last_constant}
use Rattle.mseed_steim.specs.Runs.{SpellsRun}

-- the bytes of an integer
abbrev pub bytes_of : Width → ℕ
bytes_of Two = 2
bytes_of Four = 4

-- the encodings that are read: 1 is 16-bit integers, 3 is 32-bit integers, 10 is Steim-1, 11 is Steim-2
abbrev pub form_of : ℕ → Option Form
form_of encoding =
    if encoding == 1 then Some (Integers Two)
    else if encoding == 3 then Some (Integers Four)
    else if encoding == 10 then Some (Frames Steim1)
    else if encoding == 11 then Some (Frames Steim2)
    else None

-- numbers of 32 bits
abbrev pub IsSample : ℤ → Type 0
IsSample s = IsWithin 32 s

-- The bytes from a place on begin with the spellings of these integers, one after another: each is in two's
-- complement and the payload's order.
abbrev pub BeginsWith : Order → ℕ → List ℕ → ℕ → List ℤ → Type 0
BeginsWith order width bytes place [] = ⊤
BeginsWith order width bytes place (z ∷ zs) =
    (place + width ≤ length bytes) × IsWithin (8 * width) z
    × (number_at order width place bytes ≡ residue (2 ^ (8 * width)) z)
    × BeginsWith order width bytes (place + width) zs

-- each of the samples is the one before it plus its difference, as whole numbers
abbrev pub Adds : ℤ → List ℤ → List ℤ → Type 0
Adds before ds [] = ⊤
Adds before [] (s ∷ ss) = ⊥
Adds before (d ∷ ds) (s ∷ ss) = (s ≡ before +ℤ d) × Adds s ds ss

-- the first sample is this one; the difference that stands first isn't used
abbrev pub StartsAndAdds : ℤ → List ℤ → List ℤ → Type 0
StartsAndAdds first ds [] = ⊤
StartsAndAdds first [] (s ∷ ss) = ⊥
StartsAndAdds first (d ∷ ds) (s ∷ ss) = (s ≡ first) × Adds first ds ss

-- The samples are the n sums of the differences that some prefix of the data words spells.
pub record AreSums (scheme : Scheme) (payload : List ℕ) (n : ℕ) (samples : List ℤ) : Type 0 where
  pub count : length samples ≡ n
  pub prefix : List DataWord
  pub rest : List DataWord
  pub cut : data_words payload ≡ prefix ++ rest
  pub differences : List ℤ
  pub spelled : SpellsRun scheme prefix differences
  pub enough : n ≤ length differences
  pub sums : StartsAndAdds (first_constant payload) differences samples

-- the n samples of a payload of this form and order; Steim frames are read in the order of their words alone
abbrev pub IsPayloadReading : Form → Order → List ℕ → ℕ → List ℤ → Type 0
IsPayloadReading (Integers width) order payload n samples =
    (length samples ≡ n) × BeginsWith order (bytes_of width) payload 0 samples
IsPayloadReading (Frames scheme) order payload n samples = (order ≡ Big) × AreSums scheme payload n samples
    × All IsSample samples

-- where the samples of Steim frames end on Xn; integers have no such constant
abbrev pub EndsOnConstant : Form → List ℕ → List ℤ → Type 0
EndsOnConstant (Integers width) payload samples = ⊤
EndsOnConstant (Frames scheme) payload samples = slice_get samples (length samples - 1) ≡ Some (last_constant payload)

-- Why n samples of Steim frames can't be read: all data words spell fewer differences; a word spells none
-- and those before it fewer than n; the sum at a place is the first that 32 bits don't hold; the last sum
-- isn't Xn.
pub data IsFrameFault (scheme : Scheme) (payload : List ℕ) (n : ℕ) : ReadFault → Type 0 where
  short : (ds : List ℤ) → SpellsRun scheme (data_words payload) ds → length ds < n
      → IsFrameFault scheme payload n (Short (length ds))
  bad_word : (before : List DataWord) (bad : DataWord) (after : List DataWord) (ds : List ℤ)
      → data_words payload ≡ before ++ bad ∷ after
      → SpellsRun scheme before ds → length ds < n → SpellsNone scheme bad.code bad.bits
      → IsFrameFault scheme payload n (BadWord bad.frame bad.place)
  overflow : (prefix : List ℤ) (sum : ℤ) (rest : List ℤ) → AreSums scheme payload n (prefix ++ sum ∷ rest)
      → All IsSample prefix → ¬ (IsSample sum)
      → IsFrameFault scheme payload n (Overflow (length prefix))
  last_differs : (prefix : List ℤ) (last : ℤ) → AreSums scheme payload n (prefix ++ last ∷ [])
      → All IsSample (prefix ++ last ∷ []) → last ≢ last_constant payload
      → IsFrameFault scheme payload n (LastDiffers last (last_constant payload))

-- Why n samples of a payload can't be read; of integers, since it has fewer whole ones.
abbrev pub IsPayloadFault : Form → List ℕ → ℕ → ReadFault → Type 0
IsPayloadFault (Integers width) payload n fault = (length payload / bytes_of width < n)
    × (fault ≡ Short (length payload / bytes_of width))
IsPayloadFault (Frames scheme) payload n fault = IsFrameFault scheme payload n fault

-- the first and the last of some samples
abbrev pub AreEnds : Ends → List ℤ → Type 0
AreEnds ends samples = (slice_get samples 0 ≡ Some ends.first)
    × (slice_get samples (length samples - 1) ≡ Some ends.last)

-- what is told of samples that are a reading and end on their constant, or why there are none
abbrev pub AnswersPayload : {X : Type 0} → Form → Order → List ℕ → ℕ → (X → List ℤ → Type 0) → Result X ReadFault
    → Type 0
AnswersPayload form order payload n told r =
    MatchResult r (λ answer. (s : List ℤ) × (IsPayloadReading form order payload n s × EndsOnConstant form payload s
    × told answer s)) (λ fault. IsPayloadFault form payload n fault)

-- each number less the one before it
abbrev pub differences_from : ℤ → List ℤ → List ℤ
differences_from before [] = []
differences_from before (x ∷ xs) = (x -ℤ before) ∷ differences_from x xs

-- The steps of some numbers: the first of them, and then of each what it is more than the one before it. They are the
-- numbers' running sums again.
abbrev pub steps_of : List ℤ → List ℤ
steps_of [] = []
steps_of (x ∷ xs) = x ∷ differences_from x xs
