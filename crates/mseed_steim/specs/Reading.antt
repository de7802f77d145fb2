-- The samples that a record says, and why it says none (SEED manual, chapters 8 and appendix B).
use Rattle.std.specs.Prelude.{◌≡◌, ◌⊎◌, ⊤, ℕ, ◌<◌, Bool, true, false, List, ℤ, Some, None, Result, MatchResult}
use Rattle.mseed_time.specs.declared.order.Order.{Order}
use Rattle.mseed_time.specs.declared.order.Order.TheVariants.{Big, Little}
use Rattle.mseed_record.specs.Header.{samples_at}
use Rattle.mseed_record.specs.View.{View, HasPayload, payload_of}
use Rattle.mseed_steim.specs.declared.scheme.Scheme.{Scheme}
use Rattle.mseed_steim.specs.declared.form.Form.{Form}
use Rattle.mseed_steim.specs.declared.form.Form.TheVariants.{Integers, Frames}
use Rattle.mseed_steim.specs.declared.fault.ReadFault.{ReadFault}
use Rattle.mseed_steim.specs.declared.fault.ReadFault.TheVariants.{Blockette100, Encoding, LittleSteim, DataOffset}
use Rattle.mseed_steim.specs.declared.fault.ReadFault.TheVariants.{LastDiffers, Memory}
use Rattle.mseed_steim.specs.Samples.{form_of, IsPayloadReading, EndsOnConstant, IsPayloadFault}

-- the number of samples
abbrev pub count_of : View → ℕ
count_of v = samples_at v.order v.bytes

-- The samples are what the record's bytes say: no other rate is given, the encoding is read, and the payload
-- has them in its order.
pub record IsReading (v : View) (samples : List ℤ) : Type 0 where
  pub some : 0 < count_of v
  pub one_rate : v.has_rate_blockette ≡ false
  pub form : Form
  pub encoding : form_of v.encoding ≡ Some form
  pub payload : HasPayload v
  pub spelled : IsPayloadReading form v.payload_order (payload_of v) (count_of v) samples

-- samples of Steim frames end on Xn; integers have no such constant
abbrev pub EndsOnConstants : View → List ℤ → Type 0
EndsOnConstants v samples = (form : Form) → form_of v.encoding ≡ Some form → EndsOnConstant form (payload_of v) samples

-- its samples stand in Steim frames
abbrev pub IsSteim : View → Type 0
IsSteim v = (scheme : Scheme) × (form_of v.encoding ≡ Some (Frames scheme))

-- no two lists of samples are a record's reading
abbrev pub HasOneReading : View → Type 0
HasOneReading v = (s t : List ℤ) → IsReading v s → IsReading v t → s ≡ t

-- Steim frames are read in big-endian words alone
abbrev pub IsReadable : Form → Order → Type 0
IsReadable (Integers width) order = ⊤
IsReadable (Frames scheme) order = order ≡ Big

abbrev pub is_little_steim : Form → Order → Bool
is_little_steim (Integers width) order = false
is_little_steim (Frames scheme) Big = false
is_little_steim (Frames scheme) Little = true

-- Why the samples can't be read: the first reason that applies, in this order.
pub data IsFault (v : View) : ReadFault → Type 0 where
  blockette_100 : v.has_rate_blockette ≡ true → IsFault v Blockette100
  encoding : v.has_rate_blockette ≡ false → form_of v.encoding ≡ None → IsFault v (Encoding v.encoding)
  little_steim : v.has_rate_blockette ≡ false → (scheme : Scheme) → form_of v.encoding ≡ Some (Frames scheme)
      → v.payload_order ≡ Little → IsFault v LittleSteim
  data_offset : v.has_rate_blockette ≡ false → (form : Form) → form_of v.encoding ≡ Some form
      → IsReadable form v.payload_order → ¬ (HasPayload v) → IsFault v DataOffset
  in_payload : v.has_rate_blockette ≡ false → (form : Form) → form_of v.encoding ≡ Some form
      → IsReadable form v.payload_order → HasPayload v
      → (fault : ReadFault) → IsPayloadFault form (payload_of v) (count_of v) fault → IsFault v fault

-- What a fault says of readings: there's none; or, where the last sample differs, the only one doesn't end on
-- the payload's constant.
abbrev pub Denies : View → ReadFault → Type 0
Denies v (LastDiffers found constant) =
    (s : List ℤ) × (IsReading v s × ((t : List ℤ) → IsReading v t → (s ≡ t) × (¬ (EndsOnConstants v t))))
Denies v fault = (s : List ℤ) → ¬ (IsReading v s)

-- How a record holds its samples, and where: it has no fault that comes before its payload is read.
abbrev pub HoldsIn : View → Form → List ℕ → Type 0
HoldsIn v form payload =
    (v.has_rate_blockette ≡ false) × (form_of v.encoding ≡ Some form) × IsReadable form v.payload_order × HasPayload v
    × (payload ≡ payload_of v)

-- the samples are the reading, and end on their constant
abbrev pub IsWhole : View → List ℤ → Type 0
IsWhole v s = IsReading v s × EndsOnConstants v s

-- what is told of such samples, or why there are none
abbrev pub AnswersRecord : {X : Type 0} → View → (X → List ℤ → Type 0) → Result X ReadFault → Type 0
AnswersRecord v told r =
    MatchResult r (λ answer. (s : List ℤ) × (IsWhole v s × told answer s)) (λ fault. IsFault v fault)

-- Why samples aren't kept: a fault; or, where there's none, no memory for them.
abbrev pub IsRefusal : View → ReadFault → Type 0
IsRefusal v fault = IsFault v fault ⊎ ((fault ≡ Memory) × ((s : List ℤ) × IsWhole v s))
