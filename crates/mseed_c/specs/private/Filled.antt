-- What filling in a record's samples leaves in the places for them.
use Rattle.std.specs.Prelude.{◌≡◌, ◌≢◌, ◌≤◌, ◌<◌, ℕ, ℤ, List, length, take}
use Rattle.mseed_record.specs.View.{View}
use Rattle.mseed_steim.specs.declared.fault.ReadFault.{ReadFault}
use Rattle.mseed_steim.specs.Reading.{count_of, IsFault, IsWhole}
use Rattle.mseed_c.specs.Codes.{code_of_read}

-- so many samples stand at the beginning of the places, or there are none, by the code
pub record AreSamples (v : View) (out : List ℤ) (n code : ℕ) : Type 0 where
  pub fits : n ≤ length out
  pub whole : code ≡ 0 → (n ≡ count_of v) × (0 < n → IsWhole v (take n out))
  pub fault : code ≢ 0
      → (n ≡ 0) × (0 < count_of v) × ((f : ReadFault) × (IsFault v f × (code ≡ code_of_read f)))

-- there are fewer places than the record has samples
pub record LacksRoom (v : View) (out : List ℤ) (places : ℕ) : Type 0 where
  pub count : places ≡ count_of v
  pub fewer : length out < places
