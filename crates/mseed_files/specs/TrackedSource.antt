-- The record before a fault.
use Rattle.std.specs.Prelude.{◌≡◌, ◌+◌, ℕ, List}
use Rattle.mseed_stream.specs.Device.{HasRecordAt}

-- of these bytes, those from one offset up to another are a record
pub record IsRecordBefore (bytes : List ℕ) (begin end : ℕ) : Type 0 where
  pub size : ℕ
  pub is_record : HasRecordAt bytes begin size
  pub ends : begin + size ≡ end
