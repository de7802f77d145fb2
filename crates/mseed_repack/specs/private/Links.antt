-- Where the records of each channel stand in an archive.
use Rattle.std.specs.Prelude.{◌≡◌, ℕ, ◌+◌, ◌<◌, ◌≤◌, List, length, map, drop, slice_index_or, true}
use Rattle.mseed_record.specs.Viewing.{view_of}
use Rattle.mseed_record.specs.declared.view.RecordView.{RecordView}
use Rattle.mseed_audit.specs.Channels.{is_of_channel}
use Rattle.mseed_repack.specs.private.Reading.{channel_in}
use Rattle.mseed_repack.specs.Repack.{Channel}

-- the record at an index, where there is one, is of the channel with this key
abbrev pub IsOfAt : List ℕ → List RecordView → ℕ → Type 0
IsOfAt key rs at = (r : RecordView) → at < length rs → r ≡ slice_index_or rs at r → is_of_channel key (view_of r) ≡ true

-- of the records from one index on the first that is of the channel stands at another, where there is one
pub record LeadsTo (key : List ℕ) (rs : List RecordView) (from at : ℕ) : Type 0 where
  pub order : from ≤ at
  pub none : channel_in key (map view_of (drop from rs)) ≡ channel_in key (map view_of (drop at rs))
  pub of : IsOfAt key rs at

-- after each of the channel's records from an index on, where the next one stands
abbrev pub AreNexts : List ℕ → List RecordView → ℕ → List ℕ → Type 0
AreNexts key rs from nexts =
    (i : ℕ) (r : RecordView) → from ≤ i → i < length rs → r ≡ slice_index_or rs i r → is_of_channel key (view_of r)
    ≡ true
    → LeadsTo key rs (i + 1) (slice_index_or nexts i 0)

-- of the channel's records from an index on, where the first one stands, and after each the next one
pub record IsLinkedFrom (from : ℕ) (key : List ℕ) (rs : List RecordView) (first : ℕ) (nexts : List ℕ) : Type 0 where
  pub first_is : LeadsTo key rs from first
  pub nexts_are : AreNexts key rs from nexts

-- the same of each channel
abbrev pub AreLinksFrom : ℕ → List RecordView → List Channel → List ℕ → List ℕ → Type 0
AreLinksFrom from rs cs firsts nexts =
    (k : ℕ) (c : Channel) → k < length cs
    → IsLinkedFrom from (slice_index_or cs k c).0 rs (slice_index_or firsts k 0) nexts

abbrev pub AreLinks : List RecordView → List Channel → List ℕ → List ℕ → Type 0
AreLinks rs cs firsts nexts = AreLinksFrom 0 rs cs firsts nexts

-- the same, as long as the lists of channels and of records
pub record AreLinked (rs : List RecordView) (cs : List Channel) (firsts nexts : List ℕ) : Type 0 where
  pub links : AreLinks rs cs firsts nexts
  pub firsts_count : length firsts ≡ length cs
  pub nexts_count : length nexts ≡ length rs
