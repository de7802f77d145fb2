-- Records of an input, each of which goes into the ring of its station.
use Rattle.std.specs.Prelude.{◌≡◌, ℕ, Bool, ◌&&◌, List, [], ◌∷◌, length, map, bytes_eq, slice_get, slice_range, Some}
use Rattle.std.specs.Prelude.{if◌then◌else◌, nat_lt, replicate}
use Rattle.slink_wire.specs.Place.{Bears, Fields}
use Rattle.slink_feed.specs.Window.{Window, with_record}
use Rattle.slink_feed.specs.declared.input.ForeignRecord.{ForeignRecord}

-- the stations of rings, in their order
abbrev pub places_of : List Window → List Fields
places_of feed = map (λ w. w.place) feed

-- whether a record's header has the codes of a station
abbrev pub is_of_station : Fields → List ℕ → Bool
is_of_station place bytes = bytes_eq (slice_range bytes 8 13) place.station && bytes_eq (slice_range bytes 18 20)
    place.network

-- The record has 512 bytes, and is of one of the stations.
abbrev pub IsOfFeed : List Fields → List ℕ → Type 0
IsOfFeed places bytes =
    (length bytes ≡ 512) × (k : ℕ) × (place : Fields) × (slice_get places k ≡ Some place) × Bears bytes place

-- the rings, once the first one of a record's station accepted it
abbrev pub pushed : List Window → List ℕ → List Window
pushed [] bytes = []
pushed (w ∷ ws) bytes = if is_of_station w.place bytes then with_record w bytes ∷ ws else w ∷ pushed ws bytes

-- the codes of the header that these bytes begin with; spaces where they aren't all there
abbrev pub codes_of : List ℕ → Fields
codes_of bytes =
    if nat_lt (length bytes) 20 then record { station = replicate 5 32; network = replicate 2 32 }
    else record { station = slice_range bytes 8 13; network = slice_range bytes 18 20 }

-- a record of an input, by its number, its length and the bytes with which it begins
abbrev pub foreign_of : ℕ → ℕ → List ℕ → ForeignRecord
foreign_of number size bytes = record {
  number = number;
  size = size;
  station = (codes_of bytes).station;
  network = (codes_of bytes).network;
}
