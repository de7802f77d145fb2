-- The packets of the feed (SeedLink 3, packets), 520 bytes: `SL`, the record's number in six hexadecimal digits, the
-- record.
use Rattle.std.specs.Prelude.{◌≡◌, ℕ, List, ◌++◌, take, drop, map, codes, slice_range}
use Rattle.std.specs.Char.{to_ascii_uppercase}
use Rattle.slink_wire.specs.Hexadecimal.{hexadecimal, SpellsNumber}

-- a packet as it is written
abbrev pub packet_bytes : ℕ → List ℕ → List ℕ
packet_bytes number bytes = codes "SL" ++ hexadecimal 6 number ++ bytes

-- The bytes begin with `SL` and six digits that say this number, in either case.
abbrev pub HasHead : List ℕ → ℕ → Type 0
HasHead bytes number = (take 2 bytes ≡ codes "SL") × SpellsNumber (slice_range bytes 2 8) number

-- a packet as it may be read: its digits stand in either case
abbrev pub IsPacket : List ℕ → ℕ → List ℕ → Type 0
IsPacket packet number bytes = (take 2 packet ≡ codes "SL") × SpellsNumber (slice_range packet 2 8) number
    × (drop 8 packet ≡ bytes)

-- a packet with its digits in capitals
abbrev pub in_capitals : List ℕ → List ℕ
in_capitals packet = take 2 packet ++ map to_ascii_uppercase (slice_range packet 2 8) ++ drop 8 packet
