-- What the bytes that a client keeps have come to.
use Rattle.std.specs.Prelude.{◌≡◌, ◌≢◌, ℕ, Bool, false, ◌-◌, ◌≤◌, ◌<◌, ◌==◌, ◌&&◌, List, length, codes, Option, Some}
use Rattle.std.specs.Prelude.{None, slice_get, take, ◌++◌}
use Rattle.slink_wire.specs.Packet.{HasHead}
use Rattle.slink_feed.specs.declared.cutting.Part.{Part}
use Rattle.slink_feed.specs.declared.cutting.Part.TheVariants as parts
use Rattle.slink_feed.specs.Cutting.{Begins, IsNoPacket, IsNoReply, IsPacketBegun, IsReply, IsReplyBegun}

-- whether a byte is an LF after these, of which the last is a CR
abbrev pub ends_line : Option ℕ → ℕ → Bool
ends_line None byte = false
ends_line (Some last) byte = last == 13 && byte == 10

abbrev pub ends_reply : List ℕ → ℕ → Bool
ends_reply bytes byte = ends_line (slice_get bytes (length bytes - 1)) byte

-- what the bytes of a reply come to
abbrev pub IsReplyPart : List ℕ → Part → Type 0
IsReplyPart bytes parts.Begun = IsReplyBegun bytes
IsReplyPart bytes parts.Whole = (line : List ℕ) × IsReply bytes line
IsReplyPart bytes parts.End = ⊥
IsReplyPart bytes parts.Garbage = IsNoReply bytes

-- what the bytes of a packet come to
abbrev pub IsPacketPart : List ℕ → Part → Type 0
IsPacketPart bytes parts.Begun = IsPacketBegun bytes
IsPacketPart bytes parts.Whole = (n : ℕ) × HasHead bytes n × (length bytes ≡ 520)
IsPacketPart bytes parts.End = bytes ≡ codes "END"
IsPacketPart bytes parts.Garbage = IsNoPacket bytes

-- bytes that are to be judged: those before the last ones that came are begun
pub record IsDue (bytes : List ℕ) : Type 0 where
  pub most : length bytes ≤ 520
  pub first : (b : ℕ) → Begins bytes b → b ≢ 83 → b ≢ 69 → length bytes ≡ 1
  pub end : Begins bytes 69 → length bytes ≤ 3
  pub head : Begins bytes 83 → 8 < length bytes → (n : ℕ) × HasHead bytes n

-- So many of these bytes went after those that were kept, and this is what they have come to. Where they come to
-- nothing yet, all were taken.
pub record TakesUpTo (Comes : List ℕ → Part → Type 0) (old new bytes : List ℕ) (used : ℕ) (it : Part) : Type 0 where
  pub kept : new ≡ old ++ take used bytes
  pub part : Comes new it
  pub whole : it ≡ parts.Begun → used ≡ length bytes
  pub some : 0 < length bytes → 0 < used
  pub bound : used ≤ length bytes
