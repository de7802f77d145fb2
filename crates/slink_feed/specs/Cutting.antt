-- How the bytes that a link brings are cut: into replies while one is awaited, then into packets and the end.
use Rattle.std.specs.Prelude.{◌≡◌, ◌≢◌, ℕ, ◌+◌, ◌≤◌, ◌<◌, List, [], ◌∷◌, ◌++◌, length, codes, Some, slice_get}
use Rattle.slink_wire.specs.Packet.{HasHead, IsPacket}
use Rattle.slink_wire.specs.Reply.{line_end}
use Rattle.slink_feed.specs.declared.dialogue.Stage.{Stage}
use Rattle.slink_feed.specs.declared.dialogue.Stage.TheVariants.{Station, Number, Packets}
use Rattle.slink_feed.specs.Dialogue.{Whole, Reply, Packet, End, Garbage}

-- No CR stands right before an LF.
abbrev pub LacksEnd : List ℕ → Type 0
LacksEnd bytes = (i : ℕ) → slice_get bytes i ≡ Some 13 → slice_get bytes (i + 1) ≢ Some 10

-- A reply ends at the first CR LF, and has at most 256 bytes with it. 256 bytes without one are none.
abbrev pub IsReply : List ℕ → List ℕ → Type 0
IsReply bytes line = (bytes ≡ line ++ line_end) × LacksEnd (line ++ 13 ∷ []) × (length bytes ≤ 256)

abbrev pub IsNoReply : List ℕ → Type 0
IsNoReply bytes = LacksEnd bytes × (length bytes ≡ 256)

abbrev pub IsReplyBegun : List ℕ → Type 0
IsReplyBegun bytes = LacksEnd bytes × (length bytes < 256)

-- the first byte
abbrev pub Begins : List ℕ → ℕ → Type 0
Begins bytes b = slice_get bytes 0 ≡ Some b

-- No packet and no end: the first byte is neither `S` nor `E`; three bytes with an `E` before it that aren't `END`; or
-- eight with an `S` before it that are no packet's first.
pub data IsNoPacket (bytes : List ℕ) : Type 0 where
  no_first : (b : ℕ) → Begins bytes b → b ≢ 83 → b ≢ 69 → length bytes ≡ 1 → IsNoPacket bytes
  no_end : Begins bytes 69 → length bytes ≡ 3 → bytes ≢ codes "END" → IsNoPacket bytes
  no_head : Begins bytes 83 → length bytes ≡ 8 → ((n : ℕ) → ¬ (HasHead bytes n)) → IsNoPacket bytes

-- bytes of which more are awaited, before they are a packet, the end, or neither
pub data IsPacketBegun (bytes : List ℕ) : Type 0 where
  nothing : length bytes ≡ 0 → IsPacketBegun bytes
  end_begun : Begins bytes 69 → length bytes < 3 → IsPacketBegun bytes
  head_begun : Begins bytes 83 → length bytes < 8 → IsPacketBegun bytes
  record_begun : (n : ℕ) → Begins bytes 83 → HasHead bytes n → 8 ≤ length bytes → length bytes < 520
      → IsPacketBegun bytes

abbrev pub IsWholeReply : List ℕ → Whole → Type 0
IsWholeReply bytes (Reply line) = IsReply bytes line
IsWholeReply bytes Garbage = IsNoReply bytes
IsWholeReply bytes whole = ⊥

abbrev pub IsWholePacket : List ℕ → Whole → Type 0
IsWholePacket bytes (Reply line) = ⊥
IsWholePacket bytes (Packet n r) = IsPacket bytes n r × (length bytes ≡ 520)
IsWholePacket bytes End = bytes ≡ codes "END"
IsWholePacket bytes Garbage = IsNoPacket bytes

-- These bytes are one whole of what a client awaits.
abbrev pub IsWhole : Stage → List ℕ → Whole → Type 0
IsWhole (Station k) bytes whole = IsWholeReply bytes whole
IsWhole (Number k) bytes whole = IsWholeReply bytes whole
IsWhole Packets bytes whole = IsWholePacket bytes whole
IsWhole stage bytes whole = ⊥

-- These bytes are the prefix of one, and not yet a whole.
abbrev pub IsBegun : Stage → List ℕ → Type 0
IsBegun (Station k) bytes = IsReplyBegun bytes
IsBegun (Number k) bytes = IsReplyBegun bytes
IsBegun Packets bytes = IsPacketBegun bytes
IsBegun stage bytes = bytes ≡ []
