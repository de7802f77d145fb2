-- The text of a part, and texts one after another.
use Rattle.std.specs.Prelude.{◌≡◌, ◌<◌, ◌^◌, ℕ, List, [], ◌∷◌, ◌++◌, Option, IfSome}
use Rattle.std.specs.List.{AllByRecursion}
use Rattle.mseed_stream.specs.declared.fault.StreamFault.{StreamFault}
use Rattle.mseed_audit.specs.declared.channel.Channel.{Channel}
use Rattle.mseed_text.specs.Fault.{end_line}
use Rattle.mseed_join.specs.Parts.{Held, IsAscending}
use Rattle.mseed_join.specs.Lines.{header_line, channel_line, counts_line, faults_line}
use Rattle.mseed_join.specs.Lines.{HasChannelLine, HasCountsLine, HasFaultLine}

-- what a part's text says: the part, how many faults were passed, and the fault with which it ends, if with one
pub record Written : Type 0 where
  pub part : Held
  pub faults : ℕ
  pub end : Option StreamFault

abbrev pub channel_lines : List (List ℕ × Channel) → List ℕ
channel_lines [] = []
channel_lines (e ∷ es) = channel_line e.0 e.1 ++ channel_lines es

-- the text of a part
abbrev pub part_text : Written → List ℕ
part_text w =
    header_line ++ channel_lines w.part.channels ++ counts_line w.part.records w.part.bytes ++ faults_line w.faults
    ++ end_line w.end

-- a part has a text where its channels ascend and each line is within its ranges
pub record HasText (w : Written) : Type 0 where
  pub ascending : IsAscending w.part.channels
  pub channels : AllByRecursion (λ (e : List ℕ × Channel). HasChannelLine e.0 e.1) w.part.channels
  pub counts : HasCountsLine w.part.records w.part.bytes
  pub faults : w.faults < 2 ^ 63
  pub end : IfSome w.end (λ fault. HasFaultLine w.part.bytes fault)

-- the texts of parts, one after another
abbrev pub texts : List Written → List ℕ
texts [] = []
texts (w ∷ ws) = part_text w ++ texts ws

-- these bytes are the texts of these parts
pub record Spells (bytes : List ℕ) (ws : List Written) : Type 0 where
  pub text : bytes ≡ texts ws
  pub each : AllByRecursion HasText ws
