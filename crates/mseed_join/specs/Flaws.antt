-- What is wrong with the first bad line of parts, by where it stands.
use Rattle.std.specs.Prelude.{⊤, ◌≡◌, ◌≢◌, ◌<◌, ◌≤◌, ℕ, List, [], ◌∷◌, ◌++◌, length, take, codes, nat_eq, Bool, true}
use Rattle.std.specs.Prelude.{if◌then◌else◌}
use Rattle.std.specs.List.{starts_with}
use Rattle.mseed_stream.specs.declared.fault.StreamFault.{StreamFault}
use Rattle.mseed_text.specs.Fault.{fault_line}
use Rattle.mseed_audit.specs.declared.channel.Channel.{Channel}
use Rattle.mseed_join.specs.Parts.{IsAscending}
use Rattle.mseed_join.specs.Lines.{Line, header, channel, counts, faults, fault, text_of_line, IsLine}
use Rattle.mseed_join.specs.Lines.{header_line, channel_line, counts_line, faults_line}
use Rattle.mseed_join.specs.Lines.{HasChannelLine, HasCountsLine, HasFaultsLine, HasFaultLine}
use Rattle.mseed_join.specs.Fields.{IsFirstBad}
use Rattle.mseed_join.specs.declared.bad_field.Field.{Field}
use Rattle.mseed_join.specs.declared.flaw.Closing.{Closing}
use Rattle.mseed_join.specs.declared.flaw.Closing.TheVariants.{Faults, Fault, Neither}
use Rattle.mseed_join.specs.declared.flaw.Flaw.{Flaw}
use Rattle.mseed_join.specs.declared.flaw.Flaw.TheVariants.{Beginning, Row, Order, Ending, Limit, Long, Unended}
use Rattle.mseed_join.specs.declared.flaw.Flaw.TheVariants.{Missing}
use Rattle.mseed_join.specs.Joined.{HasNoEnd}
use Rattle.mseed_join.specs.Reached.{OpenPart, none, begun, whole}
use Rattle.mseed_join.specs.Written.{Written}

-- this line can stand here, whatever its numbers come to
abbrev pub May : OpenPart → Line → Type 0
May none header = ⊤
May none (channel key c) = ⊥
May none (counts records bytes) = ⊥
May none (faults n) = ⊥
May none (fault bytes f) = ⊥
May (begun channels) header = ⊥
May (begun channels) (channel key c) = IsAscending (channels ++ (key, c) ∷ [])
May (begun channels) (counts records bytes) = ⊤
May (begun channels) (faults n) = ⊥
May (begun channels) (fault bytes f) = ⊥
May (whole w) header = ⊤
May (whole w) (channel key c) = ⊥
May (whole w) (counts records bytes) = ⊥
May (whole w) (faults n) = w.faults ≡ 0
May (whole w) (fault bytes f) = w.part.bytes ≡ bytes

-- it is no line of a channel, and none of counts
abbrev pub IsNoChannel : List ℕ → Type 0
IsNoChannel line = (key : List ℕ) (c : Channel) → HasChannelLine key c → line ≢ channel_line key c

abbrev pub IsNoCounts : List ℕ → Type 0
IsNoCounts line = (records bytes : ℕ) → HasCountsLine records bytes → line ≢ counts_line records bytes

-- it is no line of the fault after `bytes` bytes, and none of faults that were passed
abbrev pub IsNoFault : ℕ → List ℕ → Type 0
IsNoFault bytes line = (f : StreamFault) → HasFaultLine bytes f → line ≢ fault_line f

abbrev pub IsNoFaults : List ℕ → Type 0
IsNoFaults line = (n : ℕ) → HasFaultsLine n → line ≢ faults_line n

-- what a line after the counts begins as
abbrev pub begun_as : List ℕ → Closing
begun_as line =
    if starts_with nat_eq line (codes "faults ") then Faults
    else if starts_with nat_eq line (codes "fault at ") then Fault else Neither

-- What is wrong with a whole line, by what stands before it. Of a line that no parts go on with it is one of these.
pub data IsFlawOf : Flaw → OpenPart → List ℕ → Type 0 where
  beginning : (line : List ℕ) → line ≢ header_line → IsFlawOf Beginning none line
  row : (channels : List (List ℕ × Channel)) (line : List ℕ) (field : Field) → IsNoChannel line → IsNoCounts line
      → IsFirstBad field line → IsFlawOf (Row field) (begun channels) line
  order : (channels : List (List ℕ × Channel)) (key : List ℕ) (c : Channel) (line : List ℕ) → HasChannelLine key c
      → line ≡ channel_line key c → ¬ (IsAscending (channels ++ (key, c) ∷ []))
      → IsFlawOf (Order key) (begun channels) line
  -- the number of faults comes once
  ending : (w : Written) (line : List ℕ) → line ≢ header_line → IsNoFault w.part.bytes line
      → (w.faults ≡ 0 → IsNoFaults line) → IsFlawOf (Ending (begun_as line)) (whole w) line
  -- no parts go on with it though it can stand here, since a sum passes
  limit : (last : OpenPart) (x : Line) (line : List ℕ) → IsLine x → May last x → text_of_line x ≡ line
      → IsFlawOf Limit last line

-- What is wrong with the first line of these bytes, by what stands before them, and whether the input is at its end.
pub data IsFlaw : Flaw → OpenPart → List ℕ → Bool → Type 0 where
  line : (flaw : Flaw) (last : OpenPart) (body after bytes : List ℕ) (at_end : Bool) → HasNoEnd body
      → length body < 512 → bytes ≡ (body ++ 10 ∷ []) ++ after → IsFlawOf flaw last (body ++ 10 ∷ [])
      → IsFlaw flaw last bytes at_end
  long : (last : OpenPart) (bytes : List ℕ) (at_end : Bool) → HasNoEnd (take 512 bytes) → 512 ≤ length bytes
      → IsFlaw Long last bytes at_end
  unended : (last : OpenPart) (bytes : List ℕ) (at_end : Bool) → at_end ≡ true → bytes ≢ [] → HasNoEnd bytes
      → length bytes < 512 → IsFlaw Unended last bytes at_end
  missing : (channels : List (List ℕ × Channel)) (at_end : Bool) → at_end ≡ true
      → IsFlaw Missing (begun channels) [] at_end
