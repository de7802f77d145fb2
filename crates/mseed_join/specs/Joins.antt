-- What is written of the joint part of parts, and what is answered of it.
use Rattle.std.specs.Prelude.{◌≡◌, ◌||◌, ◌⊎◌, ℕ, nat_lt, List, map, Bool, true, is_some}
use Rattle.std.specs.Prelude.{Option, Result, Ok, Err}
use Rattle.mseed_stream.specs.Device.{BytesRead, BytesWritten}
use Rattle.mseed_stream.specs.Gathered.{IsCutOff}
use Rattle.mseed_audit.specs.Summary.{IsWritten, broken_count}
use Rattle.mseed_join.specs.declared.joining.Form.{Form}
use Rattle.mseed_join.specs.declared.joining.Form.TheVariants.{Audit, Part}
use Rattle.mseed_join.specs.declared.joining.Joined.{Joined as Answer}
use Rattle.mseed_join.specs.declared.fault.JoinFault.{JoinFault}
use Rattle.mseed_join.specs.declared.fault.JoinFault.TheVariants.{Line, Count, Stream, Write, Memory}
use Rattle.mseed_join.specs.Joined.{join_text, verdict_at}
use Rattle.mseed_join.specs.ReadParts.{AreBadParts, AreMiscounted, IsFailed, IsRead, IsReadFault, IsStopped}
use Rattle.mseed_join.specs.Written.{Written, part_text}

-- the text of the audit that it is the part of, or its own
abbrev pub text_by : Form → Written → List ℕ
text_by Audit w = join_text w
text_by Part w = part_text w

-- it ends with a fault, or faults were passed
abbrev pub is_faulty : Written → Bool
is_faulty w = is_some w.end || nat_lt 0 w.faults

-- the answer counts the channels that are broken, and says whether there is a fault
pub record IsAnswer (answer : Answer) (w : Written) : Type 0 where
  pub broken : answer.broken ≡ broken_count (map verdict_at w.part.channels)
  pub fault : answer.fault ≡ is_faulty w

-- By the outcome: of the input, of the output before and after, and of the device that faults are reported to before
-- and after. Where the parts weren't read whole, or another number of them was expected, nothing was written; where the
-- input failed, no bad line was read before.
abbrev pub IsJoinOutcome : Form → Bool → Option ℕ → Result Answer JoinFault → BytesRead → BytesWritten → BytesWritten
    → BytesWritten → BytesWritten → Type 0
IsJoinOutcome form past expected (Ok answer) h old new reported now =
    (w : Written) × (IsRead past expected h w reported now × IsAnswer answer w × IsWritten (text_by form w) old new)
IsJoinOutcome form past expected (Err (Line k offset flaw)) h old new reported now =
    (new ≡ old) × AreBadParts past h.bytes h.is_at_end k offset flaw reported now
IsJoinOutcome form past expected (Err (Count parts due)) h old new reported now =
    (new ≡ old) × (h.is_at_end ≡ true) × AreMiscounted past expected h.bytes parts due reported now
IsJoinOutcome form past expected (Err (Stream fault)) h old new reported now =
    (new ≡ old) × IsReadFault fault h × IsFailed past h reported now
IsJoinOutcome form past expected (Err Write) h old new reported now =
    (w : Written) × (IsRead past expected h w reported now
    × ((taken : ℕ) × IsCutOff taken (text_by form w) old new))
IsJoinOutcome form past expected (Err Memory) h old new reported now =
    (new ≡ old)
    × (IsStopped past h reported now ⊎ ((w : Written) × IsRead past expected h w reported now))
