-- The audit of archives one after another, and the joint part of theirs.
use Rattle.std.specs.Prelude.{⊤, ◌≡◌, ◌<◌, ◌^◌, ℕ, List, [], ◌∷◌, ◌++◌, length, map, Option, Some, None, true}
use Rattle.std.specs.List.{AllByRecursion}
use Rattle.mseed_stream.specs.Device.{BytesRead}
use Rattle.mseed_stream.specs.declared.fault.StreamFault.{StreamFault}
use Rattle.mseed_stream.specs.declared.fault.StreamFault.TheVariants.{Frame, Truncated, Read, Turns, Memory}
use Rattle.mseed_audit.specs.Summary.{Audited, broken_count, text_of}
use Rattle.mseed_join.specs.AuditPart.{AuditedPart}
use Rattle.mseed_join.specs.Joined.{join_text, verdict_at}
use Rattle.mseed_join.specs.Written.{Written}

-- an archive ends so by its bytes alone: no read failed, and the reads that one audit may make were enough
abbrev pub EndsByBytes : Option StreamFault → Type 0
EndsByBytes None = ⊤
EndsByBytes (Some (Frame offset fault)) = ⊤
EndsByBytes (Some (Truncated offset have)) = ⊤
EndsByBytes (Some (Read offset)) = ⊥
EndsByBytes (Some (Turns offset)) = ⊥
EndsByBytes (Some Memory) = ⊥

-- what was read of an archive: its first bytes, and all of them where the input is at its end
pub record IsReadOf (archive : List ℕ) (h : BytesRead) : Type 0 where
  pub rest : List ℕ
  pub bytes : archive ≡ h.bytes ++ rest
  pub all : h.is_at_end ≡ true → rest ≡ []

-- Archives one after another, and their parts. Each archive but the last ends without a fault.
pub data AreParted : List ℕ → List Written → Type 0 where
  none : AreParted [] []
  last : (archive : List ℕ) (h : BytesRead) (a : AuditedPart h) → IsReadOf archive h → EndsByBytes a.written.end
      → AreParted archive (a.written ∷ [])
  more : (archive others : List ℕ) (h : BytesRead) (a : AuditedPart h) (ws : List Written) → IsReadOf archive h
      → a.written.end ≡ None → AreParted others ws → AreParted (archive ++ others) (a.written ∷ ws)

-- the joint part says what the audit says: its text, byte for byte, how many channels are broken, and the fault at the
-- end
pub record SaysAudit (joint : Written) {h : BytesRead} (a : Audited h) : Type 0 where
  pub text : join_text joint ≡ text_of a
  pub broken : broken_count (map verdict_at joint.part.channels) ≡ broken_count a.verdicts
  pub faults : joint.faults ≡ 0
  pub end : joint.end ≡ a.end

-- a part without its last line, if that is a fault
abbrev pub without_end : Written → Written
without_end w = record { part = w.part; faults = w.faults; end = None }

-- the bytes are octets, and not too many for a part
pub record IsWithinLimits (bytes : List ℕ) : Type 0 where
  pub octets : AllByRecursion (λ b. b < 2 ^ 8) bytes
  pub size : length bytes < 2 ^ 63
