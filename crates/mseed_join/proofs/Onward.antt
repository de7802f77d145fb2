-- Where parts are, and the lines that go on from there.
use Rattle.std.proofs.Common.{◌≡◌, ℕ, List, [], ◌∷◌, ◌++◌, Bool, Option}
use Rattle.mseed_stream.specs.declared.fault.StreamFault.{StreamFault}
use Rattle.mseed_audit.specs.declared.channel.Channel.{Channel}
use Rattle.mseed_join.specs.Lines.{Line, header, channel, counts, faults, fault}
use Rattle.mseed_join.specs.Parts.{IsAscending}
use Rattle.mseed_join.specs.Reached.{OpenPart, none, begun, whole}
use Rattle.mseed_join.specs.Written.{Written}
use Rattle.mseed_join.specs.declared.joint.PlaceInPart.{PlaceInPart}
use Rattle.mseed_join.specs.declared.joint.PlaceInPart.TheVariants.{Start, Channels, Whole}
use Rattle.mseed_join.specs.private.Steps.{May}
use Rattle.mseed_join.specs.private.Taking.{IsLastKey, IsPlace, IsRead}

-- each with what stands before it
pub data Onward : OpenPart → Line → Type 0 where
  opens : Onward none header
  follows : (w : Written) → Onward (whole w) header
  row : (cs : List (List ℕ × Channel)) (key : List ℕ) (c : Channel) → IsAscending (cs ++ (key, c) ∷ [])
      → Onward (begun cs) (channel key c)
  sums : (cs : List (List ℕ × Channel)) (n l : ℕ) → Onward (begun cs) (counts n l)
  passes : (w : Written) (n : ℕ) → w.faults ≡ 0 → Onward (whole w) (faults n)
  ends : (w : Written) (l : ℕ) (f : StreamFault) → w.part.bytes ≡ l → Onward (whole w) (fault l f)

abbrev pub onward : (b : OpenPart) (x : Line) → May b x → Onward b x
onward none header m = Onward.opens
onward (begun cs) (channel key c) m = Onward.row cs key c m
onward (begun cs) (counts n l) m = Onward.sums cs n l
onward (whole w) header m = Onward.follows w
onward (whole w) (faults n) m = Onward.passes w n m
onward (whole w) (fault l f) m = Onward.ends w l f m
onward _ _ m = absurd m

-- what a joint part knows of where they are
pub data Standing : PlaceInPart → OpenPart → Type 0 where
  starts : Standing Start none
  rows : (last : Option (List ℕ)) (cs : List (List ℕ × Channel)) → IsLastKey last cs
      → Standing (Channels last) (begun cs)
  closes : (bytes : ℕ) (has : Bool) (w : Written) → bytes ≡ w.part.bytes → IsRead has w.faults
      → Standing (Whole bytes has) (whole w)

pub standing : (place : PlaceInPart) (b : OpenPart) → IsPlace place b → Standing place b
standing Start none p = Standing.starts
standing (Channels last) (begun cs) p = Standing.rows last cs p
standing (Whole bytes has) (whole w) p = Standing.closes bytes has w p.0 p.1
standing _ _ p = absurd p

abbrev pub IsNoHeader : Line → Type 0
IsNoHeader header = ⊥
IsNoHeader _ = Unit {0}
