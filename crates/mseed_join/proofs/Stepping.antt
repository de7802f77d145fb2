-- One more line of each kind, taken.
use Rattle.std.proofs.Common.{◌≡◌, ℕ, ◌+◌, ◌<◌, ◌^◌, List, [], ◌∷◌, ◌++◌, Bool, Option, Some, None}
use Rattle.std.proofs.Common.{refl, ap, arith}
use Rattle.std.specs.Option.{option_map}
use Rattle.mseed_stream.specs.declared.fault.StreamFault.{StreamFault}
use Rattle.mseed_stream.specs.declared.fault.StreamFault.TheVariants.{Frame, Truncated, Read, Turns, Memory}
use Rattle.mseed_audit.specs.declared.channel.Channel.{Channel}
use Rattle.mseed_join.specs.Parts.{IsAscending, IsJoint, Fits, FitsAt, kept_of, one_channel}
use Rattle.mseed_join.specs.Parts.{counts_alone}
use Rattle.mseed_join.specs.Lines.{IsFaultAfter}
use Rattle.mseed_join.specs.Written.{Written}
use Rattle.mseed_join.specs.Joined.{none as no_more, one, IsNext, IsJointOf, counted, moved_fault, nothing}
use Rattle.mseed_join.specs.Reached.{begun_part}
use Rattle.mseed_join.specs.private.Steps.{counted_part}
use Rattle.mseed_join.specs.private.Taking.{fault_after}
use Rattle.mseed_join.proofs.Machine.{Entries}
use Rattle.mseed_join.proofs.Extended.{channel_more, fits_more, joins, kept_none, none_joined, with_counts}
use Rattle.mseed_join.proofs.Sums.{IsGood, glue, joined_good, nothing_good, stop}

-- ---- joint parts
pub begin_joint : (past : Bool) (ws : List Written) (h : Written) → IsJointOf past ws h
    → IsJointOf past (ws ++ begun_part [] ∷ []) h
begin_joint past ws h j = by h.end refl
  where
    good : IsGood h
    good = joined_good nothing h (counted past ws) nothing_good j

    by : (o : Option StreamFault) → h.end ≡ o → IsJointOf past (ws ++ begun_part [] ∷ []) h
    by (Some f) e = stop past ws (begun_part [] ∷ []) h f e j
    by None e = glue past ws (begun_part [] ∷ []) h h e j (one h (begun_part []) h h [] (record {
      part = none_joined h.part good.ascending;
      fits = record { records = omega (arith, good.records); bytes = omega (arith, good.bytes); each = λ key. tt };
      faults = omega arith;
      faults_fit = good.faults;
      end = e;
    }) (no_more h))

pub channel_next : (a h k : Written) (cs : Entries) (key : List ℕ) (c : Channel)
    → IsNext a (begun_part cs) h → IsAscending (cs ++ (key, c) ∷ []) → IsJoint h.part (one_channel key c) k.part
    → FitsAt h.part.records h.part.bytes (kept_of key h.part.channels) (Some c) → k.faults ≡ h.faults → k.end ≡ None
    → IsNext a (begun_part (cs ++ (key, c) ∷ [])) k
channel_next a h k cs key c next sorted joint fit same end =
    let absent = kept_none cs (key, c) [] sorted in
    record {
      part = channel_more a.part h.part k.part cs key c next.part absent joint;
      fits = record {
        records = next.fits.records;
        bytes = next.fits.bytes;
        each = fits_more a.part h.part cs (key, c) absent (joins a.part cs h.part next.part) fit next.fits.each;
      };
      faults = omega (arith, same, next.faults);
      faults_fit = omega (arith, same, next.faults_fit);
      end = end;
    }

pub counts_next : (a h k : Written) (cs : Entries) (n b : ℕ) → IsNext a (begun_part cs) h
    → IsJoint h.part (counts_alone n b) k.part → Fits h.part (counts_alone n b) → k.faults ≡ h.faults → k.end ≡ None
    → IsNext a (counted_part cs n b) k
counts_next a h k cs n b next joint fit same end = search (arith, with_counts)

-- after what stood before it, the same part with other faults or another end, joined to the same
pub same_part : (a w h v k : Written) → IsNext a w h → v.part ≡ w.part → k.part ≡ h.part
    → k.faults ≡ a.faults + v.faults → k.faults < 2 ^ 63 → k.end ≡ option_map (moved_fault a.part.bytes) v.end
    → IsNext a v k
same_part a w h v k next own joint sum fit ends = search arith

pub fault_is : (d e b : ℕ) (f : StreamFault) → IsFaultAfter b f → e ≡ d + b → fault_after e f ≡ moved_fault d f
fault_is d e b (Frame offset x) l s = let same : e ≡ d + offset = omega (arith, l.0, s) in ap (λ n. Frame n x) same
fault_is d e b (Truncated offset have) l s = search arith
fault_is d e b (Read offset) l s = let same : e ≡ d + offset = omega (arith, l, s) in ap (λ n. Read n) same
fault_is d e b (Turns offset) l s = let same : e ≡ d + offset = omega (arith, l, s) in ap (λ n. Turns n) same
fault_is d e b Memory l s = refl
