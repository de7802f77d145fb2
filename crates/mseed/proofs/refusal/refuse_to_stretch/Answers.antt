use Rattle.std.proofs.Common.{◌≡◌, ℕ, List, refl}
use Rattle.mseed_steim.specs.declared.encoding.Encoding.{Encoding}
use Rattle.mseed_pack.specs.declared.fault.PackFault.{PackFault}
use Rattle.mseed_repack.specs.declared.fault.RepackFault.{RepackFault}
use Rattle.mseed_repack.specs.declared.fault.RepackFault.TheVariants.{Stream, Broken, Misfit, Write, Memory}
use Rattle.mseed.specs.Repacked.{refusal_text}
use Rattle.mseed.specs.Restretched.{stretches_text}
use Rattle.mseed.proofs.refusal.refuse_to_stretch.Goals as goal

-- a fault of no stretch has the line that it has of a whole channel
same_line : (e : Encoding) (fault : RepackFault) → ((k : List ℕ) (n : ℕ) (f : PackFault) → fault ≡ Misfit k n f → ⊥)
    → refusal_text e fault ≡ stretches_text e fault
same_line e (Stream f) fine = refl
same_line e (Broken k first) fine = refl
same_line e (Misfit k n f) fine = absurd (fine k n f refl)
same_line e Write fine = refl
same_line e Memory fine = refl

pub returns-in-Misfit-clause-reported : goal.returns-in-Misfit-clause-reported
returns-in-Misfit-clause-reported g c = rw c.in-Misfit.is c.refuse_unfit.ensures.reported

pub returns-in_default-clause-reported : goal.returns-in_default-clause-reported
returns-in_default-clause-reported g c =
    rw (same_line c.args.encoding c.args.fault.now c.in_default.not-Misfit) at c.refuse_to_repack.ensures.reported
