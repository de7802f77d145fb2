-- An archive's end is the only one, since the framing steps have one answer.
use Rattle.std.proofs.Common.{◌≡◌, ℕ, List, [], length, refl, ap, arith}
use Rattle.mseed_record.specs.declared.framer.Scan.TheVariants.{Need, Not}
use Rattle.mseed_record.specs.declared.fault.FrameFault.{FrameFault}
use Rattle.mseed_record.specs.Scan.{Decides, short}
use Rattle.mseed_record.proofs.OneAnswer.{one_answer}
use Rattle.mseed_stream.specs.Archive.{End, IsEndOf, is_clean, is_frame, is_truncated}

-- nothing refuses no bytes
refused_some : (b : List ℕ) (f : FrameFault) → b ≡ [] → Decides b (Not f) → ⊥
refused_some b f e d = cc (one_answer b (Not f) (Need 48) d (rw e (short refl (omega arith))))

pub one_end : (rest : List ℕ) (one other : End) → IsEndOf rest one → IsEndOf rest other → one ≡ other
one_end rest _ _ (is_clean e) (is_clean d) = refl
one_end rest _ _ (is_clean e) (is_frame f d) = absurd (refused_some rest f e d)
one_end rest _ _ (is_clean e) (is_truncated k l d) = absurd (omega (arith, ap (λ (xs : List ℕ). length xs) e))
one_end rest _ _ (is_frame f d) (is_clean e) = absurd (refused_some rest f e d)
one_end rest _ _ (is_frame f d) (is_frame g e) =
    cc (one_answer rest (Not f) (Not g) d e)
one_end rest _ _ (is_frame f d) (is_truncated k l e) = absurd (cc (one_answer rest (Not f) (Need k) d e))
one_end rest _ _ (is_truncated k l d) (is_clean e) = absurd (omega (arith, ap (λ (xs : List ℕ). length xs) e))
one_end rest _ _ (is_truncated k l d) (is_frame f e) = absurd (cc (one_answer rest (Need k) (Not f) d e))
one_end rest _ _ (is_truncated k l d) (is_truncated n m e) = refl
