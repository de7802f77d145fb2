-- The framing steps have one answer.
use Rattle.std.proofs.Common.{◌≡◌, ℕ, List}
use Rattle.mseed_record.specs.declared.framer.Scan.{Scan}
use Rattle.mseed_record.specs.Scan.{Decides}
use Rattle.mseed_record.proofs.Answered.{settles, one_settled}

-- the framing steps decide one thing
pub one_answer : (b : List ℕ) (a c : Scan) → Decides b a → Decides b c → a ≡ c
one_answer b a c d e = one_settled b a c (settles b a d) (settles b c e)
