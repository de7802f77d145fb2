use Rattle.std.proofs.Common.{◌≡◌, ℕ, List, [], ◌∷◌, get_or, arith}
use Rattle.std.specs.Prelude.{min}
use Rattle.mseed_steim.specs.private.Lanes.{Begins}
use Rattle.mseed_steim.specs.private.Unpacked.{data_in}
use Rattle.mseed_steim.proofs.frame.begin_in.Goals as goal

chosen : (met i r c : ℕ) (three four one : List ℕ) → r ≡ min i 1 → c ≡ min met 1 → Begins three 3 → Begins four 4
    → Begins one 1 → Begins (get_or (get_or ((three ∷ four ∷ []) ∷ (one ∷ one ∷ []) ∷ []) r []) c []) (data_in met i)
chosen met i r c three four one e g h k l = search arith

pub returns : goal.returns
returns c = grind (arith, chosen)
