-- The last of some records.
use Rattle.std.proofs.Common.{◌≡◌, List, [], ◌∷◌, ◌++◌, Option, Some, refl}
use Rattle.mseed_record.specs.View.{View}
use Rattle.mseed_audit.specs.Channels.{Placed}
use Rattle.mseed_audit.specs.Reported.{last_of}

pub last_snoc : (before : Option View) (ps : List Placed) (p : Placed) → last_of before (ps ++ p ∷ []) ≡ Some p.view
last_snoc before [] p = refl
last_snoc before (q ∷ ps) p = last_snoc (Some q.view) ps p
