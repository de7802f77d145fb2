-- The records of an archive with one more, as they are added.
use Rattle.std.proofs.Common.{◌≡◌, ℕ, ◌+◌, List, [], ◌∷◌, length}
use Rattle.std.proofs.Common.{ap, refl, suc, if◌then◌else◌}
use Rattle.mseed_record.specs.View.{View}
use Rattle.mseed_record.specs.Selection.{Selection, asks_for}
use Rattle.mseed_audit.specs.Channels.{Placed, added_from}

-- it is judged where it is asked for
abbrev pub asked_at : Selection → Placed → List Placed
asked_at s p = if asks_for s p.view then p ∷ [] else []

pub added_length : (offset : ℕ) (views : List View) → length (added_from offset views) ≡ length views
added_length offset [] = refl
added_length offset (v ∷ views) = ap suc (added_length (offset + length v.bytes) views)
