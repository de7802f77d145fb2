-- Records one after another: their counts, and the last of them.
use Rattle.std.proofs.Common.{◌≡◌, ℕ, ◌+◌, ◌<◌, List, [], ◌∷◌, ◌++◌, ◌+ℤ◌, refl, sym, ap, ◌∙◌, arith}
use Rattle.std.proofs.Common.{length, map, take, drop, get_or}
use Rattle.std.proofs.lemmas.List.{map-append, map_more, take-append-drop}
use Rattle.std.proofs.lemmas.Int.{ints}
use Rattle.mseed_record.specs.View.{View}
use Rattle.mseed_record.specs.Viewing.{view_of}
use Rattle.mseed_record.specs.declared.view.RecordView.{RecordView}
use Rattle.mseed_repack.specs.Stretches.{added_by, last_of, samples_of}

pub samples_append : (vs ws : List View) → samples_of (vs ++ ws) ≡ samples_of vs + samples_of ws
samples_append [] ws = omega arith
samples_append (v ∷ vs) ws = let rest = samples_append vs ws in omega (arith, rest)

pub added_append : (vs ws : List View) → added_by (vs ++ ws) ≡ added_by vs +ℤ added_by ws
added_append [] ws = omega (arith, ints)
added_append (v ∷ vs) ws = let rest = added_append vs ws in omega (arith, ints, rest)

pub last_snoc : (v : View) (vs : List View) (w : View) → last_of v (vs ++ w ∷ []) ≡ w
last_snoc v [] w = refl
last_snoc v (u ∷ us) w = last_snoc u us w

-- records of a list before an index and from it on, and those before it with the one there
pub parted : (rs : List RecordView) (n : ℕ) → map view_of rs ≡ map view_of (take n rs) ++ map view_of (drop n rs)
parted rs n = ap (λ (qs : List RecordView). map view_of qs) (sym (take-append-drop n rs))
    ∙ map-append view_of (take n rs) (drop n rs)

pub passed_with : (rs : List RecordView) (n : ℕ) (r : RecordView) → n < length rs → r ≡ get_or rs n r
    → map view_of (take (n + 1) rs) ≡ map view_of (take n rs) ++ view_of r ∷ []
passed_with rs n r lt is = rw (map_more view_of rs n r lt, ← is) refl
