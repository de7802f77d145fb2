-- The records that a loop has passed before the first of a channel that has a finding of its own.
use Rattle.std.proofs.Common.{◌≡◌, ℕ, ◌+◌, ◌<◌, List, [], ◌∷◌, ◌++◌, length, map, take, drop, get_or, Bool, true}
use Rattle.std.proofs.Common.{false, cond, min, refl, sym, ap, subst, ◌∙◌}
use Rattle.std.proofs.Common.{arith, length-take-le, None, Some}
use Rattle.std.specs.List.{AllByRecursion}
use Rattle.std.proofs.ByRecursion.{All-push}
use Rattle.std.proofs.lemmas.List.{drop_more, length-map, take_min, append_cancel_right}
use Rattle.std.proofs.lemmas.List.Elements.{filter-append}
use Rattle.mseed_record.specs.View.{View}
use Rattle.mseed_record.specs.Viewing.{view_of}
use Rattle.mseed_record.specs.declared.view.RecordView.{RecordView}
use Rattle.mseed_audit.specs.Channels.{is_of_channel}
use Rattle.mseed_audit.specs.Follows.{IsSound}
use Rattle.mseed_audit.specs.Judging.{IsFound}
use Rattle.mseed_audit.specs.Scope.{placed_of}
use Rattle.mseed_audit.specs.declared.finding.Finding.{Finding}
use Rattle.mseed_audit.proofs.Following.{end_of, kept_next}
use Rattle.mseed_repack.specs.private.Places.{IsOwnAt, StandsAt}
use Rattle.mseed_repack.specs.private.Reading.{channel_in}
use Rattle.mseed_repack.proofs.Runs.{parted}
use Rattle.mseed_repack.proofs.InPlaces.{stands_among}

-- records about one of them
parts_at : (rs : List RecordView) (n : ℕ) (r : RecordView) → n < length rs → r ≡ get_or rs n r
    → map view_of rs ≡ map view_of (take n rs) ++ view_of r ∷ map view_of (drop (n + 1) rs)
parts_at rs n r lt is = parted rs n ∙ grind (arith, drop_more)

before_at : (rs : List RecordView) (n : ℕ) → n < length rs → length (map view_of (take n rs)) ≡ n
before_at rs n lt = length-map (take n rs) view_of ∙ length-take-le n rs (omega (arith, lt))

-- it is the first
pub own_at : (key : List ℕ) (rs : List RecordView) (n : ℕ) (r : RecordView) (f : Finding) → n < length rs
    → r ≡ get_or rs n r → is_of_channel key (view_of r) ≡ true
    → AllByRecursion IsSound (channel_in key (map view_of (take n rs))) → IsFound None (view_of r) (Some f.why)
    → IsOwnAt key (map view_of rs) n f
own_at key rs n r f lt is of sound found = search (parts_at rs n r lt is, before_at rs n lt, of, sound, found)

pub stands_in : (rs : List RecordView) (n : ℕ) (r : RecordView) (f : Finding) → n < length rs → r ≡ get_or rs n r
    → f.number ≡ n + 1 → f.offset ≡ end_of 0 (map view_of (take n rs)) → StandsAt (placed_of (map view_of rs)) n f
stands_in rs n r f lt is number offset =
    subst (λ (vs : List View). StandsAt (placed_of vs) n f) (sym (parts_at rs n r lt is))
    (stands_among _ _ _ _ _ (before_at rs n lt) number offset)

-- one more that is sound, or of another channel
pub sound_next : (key : List ℕ) (rs : List RecordView) (n : ℕ) (r : RecordView) (b : Bool) → n < length rs
    → r ≡ get_or rs n r → b ≡ is_of_channel key (view_of r)
    → AllByRecursion IsSound (channel_in key (map view_of (take n rs))) → (b ≡ true → IsSound (view_of r))
    → AllByRecursion IsSound (channel_in key (map view_of (take (n + 1) rs)))
sound_next key rs n r b lt is of before here = rw (sym (kept_next key rs n r b lt is of)) at (by b here)
  where
    kept : List View
    kept = channel_in key (map view_of (take n rs))

    by : (c : Bool) → (c ≡ true → IsSound (view_of r))
        → AllByRecursion IsSound (cond c (kept ++ view_of r ∷ []) kept)
    by true sound = All-push IsSound kept (view_of r) before (sound refl)
    by false sound = before

-- no record of a channel stands before the one at which its records begin
none_in : (key : List ℕ) (rs : List RecordView) (n : ℕ)
    → channel_in key (map view_of (drop n rs)) ≡ channel_in key (map view_of rs)
    → channel_in key (map view_of (take n rs)) ≡ []
none_in key rs n e = append_cancel_right _ [] _ (sym (ap (λ (vs : List View). channel_in key vs) (parted rs n)
    ∙ filter-append (is_of_channel key) (map view_of (take n rs)) (map view_of (drop n rs))) ∙ sym e)

pub none_before : (key : List ℕ) (rs : List RecordView) (index n : ℕ) → n ≡ min index (length rs)
    → channel_in key (map view_of (drop index rs)) ≡ channel_in key (map view_of rs)
    → channel_in key (map view_of (take n rs)) ≡ []
none_before key rs index n h h2 = grind (arith, take_min, none_in)
