-- Records that stand one after another, and those of a channel among them.
use Rattle.std.proofs.Common.{◌≡◌, ℕ, ◌+◌, ◌^◌, ◌≤◌, ◌<◌, List, [], ◌∷◌, ◌++◌, length, map, take, drop, get_or}
use Rattle.std.proofs.Common.{if◌then◌else◌, Bool, true, Option, refl, sym, ap, ◌∙◌}
use Rattle.std.proofs.Common.{◌*◌, length-take-le, arith}
use Rattle.std.specs.List.{filter, AllByRecursion}
use Rattle.std.proofs.lemmas.List.{drop_more, length-map, map-append, map_more, take-append-drop}
use Rattle.std.proofs.Math.Nat.{pow-le-pow_right}
use Rattle.std.proofs.lemmas.List.Elements.{filter-append}
use Rattle.mseed_record.specs.View.{View, IsView}
use Rattle.mseed_record.specs.Viewing.{view_of}
use Rattle.mseed_record.specs.declared.view.RecordView.{RecordView}
use Rattle.mseed_audit.specs.declared.channel.Channel.{Channel}
use Rattle.mseed_audit.specs.Channels.{Added, Placed, added_from, numbered, is_of_channel, records_of, with_record}
use Rattle.mseed_audit.specs.Channels.{channel_in, views_in}
use Rattle.mseed_audit.specs.Follows.{IsSound}
use Rattle.mseed_audit.specs.Audit.{StandsAt}
use Rattle.mseed_audit.proofs.More.{filter_by, filter_more, numbered_more}
use Rattle.mseed_audit.proofs.Views.{added_length}

-- where the last of them ends
abbrev pub end_of : ℕ → List View → ℕ
end_of offset [] = offset
end_of offset (v ∷ vs) = end_of (offset + length v.bytes) vs

-- a record has at most 2 ^ 20 bytes
pub few_bytes : (v : View) → IsView v → length v.bytes ≤ 2 ^ 20
few_bytes v is =
    let by = is.1.1.1.record_is in
    rw by.size (pow-le-pow_right {n = 2} (omega arith) by.exponent_high)

end_more : (offset : ℕ) (vs : List View) (v : View) → end_of offset (vs ++ v ∷ []) ≡ end_of offset vs + length v.bytes
end_more offset [] v = refl
end_more offset (w ∷ vs) v = end_more (offset + length w.bytes) vs v

-- a record after all others
pub added_after : (offset : ℕ) (vs : List View) (v : View)
    → added_from offset (vs ++ v ∷ []) ≡ added_from offset vs ++ record { view = v; offset = end_of offset vs } ∷ []
added_after offset [] v = refl
added_after offset (w ∷ vs) v =
    let here : Added = record { view = w; offset = offset } in
    ap (λ (xs : List Added). here ∷ xs) (added_after (offset + length w.bytes) vs v)

-- the channel's records with one more record after all
records_after : (key : List ℕ) (vs : List View) (v : View) → records_of key (added_from 0 (vs ++ v ∷ []))
    ≡ with_record key (records_of key (added_from 0 vs))
    (record { view = v; offset = end_of 0 vs; number = length vs + 1 })
records_after key vs v =
    let number : 1 + length (added_from 0 vs) ≡ length vs + 1 = omega (arith, added_length 0 vs) in
    rw (added_after 0 vs v, numbered_more 1 (added_from 0 vs), number)
    (filter_more key (numbered 1 (added_from 0 vs)) _)

-- the records that a loop has passed, with one more
passed : (rs : List RecordView) (n : ℕ) (r : RecordView) → n < length rs → r ≡ get_or rs n r
    → map view_of (take (n + 1) rs) ≡ map view_of (take n rs) ++ view_of r ∷ []
passed rs n r h is = rw (map_more view_of rs n r h, ← is) refl

pub end_next : (rs : List RecordView) (n : ℕ) (r : RecordView) (offset : ℕ) → n < length rs → r ≡ get_or rs n r
    → offset ≡ end_of 0 (map view_of (take n rs))
    → offset + length r.bytes.now ≡ end_of 0 (map view_of (take (n + 1) rs))
end_next rs n r offset h is at =
    rw (passed rs n r h is, end_more 0 (map view_of (take n rs)) (view_of r), at) refl

-- the offset after the next record, where each so far had at most 2 ^ 20 bytes
pub offset_next : (rs : List RecordView) (n : ℕ) (r : RecordView) (offset : ℕ) (bytes : List ℕ) → n < length rs
    → r ≡ get_or rs n r → offset ≡ end_of 0 (map view_of (take n rs)) → offset ≤ 2 ^ 20 * n → IsView (view_of r)
    → bytes ≡ r.bytes.now
    → (offset + length bytes ≡ end_of 0 (map view_of (take (n + 1) rs))) × (offset + length bytes ≤ 2 ^ 20 * (n + 1))
offset_next rs n r offset bytes below is at far view same =
    rw same (end_next rs n r offset below is at, omega (arith, few_bytes (view_of r) view, far))

-- what is kept of the channel takes the next record in
pub stands_next : (key : List ℕ) (rs : List RecordView) (n : ℕ) (r : RecordView) (offset : ℕ)
    (old new : Option Channel) → n < length rs → r ≡ get_or rs n r
    → offset ≡ end_of 0 (map view_of (take n rs))
    → StandsAt old (records_of key (added_from 0 (map view_of (take n rs))))
    → ((ps : List Placed) → StandsAt old ps
    → StandsAt new (with_record key ps (record { view = view_of r; offset = offset; number = n + 1 })))
    → StandsAt new (records_of key (added_from 0 (map view_of (take (n + 1) rs))))
stands_next key rs n r offset old new h is at before step =
    let vs : List View = map view_of (take n rs) in
    let many : length vs ≡ n = length-map (take n rs) view_of ∙ length-take-le n rs (omega (arith, h)) in
    rw (passed rs n r h is, records_after key vs (view_of r), many, ← at)
    (step (records_of key (added_from 0 vs)) before)

-- of those that a loop has passed, the channel's, with one more
pub kept_next : (key : List ℕ) (rs : List RecordView) (n : ℕ) (r : RecordView) (b : Bool) → n < length rs
    → r ≡ get_or rs n r → b ≡ is_of_channel key (view_of r)
    → filter (is_of_channel key) (map view_of (take (n + 1) rs))
    ≡ (if b then filter (is_of_channel key) (map view_of (take n rs)) ++ view_of r ∷ [] else filter (is_of_channel key)
    (map view_of (take n rs)))
kept_next key rs n r b h is of =
    let vs : List View = map view_of (take n rs) in
    rw (passed rs n r h is, filter-append (is_of_channel key) vs (view_of r ∷ []), ← of)
    (filter_by b (filter (is_of_channel key) vs) (view_of r))

-- the channel's records are those before one of them, that one, and those after it
pub kept_around : (key : List ℕ) (rs : List RecordView) (n : ℕ) (r : RecordView) → n < length rs → r ≡ get_or rs n r
    → true ≡ is_of_channel key (view_of r) → filter (is_of_channel key) (map view_of rs)
    ≡ filter (is_of_channel key) (map view_of (take n rs)) ++ view_of r
    ∷ filter (is_of_channel key) (map view_of (drop (n + 1) rs))
kept_around key rs n r h is of =
    let parts : take n rs ++ r ∷ drop (n + 1) rs ≡ rs = rw (is, ← drop_more rs n r h) (take-append-drop n rs) in
    sym (ap (λ (qs : List RecordView). filter (is_of_channel key) (map view_of qs)) parts)
    ∙ rw (map-append, filter-append, ← of) refl

-- a record among sound ones is sound
middle_sound : (vs : List View) (v : View) (ws : List View) → AllByRecursion IsSound (vs ++ v ∷ ws) → IsSound v
middle_sound [] v ws all = all.0
middle_sound (u ∷ vs) v ws all = middle_sound vs v ws all.1

-- each record of the channel is sound
pub sound_at : (key : List ℕ) (rs : List RecordView) (n : ℕ) (r : RecordView) → n < length rs → r ≡ get_or rs n r
    → true ≡ is_of_channel key (view_of r)
    → AllByRecursion IsSound (filter (is_of_channel key) (map view_of rs)) → IsSound (view_of r)
sound_at key rs n r h is of all =
    middle_sound (filter (is_of_channel key) (map view_of (take n rs))) (view_of r) _
    (rw (kept_around key rs n r h is of) at all)

-- the records of a channel are those that pass its test
views_from : (key : List ℕ) (n offset : ℕ) (vs : List View)
    → views_in (channel_in key (numbered n (added_from offset vs))) ≡ filter (is_of_channel key) vs
views_from key n offset [] = refl
views_from key n offset (v ∷ vs) = grind (arith, views_from key (n + 1) (offset + length v.bytes) vs)

pub views_are : (key : List ℕ) (vs : List View) → views_in (records_of key (added_from 0 vs)) ≡ filter
    (is_of_channel key) vs
views_are key vs = views_from key 1 0 vs
