-- Channels in a list, each with its key, and where each of them stands.
use Rattle.std.specs.Prelude.{⊤, ◌≡◌, ◌<◌, ℕ, zero, suc, Bool, cond, List, [], ◌∷◌, ◌++◌, length, Option, Some, None}
use Rattle.std.specs.Prelude.{Result, Ok, Err}
use Rattle.std.specs.List.{All}
use Rattle.std.specs.BTreeMap.{insert_entry}
use Rattle.std.specs.Map.{keys_of, lookup, values_of}
use Rattle.std.specs.Option.{option_map}
use Rattle.std.specs.Ordering.{nat_cmp}
use Rattle.std.specs.Cmp.Lexicographic.{slice_cmp}
use Rattle.std.specs.List.Sorted.{IsStrictlySortedBy}
use Rattle.mseed_audit.specs.declared.channel.Channel.{Channel}
use Rattle.mseed_audit.specs.Channels.{same_key}

-- where the first channel stands whose key passes
abbrev pub place_of : (List ℕ → Bool) → List (List ℕ × Channel) → Option ℕ
place_of test [] = None
place_of test (e ∷ es) = cond (test e.0) (Some 0) (option_map suc (place_of test es))

-- with something else kept of the channel at a place
abbrev pub with_channel : List (List ℕ × Channel) → ℕ → Channel → List (List ℕ × Channel)
with_channel [] i c = []
with_channel (e ∷ es) zero c = (e.0, c) ∷ es
with_channel (e ∷ es) (suc i) c = e ∷ with_channel es i c

-- the channels, ascending by the bytes of their keys
abbrev pub by_key : List (List ℕ × Channel) → List (List ℕ × Channel)
by_key [] = []
by_key (e ∷ es) = insert_entry (slice_cmp nat_cmp) (by_key es) e.0 e.1

-- where each channel stands, by its key
pub record ArePlaces (places : List (List ℕ × ℕ)) (channels : List (List ℕ × Channel)) : Type 0 where
  pub each : (key : List ℕ) → lookup (same_key key) places ≡ place_of (same_key key) channels
  pub within : All (λ i. i < length channels) (values_of places)

-- no two of the channels have the same key
abbrev pub AreApart : List (List ℕ × Channel) → Type 0
AreApart [] = ⊤
AreApart (e ∷ es) = (place_of (same_key e.0) es ≡ None) × AreApart es

-- where each channel stands, ascending by their keys, of which no two are the same
pub record ArePlaced (ps : List (List ℕ × ℕ)) (channels : List (List ℕ × Channel)) : Type 0 where
  pub places : ArePlaces ps channels
  pub apart : AreApart channels
  pub ascending : IsStrictlySortedBy (slice_cmp nat_cmp) (keys_of ps)
  pub many : length ps ≡ length channels

-- a channel with this key is on the list, at this index, and the list stays as it was
pub record IsFoundAt (key : List ℕ) (i : ℕ) (old new : List (List ℕ × Channel)) : Type 0 where
  pub place : place_of (same_key key) old ≡ Some i
  pub within : i < length old
  pub stays : new ≡ old

-- By the answer: its index, or none where it wasn't on the list and was added. Without memory the list stays as it was.
abbrev pub IsFoundOrAdded : {E : Type 0} → Result (Option ℕ) E → List ℕ → Channel → List (List ℕ × Channel)
    → List (List ℕ × Channel) → Type 0
IsFoundOrAdded (Ok (Some i)) key c old new = IsFoundAt key i old new
IsFoundOrAdded (Ok None) key c old new = (place_of (same_key key) old ≡ None) × (new ≡ old ++ (key, c) ∷ [])
IsFoundOrAdded (Err e) key c old new = (place_of (same_key key) old ≡ None) × (new ≡ old)
