-- What a look at files says of them.
use Rattle.std.specs.Prelude.{⊤, ◌≡◌, ℕ, List, Option, Some, None, slice_get}
use Rattle.std.specs.Borrow.{Bor}
use Rattle.mseed_files.specs.Found.{Found, unknown, unreadable, readable}
use Rattle.mseed_files.specs.declared.reason.Reason.{Reason}

-- what there is by the word of this number
abbrev pub found_by : (List ℕ → Found) → Option (Bor (List ℕ)) → Found
found_by found None = unknown
found_by found (Some word) = found word.now

abbrev pub found_at : (List ℕ → Found) → List (Bor (List ℕ)) → ℕ → Found
found_at found words file = found_by found (slice_get words file)

-- it isn't known to be unreadable
abbrev pub MayBeRead : Found → Type 0
MayBeRead unknown = ⊤
MayBeRead (unreadable reason) = ⊥
MayBeRead (readable bytes) = ⊤

-- it isn't known to be readable, nor to be unreadable for another reason
abbrev pub MayBeUnreadable : Found → Reason → Type 0
MayBeUnreadable unknown reason = ⊤
MayBeUnreadable (unreadable why) reason = reason ≡ why
MayBeUnreadable (readable bytes) reason = ⊥
