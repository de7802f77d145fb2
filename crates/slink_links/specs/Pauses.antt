-- How long a fetch waits between its tries.
use Rattle.std.specs.Prelude.{ℕ, ◌+◌, Bool, true, false, List, [], ◌∷◌, unwrap_or, slice_get}

-- how long a pause is after `n` others, in tenths of a second: twice as long each time, up to five seconds
abbrev pub pause_after : ℕ → ℕ
pause_after n = unwrap_or (slice_get (1 ∷ 2 ∷ 4 ∷ 8 ∷ 16 ∷ 32 ∷ []) n) 50

-- Where a try brought a record, the pauses begin anew.
abbrev pub pauses_since : Bool → ℕ → ℕ
pauses_since true n = 0
pauses_since false n = n

-- the pauses after tries, of each of which it is known whether it brought a record; `n` pauses stand before
abbrev pub pauses_from : ℕ → List Bool → List ℕ
pauses_from n [] = []
pauses_from n (received ∷ tries) =
    pause_after (pauses_since received n) ∷ pauses_from (pauses_since received n + 1) tries
