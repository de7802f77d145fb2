-- What a room holds after a call.
use Rattle.std.specs.Prelude.{ℕ, List, ◌++◌, length, take, drop}

-- the bytes, as many of them as there is room for, over what lay in the room
abbrev pub overwritten : List ℕ → List ℕ → List ℕ
overwritten bytes room = take (length room) bytes ++ drop (length bytes) room
