-- What a ring shows of its feed: the list of all records that were ever pushed, of which the one at index i has the
-- number first + i. Packets and commands have numbers modulo 2^24.
use Rattle.std.specs.Prelude.{◌≡◌, ℕ, ◌+◌, ◌-◌, ◌^◌, ◌%◌, ◌≤◌, List, [], ◌∷◌, ◌++◌, length, drop, Option, Some, None}
use Rattle.std.specs.Prelude.{slice_get, nat_lt, nat_le, if◌then◌else◌}
use Rattle.slink_wire.specs.Place.{Fields}

-- the station, the most records that are kept, those that are, and the number of the record that comes next
pub record Window : Type 0 where
  pub place : Fields
  pub capacity : ℕ
  pub records : List (List ℕ)
  pub next : ℕ

-- the last records of a list, as many as a ring of this capacity keeps
abbrev pub window : ℕ → List (List ℕ) → List (List ℕ)
window capacity pushed = drop (length pushed - capacity) pushed

-- The ring shows the last of these pushed records, the first of which had this number.
pub record Shows (w : Window) (first : ℕ) (pushed : List (List ℕ)) : Type 0 where
  pub records : w.records ≡ window w.capacity pushed
  pub next : w.next ≡ first + length pushed

-- the number of the oldest record, or the next one's where there is none
abbrev pub oldest_of : Window → ℕ
oldest_of w = w.next - length w.records

-- the record of this number, where the window has it
abbrev pub record_at : Window → ℕ → Option (List ℕ)
record_at w number = if nat_lt number (oldest_of w) then None else slice_get w.records (number - oldest_of w)

-- the window once a record was pushed
abbrev pub with_record : Window → List ℕ → Window
with_record w bytes = record w { records = window w.capacity (w.records ++ bytes ∷ []); next = w.next + 1 }

-- The number is from the oldest to the next one, and is seq modulo 2^24.
abbrev pub Resolves : Window → ℕ → ℕ → Type 0
Resolves w seq number = (oldest_of w ≤ number) × (number ≤ w.next) × (number % 2 ^ 24 ≡ seq % 2 ^ 24)

-- how far the first number that is seq modulo 2^24 stands after the oldest
abbrev pub ahead_of_oldest : Window → ℕ → ℕ
ahead_of_oldest w seq = (seq % 2 ^ 24 + 2 ^ 24 - oldest_of w % 2 ^ 24) % 2 ^ 24

-- that number, unless it is past the next one
abbrev pub resolve_of : Window → ℕ → Option ℕ
resolve_of w seq =
    if nat_le (ahead_of_oldest w seq) (w.next - oldest_of w) then Some (oldest_of w + ahead_of_oldest w seq) else None
