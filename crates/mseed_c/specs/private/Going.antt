-- What is so of rows that were written and of samples that were taken.
use Rattle.std.specs.Prelude.{◌≡◌, ◌≤◌, ◌<◌, ◌+◌, ℕ, ℤ, List, length, drop}
use Rattle.mseed_record.specs.View.{View}
use Rattle.mseed_steim.specs.Reading.{count_of}
use Rattle.mseed_c.specs.Decoded.{IsFirst}
use Rattle.mseed_c.specs.Rows.{Describes, IsWalk, filled_by}
use Rattle.mseed_c.specs.declared.row.Row.{Row}
use Rattle.mseed_c.specs.declared.going.Progress.{Progress}

-- A record's samples were taken after so many that were counted: then more are, by the code. What was so of a row
-- stays so, and it is so of the record's own row.
pub record TakesOn (Is : List ℕ → ℕ → List ℤ → Row → Type 0) (v : View) (filled more code : ℕ) (old new : List ℤ)
    : Type 0 where
  pub keeps : (bytes : List ℕ) (row : Row) → Is bytes filled old row → Is bytes more new row
  pub own : (bytes : List ℕ) (row : Row) → IsFirst (drop row.offset bytes) v → Describes row v → row.first ≡ filled
      → row.code ≡ code → Is bytes more new row
  pub counted : (row : Row) → row.samples ≡ count_of v → row.code ≡ code → more ≡ filled + filled_by row

-- there is room for fewer samples than the record has, after so many
pub record HasNoRoom (v : View) (room filled places : ℕ) : Type 0 where
  pub count : places ≡ count_of v
  pub fewer : room < filled + places

-- Rows were written on, from where one of these was reached to where the other is: what was so of those before is so
-- of all.
pub record GoesOn (Is : List ℕ → ℕ → List ℤ → Row → Type 0) (room : ℕ → ℕ) (bytes : List ℕ) (rows on : List Row)
    (old new : List ℤ) (p q : Progress) : Type 0 where
  pub walk : (offset : ℕ) (first : List Row) → IsWalk (λ filled. Is bytes filled old) bytes offset first rows p
      → IsWalk (λ filled. Is bytes filled new) bytes offset first on q
  pub inside : q.offset ≤ length bytes
  pub fits : q.filled ≤ room (length new)
  pub needed : q.needed ≡ p.needed
