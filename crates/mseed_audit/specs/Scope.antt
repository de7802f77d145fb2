-- Which records of an archive an audit judges.
use Rattle.std.specs.Prelude.{◌≡◌, ℕ, List, length, None}
use Rattle.std.specs.List.{filter}
use Rattle.mseed_record.specs.View.{View}
use Rattle.mseed_record.specs.Selection.{Selection, asks_for}
use Rattle.mseed_audit.specs.Channels.{Placed, added_from, numbered}

-- the records of an archive, each with its number and offset
abbrev pub placed_of : List View → List Placed
placed_of views = numbered 1 (added_from 0 views)

-- those that are asked for: a number and an offset are those among all records
abbrev pub asked_of : Selection → List View → List Placed
asked_of s views = filter (λ p. asks_for s p.view) (placed_of views)

-- no window is given: what is asked for are channels
abbrev pub HasNoWindow : Selection → Type 0
HasNoWindow s = (s.from ≡ None) × (s.until ≡ None)

-- which of an archive's records are judged, and how many these are
pub record Scope : Type 0 where
  pub judged : List View → List Placed
  pub count : List View → ℕ

-- all of them
abbrev pub whole : Scope
whole = record { judged = placed_of; count = λ views. length views }

-- those that are asked for
abbrev pub asked : Selection → Scope
asked s = record { judged = asked_of s; count = λ views. length (asked_of s views) }
