-- What is counted of records, by what is asked for.
use Rattle.std.specs.Prelude.{ℕ, Bool, if◌then◌else◌, List, length}
use Rattle.std.specs.List.{count_by}
use Rattle.mseed_record.specs.View.{View}
use Rattle.mseed_select.specs.declared.counts.Counts.{Counts}
use Rattle.mseed_record.specs.Selection.{Selection, asks_for, lacks_time}

-- 1 where a test holds
abbrev pub one_if : Bool → ℕ
one_if b = if b then 1 else 0

-- what is counted of some records
abbrev pub counts_of : Selection → List View → Counts
counts_of s views = record {
  records = length views;
  asked_for = count_by (asks_for s) views;
  without_time = count_by (lacks_time s) views;
}
