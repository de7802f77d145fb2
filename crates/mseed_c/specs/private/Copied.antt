-- Records that were gone through, of which those that are asked for were written.
use Rattle.std.specs.Prelude.{◌≡◌, ◌+◌, ◌≤◌, ℕ, List, [], length}
use Rattle.mseed_record.specs.View.{View}
use Rattle.mseed_record.specs.Selection.{Selection, is_asked, is_without_time}
use Rattle.mseed_record.specs.declared.answer.Answer.{Answer}
use Rattle.mseed_record.specs.declared.answer.Answer.TheVariants.{AskedFor, Left, NoTime}
use Rattle.mseed_select.specs.Counting.{one_if}
use Rattle.mseed_c.specs.Asked.{AreSelected}
use Rattle.mseed_c.specs.declared.selecting.Selected.{Selected}

-- the bytes of a record that are written
abbrev pub added : Answer → List ℕ → List ℕ
added AskedFor bytes = bytes
added Left bytes = []
added NoTime bytes = []

-- how many they are
abbrev pub size_by : Answer → ℕ → ℕ
size_by AskedFor n = n
size_by Left n = 0
size_by NoTime n = 0

-- one record more of so many bytes
abbrev pub counted : Answer → ℕ → Selected → Selected
counted answer size r = record {
  records = r.records + 1;
  asked_for = r.asked_for + one_if (is_asked answer);
  without_time = r.without_time + one_if (is_without_time answer);
  length = r.length + size_by answer size;
  offset = r.offset + size;
  needed = r.needed;
}

-- no number is greater than the bytes that were gone through
pub record IsSmall (r : Selected) : Type 0 where
  pub records : r.records ≤ r.offset
  pub asked_for : r.asked_for ≤ r.records
  pub without_time : r.without_time ≤ r.records
  pub length_is : r.length ≤ r.offset

-- so far
pub record IsSoFar (s : Selection) (bytes first room : List ℕ) (r : Selected) : Type 0 where
  pub views : List View
  pub selected : AreSelected s bytes first room r views
  pub inside : r.offset ≤ length bytes
  pub small : IsSmall r
  pub needed : r.needed ≡ 0
