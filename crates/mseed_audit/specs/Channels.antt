-- The records of an archive, and those of a channel among them.
use Rattle.std.specs.Prelude.{ℕ, ◌+◌, ◌&&◌, nat_lt, Bool, if◌then◌else◌, List, [], ◌∷◌, ◌++◌, map, length}
use Rattle.std.specs.List.{filter}
use Rattle.std.specs.Ordering.{nat_cmp, is_eq}
use Rattle.std.specs.Cmp.Lexicographic.{slice_cmp}
use Rattle.mseed_record.specs.Header.{key_at}
use Rattle.mseed_record.specs.View.{View}
use Rattle.mseed_steim.specs.Reading.{count_of}

-- a record that was added, and where it begins
pub record Added : Type 0 where
  pub view : View
  pub offset : ℕ

-- with its number among all that were added
pub record Placed : Type 0 where
  pub view : View
  pub offset : ℕ
  pub number : ℕ

abbrev pub numbered : ℕ → List Added → List Placed
numbered n [] = []
numbered n (a ∷ rest) = record { view = a.view; offset = a.offset; number = n } ∷ numbered (n + 1) rest

-- the keys have the same bytes
abbrev pub same_key : List ℕ → List ℕ → Bool
same_key key other = is_eq (slice_cmp nat_cmp key other)

-- a record with samples, of the channel with this key; one without samples is silent
abbrev pub is_of_channel : List ℕ → View → Bool
is_of_channel key v = nat_lt 0 (count_of v) && same_key key (key_at v.bytes)

-- the records of a channel among others
abbrev pub channel_in : List ℕ → List Placed → List Placed
channel_in key ps = filter (λ p. is_of_channel key p.view) ps

-- the records of a channel, in their order; numbers count from 1, and count silent records too
abbrev pub records_of : List ℕ → List Added → List Placed
records_of key added = channel_in key (numbered 1 added)

-- and with one more record of the archive, which may be of another channel
abbrev pub with_record : List ℕ → List Placed → Placed → List Placed
with_record key ps p = if is_of_channel key p.view then ps ++ p ∷ [] else ps

abbrev pub views_in : List Placed → List View
views_in ps = map (λ p. p.view) ps

-- how many samples they have
abbrev pub sample_count : List Placed → ℕ
sample_count [] = 0
sample_count (p ∷ ps) = count_of p.view + sample_count ps

-- records that stand one after another from an offset on
abbrev pub added_from : ℕ → List View → List Added
added_from offset [] = []
added_from offset (v ∷ vs) = record { view = v; offset = offset } ∷ added_from (offset + length v.bytes) vs
