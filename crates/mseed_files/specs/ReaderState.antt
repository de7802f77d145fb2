-- How far reading of several files has come, and where in them a byte lies.
use Rattle.std.specs.Prelude.{◌≡◌, Bool, true, false, ℕ, ◌+◌, ◌-◌, ◌<◌, ◌≤◌, List, [], length, take, drop}
use Rattle.std.specs.Prelude.{slice_index, if◌then◌else◌, Option, Some, None, Result, IfErr, OnOk}
use Rattle.mseed_files.specs.Files.{Contents, all_of, joined}
use Rattle.mseed_files.specs.declared.place.Place.{Place}

-- what a clause sees of a reader of several files
pub record ReaderState : Type 0 where
  -- the bytes of each file, where they are known
  pub contents : Contents
  -- where each file that was opened begins
  pub begins : List ℕ
  -- whether the last one of them is open yet
  pub is_open : Bool
  -- what is left of it, where that is known
  pub left : Option (List ℕ)
  -- how many bytes were read
  pub bytes : ℕ
  -- the file that failed last
  pub failed : Option ℕ
  -- how many openings and reads the system has failed so far
  pub failures : ℕ

-- none of the files was opened yet
abbrev pub unread : Contents → ℕ → ReaderState
unread contents failures = record {
  contents = contents;
  begins = [];
  is_open = false;
  left = Some [];
  bytes = 0;
  failed = None;
  failures = failures;
}

-- what is left of the file that is open, where one is
abbrev pub left_in : {F : Type 0} → (F → Option (List ℕ)) → Option F → Option (List ℕ)
left_in remaining None = Some []
left_in remaining (Some file) = remaining file

-- what is left to be read: what is left of the file that is open, and the files after it
abbrev pub remaining_of : ReaderState → Option (List ℕ)
remaining_of s = joined s.left (all_of (drop (length s.begins) s.contents))

-- the bytes of the first `count` files, where they are known
abbrev pub before : Contents → ℕ → Option (List ℕ)
before contents count = all_of (take count contents)

-- the file that is read, or opened, next
abbrev pub file_due : ReaderState → ℕ
file_due s = if s.is_open then length s.begins - 1 else length s.begins

-- Each file that was opened begins after those before it, and what was read and what is left of the last one are
-- all that was opened.
pub record IsAlong (contents : Contents) (begins : List ℕ) (is_open : Bool) (left : Option (List ℕ)) (bytes : ℕ)
    : Type 0 where
  pub few : length begins ≤ length contents
  pub some : is_open ≡ true → 0 < length begins
  pub closed : is_open ≡ false → left ≡ Some []
  pub begun : (i : ℕ) (xs : List ℕ) → i < length begins → before contents i ≡ Some xs
      → slice_index begins i ≡ length xs
  pub read : (xs : List ℕ) → before contents (length begins) ≡ Some xs
      → (rest : List ℕ) × ((left ≡ Some rest) × (bytes + length rest ≡ length xs))

-- The place is in a file that was opened, the offset is after the files before it, and no file that was opened
-- later begins there or before.
pub record IsPlace (s : ReaderState) (offset : ℕ) (place : Place) : Type 0 where
  pub opened : place.file < length s.begins
  pub offset_is : (xs : List ℕ) → before s.contents place.file ≡ Some xs → length xs + place.offset ≡ offset
  pub before_next : (next : ℕ) (xs : List ℕ) → place.file < next → next < length s.begins
      → before s.contents next ≡ Some xs → offset < length xs

-- no file is left
pub record HasEnded (s : ReaderState) : Type 0 where
  pub all_opened : length s.begins ≡ length s.contents
  pub closed : s.is_open ≡ false
  pub nothing : s.left ≡ Some []

-- What one call keeps: the files, and which of them failed last unless one fails.
pub record GoesOn {T E : Type 0} (result : Result T E) (old new : ReaderState) : Type 0 where
  pub contents : new.contents ≡ old.contents
  pub fine : OnOk result (new.failed ≡ old.failed)
  pub failed : IfErr result (λ e. new.failed ≡ Some (file_due new))
