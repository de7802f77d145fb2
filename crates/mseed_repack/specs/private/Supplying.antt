-- Differences that go from frames to frames.
use Rattle.std.specs.Prelude.{⊤, ◌≡◌, ℕ, ◌+◌, ◌-◌, ◌≤◌, List, [], ◌∷◌, ◌++◌, length, take, drop, ℤ}
use Rattle.std.specs.List.{AllByRecursion}
use Rattle.mseed_record.specs.View.{View}
use Rattle.mseed_steim.specs.Reading.{IsSteim, IsWhole, count_of}
use Rattle.mseed_steim.specs.Samples.{differences_from}
use Rattle.mseed_steim.specs.Spelling.{IsWithin}
use Rattle.mseed_steim.specs.declared.encoding.Encoding.{Encoding}
use Rattle.mseed_audit.specs.Follows.{IsSound}
use Rattle.mseed_audit.specs.Series.{AreJoined}
use Rattle.mseed_pack.specs.Options.{IsSteim as IsSteimEncoding}
use Rattle.mseed_pack.specs.Stretches.{differences}
use Rattle.mseed_pack.specs.declared.window.TheConstants.{MOST_DIFFERENCES}
use Rattle.mseed_repack.specs.private.Outline.{AreNear, last_after}
use Rattle.mseed_repack.specs.private.Reading.{samples_of}

-- the last of the samples that were unpacked; or, where none was yet, the first of those that come
abbrev pub IsLast : ℤ → List ℤ → List ℤ → Type 0
IsLast last [] [] = ⊤
IsLast last [] (y ∷ behind) = y ≡ last
IsLast last (x ∷ unpacked) behind = last_after x unpacked ≡ last

-- Of samples that are near one another some were unpacked; those behind them are the samples of sound records of Steim
-- frames, each with so many at most.
pub record AreCut (vs : List View) (most : ℕ) (last : ℤ) (samples unpacked behind : List ℤ) : Type 0 where
  pub sound : AllByRecursion IsSound vs
  pub steim : AllByRecursion IsSteim vs
  pub fits : AllByRecursion (λ v. count_of v ≤ most) vs
  pub parts : samples ≡ unpacked ++ behind
  pub joined : AreJoined vs behind
  pub near : AllByRecursion (IsWithin 30) (differences_from last behind)
  pub last_is : IsLast last unpacked behind

-- Of the samples so many differences were given. These records weren't unpacked yet; of those that were, a room holds
-- the differences that weren't given.
pub record IsSupplied (vs : List View) (last : ℤ) (room : List ℤ) (at end : ℕ) (samples : List ℤ) (given : ℕ) : Type 0
  where
    pub unpacked : List ℤ
    pub behind : List ℤ
    pub cut : AreCut vs (length room) last samples unpacked behind
    pub order : at ≤ end
    pub inside : end ≤ length room
    pub given_is : given + (end - at) ≡ length unpacked
    pub held : take (end - at) (drop at room) ≡ take (end - at) (drop given (differences samples))

-- a record is of Steim frames, and has no more differences than there is room for
abbrev pub IsUnpackable : View → Type 0
IsUnpackable v = IsSteim v × (count_of v ≤ MOST_DIFFERENCES)

-- the first and the last of some samples have 29 bits at the most, and each is near the one before it
abbrev pub AreBounded : List ℤ → Type 0
AreBounded [] = ⊤
AreBounded (x ∷ xs) = IsWithin 29 x × IsWithin 29 (last_after x xs) × AreNear (x ∷ xs)

-- A record can be unpacked, and its samples are so: those of any such records, one after another, are near one another.
pub record IsPlain (v : View) : Type 0 where
  pub unpackable : IsUnpackable v
  pub bounded : (s : List ℤ) → IsWhole v s → AreBounded s

-- records that are plain, and have so many samples, are written in either Steim
pub record AreCounted (encoding : Encoding) (count : ℕ) (vs : List View) : Type 0 where
  pub written : IsSteimEncoding encoding
  pub plain : AllByRecursion IsPlain vs
  pub count_is : count ≡ samples_of vs

-- records that go from frames to frames: each can be unpacked so, and their samples are near one another
pub record AreUnread (vs : List View) : Type 0 where
  pub unpackable : AllByRecursion IsUnpackable vs
  pub near : (xs : List ℤ) → AreJoined vs xs → AreNear xs
