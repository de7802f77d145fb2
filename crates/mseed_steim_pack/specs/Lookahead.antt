-- What is known ahead of the differences that come next in a series.
use Rattle.std.specs.Prelude.{◌≡◌, ℕ, ℤ, ◌+◌, ◌<◌, ◌≤◌, ◌==◌, if◌then◌else◌, List, length, take, drop, pos}
use Rattle.std.specs.Prelude.{slice_index_or}
use Rattle.mseed_steim.specs.declared.scheme.Scheme.{Scheme}
use Rattle.mseed_steim.specs.declared.scheme.Scheme.TheVariants.{One, Two}
use Rattle.mseed_steim.specs.Spelling.{IsWithin}
use Rattle.mseed_steim_pack.specs.declared.ahead.Lookahead.{Lookahead}
use Rattle.mseed_steim_pack.specs.Packing.{CanSpell}

-- how many differences a word takes where each of `most` is narrow enough: Steim-1 has no word of three
abbrev pub taken : Scheme → ℕ → ℕ
taken One most = if most == 3 then 2 else most
taken Two most = most

-- Where two or more are known to be held, eight differences or more come next, and the word that takes the largest
-- number of them takes `most`.
abbrev pub IsAhead : Scheme → List ℤ → ℕ → Type 0
IsAhead scheme ds most =
    2 ≤ most → (most ≤ 7) × (8 ≤ length ds) × CanSpell scheme (take (taken scheme most) ds)
    × ((k : ℕ) → taken scheme most < k → k ≤ length ds → ¬ (CanSpell scheme (take k ds)))

-- the first n are those of the differences, where these have 16 bits at the most
abbrev pub AreSame : ℕ → List ℤ → List ℤ → Type 0
AreSame n ds cut = (i : ℕ) → i < n → IsWithin 16 (slice_index_or ds i (pos 0))
    → slice_index_or cut i (pos 0) ≡ slice_index_or ds i (pos 0)

-- there are eight, as far as they have 16 bits at the most
abbrev pub AreCut : List ℤ → List ℤ → Type 0
AreCut ds cut = (8 ≤ length cut) × AreSame 8 ds cut

-- so there are where, in Steim-2, two or more are held
abbrev pub IsCut : Scheme → ℕ → List ℤ → List ℤ → Type 0
IsCut scheme most ds cut = scheme ≡ Two → 2 ≤ most → AreCut ds cut

-- What is kept is so of the differences that come next, from its place on. Of its last places nothing is known.
pub record IsLookahead (scheme : Scheme) (known : Lookahead) (ds : List ℤ) : Type 0 where
  pub place : known.place ≤ 128
  pub ahead : (i : ℕ) → i + known.place < 144
      → IsAhead scheme (drop i ds) (slice_index_or known.most (i + known.place) 0)
  pub none : (i : ℕ) → 121 ≤ i → i < 144 → slice_index_or known.most i 0 ≡ 0
  pub cut : (i : ℕ) → i + known.place < 144 → IsCut scheme (slice_index_or known.most (i + known.place) 0) (drop i ds)
      (drop (i + known.place) known.cut)
