-- An offset has one place in files whose bytes are known.
use Rattle.std.proofs.Common.{◌≡◌, ℕ, zero, suc, ◌<◌, ◌≤◌, ◌++◌, List, [], ◌∷◌, length, Option, Some, None, refl}
use Rattle.std.proofs.Common.{ap, ◌∙◌, subst, arith}
use Rattle.mseed_files.specs.Files.{Contents, joined}
use Rattle.mseed_files.specs.ReaderState.{IsPlace, ReaderState, before}
use Rattle.mseed_files.specs.declared.place.Place.{Place}
use Rattle.mseed_files.proofs.Opening.{rest_known}

prefix_known : (files : Contents) (n m : ℕ) (all : List ℕ) → m ≤ n → before files n ≡ Some all
    → (xs : List ℕ) × (before files m ≡ Some xs)
prefix_known files n zero all less known = ([], refl)
prefix_known [] n (suc m) all less known = ([], refl)
prefix_known (file ∷ files) zero (suc m) all less known = absurd (omega (arith, less))
prefix_known (None ∷ files) (suc n) (suc m) all less known = absurd (cc known)
prefix_known (Some a ∷ files) (suc n) (suc m) all less known =
    let b = rest_known a (before files n) all known in
    let xs = prefix_known files n m b.0 (omega (arith, less)) b.1.0 in
    (a ++ xs.0, ap (λ (o : Option (List ℕ)). joined (Some a) o) xs.1)

not_later : (s : ReaderState) (offset : ℕ) (all : List ℕ) (one other : Place)
    → before s.contents (length s.begins) ≡ Some all → IsPlace s offset one → IsPlace s offset other
    → one.file < other.file → ⊥
not_later s offset all one other known is is_other less =
    let xs = prefix_known s.contents (length s.begins) other.file all (omega (arith, is_other.opened)) known in
    omega (
      arith,
      is.before_next other.file xs.0 less is_other.opened xs.1,
      is_other.offset_is xs.0 xs.1,
    )

same_place : (one other : Place) → one.file ≡ other.file → one.offset ≡ other.offset → one ≡ other
same_place one other file offset =
    ap (λ (n : ℕ). let p : Place = record { file = n; offset = one.offset } in p) file
    ∙ ap (λ (n : ℕ). let p : Place = record { file = other.file; offset = n } in p) offset

pub one_place : (s : ReaderState) (offset : ℕ) (all : List ℕ) (one other : Place)
    → before s.contents (length s.begins) ≡ Some all → IsPlace s offset one → IsPlace s offset other → one ≡ other
one_place s offset all one other known is is_other =
    let less : one.file < other.file → ⊥ = not_later s offset all one other known is is_other in
    let more : other.file < one.file → ⊥ = not_later s offset all other one known is_other is in
    let file : one.file ≡ other.file = omega (arith, less, more) in
    let xs = prefix_known s.contents (length s.begins) one.file all (omega (arith, is.opened)) known in
    let same : before s.contents other.file ≡ Some xs.0 =
    subst (λ (n : ℕ). before s.contents n ≡ Some xs.0) file xs.1 in
    same_place one other file (omega (arith, is.offset_is xs.0 xs.1, is_other.offset_is xs.0 same))
