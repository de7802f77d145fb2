-- Numbers that are told 128-fold, modulo 2^32, and differences that follow upon others.
use Rattle.std.proofs.Common.{◌≡◌, ℕ, ◌+◌, ◌%◌, List, [], ◌++◌, map, ℤ, pos}
use Rattle.std.proofs.Common.{◌+ℤ◌, refl, sym, ap, ◌∙◌, arith, Ok, append_assoc, length-append}
use Rattle.std.proofs.lemmas.Int.{ints}
use Rattle.std.proofs.lemmas.List.{map-append}
use Rattle.mseed_steim.specs.declared.scheme.Scheme.{Scheme}
use Rattle.mseed_steim.specs.Frames.{DataWord}
use Rattle.mseed_steim.specs.private.Items.{Items, items_of}
use Rattle.mseed_steim.specs.private.Moves.{MovesBy, Raises}
use Rattle.mseed_steim.proofs.FrameItems.{span-append, total-append}

pub raised_none : Raises 0 (pos 0)
raised_none = (0, (0, (omega (arith, ints), refl)))

pub raised_plus : (x y z : ℕ) (s t : ℤ) → Raises x s → Raises y t → z % 4294967296 ≡ (x + y) % 4294967296
    → Raises z (s +ℤ t)
raised_plus x y z s t a b e =
    (a.0 + b.0, (a.1.0 + b.1.0, (omega (arith, ints, a.1.1.0, b.1.1.0), omega (arith, a.1.1.1, b.1.1.1, e))))

-- words, and those after them
pub moves_none : (s : Scheme) → MovesBy s [] 0 (pos 0) 0
moves_none s = ([], (record { count_is = refl; by_is = refl; near = omega arith }, λ rest. refl))

pub moves_more : (s : Scheme) (before behind : List DataWord) (c d : ℕ) (by more : ℤ) (far near : ℕ)
    → MovesBy s before c by far → MovesBy s behind d more near
    → MovesBy s (before ++ behind) (c + d) (by +ℤ more) (far + near)
moves_more s before behind c d by more far near a b = (
  a.0 ++ b.0,
  (
    record {
      count_is = length-append a.0 b.0 ∙ omega (arith, a.1.0.count_is, b.1.0.count_is);
      by_is = total-append a.0 b.0 ∙ omega (arith, ints, a.1.0.by_is, b.1.0.by_is);
      near = let both = span-append a.0 b.0 in omega (arith, both, a.1.0.near, b.1.0.near);
    },
    λ rest.
        ap (items_of s) (append_assoc before behind rest) ∙ a.1.1 (behind ++ rest)
        ∙ ap (λ (items : Items). map Ok a.0 ++ items) (b.1.1 rest)
        ∙ sym (append_assoc (map Ok a.0) (map Ok b.0) (items_of s rest))
        ∙ ap (λ (items : Items). items ++ items_of s rest) (sym (map-append Ok a.0 b.0)),
  ),
)
