use Rattle.std.proofs.Common.{◌≡◌, ◌<◌, ◌+◌, ◌-◌, ◌∷◌, ◌++◌, ◌∙◌, List, ℤ, map, Ok}
use Rattle.std.proofs.Common.{ap, refl, arith, rules, w32, FitsSigned}
use Rattle.std.proofs.lemmas.Int.{to_z-of_z}
use Rattle.mseed_steim.specs.Frames.{DataWord}
use Rattle.mseed_steim.specs.private.Digits.{digits}
use Rattle.mseed_steim.specs.private.Items.{items_of}
use Rattle.mseed_steim.specs.private.Reads.{as_data}
use Rattle.mseed_steim.proofs.Spelled.{digits_step}
use Rattle.mseed_steim.proofs.Walking.{items_group}
use Rattle.mseed_steim.proofs.keep.first_difference.Goals as goal

pub returns : goal.returns
returns c = λ ws.
    let s = c.args.scheme in
    let bits = c.args.word.bits in
    let width = c.in_ok-group.group.width in
    let count = c.in_ok-group.group.count in
    let some : 0 < count = omega arith in
    let all : count - 0 ≡ count = omega arith in
    let last : count - 1 - 0 ≡ count - 1 = omega arith in
    let step = rw (all, last) at (digits_step width bits count 0 some) in
    let word : DataWord = as_data c.args.word in
    let fits : FitsSigned w32 c.read_digit.result = search rules in (
      map Ok (digits width bits (count - (0 + 1))) ++ items_of s ws,
      rw (to_z-of_z, c.read_digit.ensures) (items_group s (word ∷ ws) ws word (digits width bits count) refl
          c.in_ok-group.ensures ∙ ap (λ (ds : List ℤ). map Ok ds ++ items_of s ws) step),
    )
