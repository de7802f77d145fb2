use Rattle.std.proofs.Common.{◌≡◌, ◌<◌, ◌≤◌, ◌^◌, ◌∙◌, ◌∷◌, [], ℕ, ℤ, List, ap, arith, get_or, length, map}
use Rattle.std.proofs.Common.{pos, ltb, rules, true}
use Rattle.std.proofs.lemmas.List.{get_or-take}
use Rattle.std.proofs.lemmas.List.Elements.{All-get_or}
use Rattle.std.proofs.lemmas.List.Sums.{AllPass-from_list_all}
use Rattle.std.proofs.lemmas.Simd.{Each1-from_get_or, pick_l_whole}
use Rattle.std.proofs.Common.{sym}
use borrow.Author.Tests.{ltb-true}
use Rattle.mseed_steim.specs.Spelling.{residue}
use Rattle.mseed_steim.proofs.LaneSums.{spelled_four}
use Rattle.mseed_steim_pack.specs.private.Ahead.{bits_of, size_of}
use Rattle.mseed_steim_pack.proofs.Halves.{digit_bits, digits_small, eight_of, lanes_of, low_digits}
use Rattle.mseed_steim_pack.proofs.Halves.{same_again}
use Rattle.mseed_steim_pack.proofs.layout.parts_of.Goals as goal

pub returns : goal.returns
returns c =
    let layout = c.args.layout.now in
    let w = layout.row.width in
    let cut = c.args.cut.now in
    let eight = c.first_eight.result in
    let weights = layout.weights in
    let digit = λ (i : ℕ). residue (2 ^ w) (get_or cut i (pos 0)) in
    let weight = λ (i : ℕ). bits_of (get_or weights i (pos 0)) in
    let list = λ (f : ℕ → ℕ). f 0 ∷ f 1 ∷ f 2 ∷ f 3 ∷ f 4 ∷ f 5 ∷ f 6 ∷ f 7 ∷ [] in
    let four = λ (xs : List ℕ). get_or xs 0 0 ∷ get_or xs 1 0 ∷ get_or xs 2 0 ∷ get_or xs 3 0 ∷ [] in
    let heads : length layout.heads ≡ 4 = search rules in
    let counts : length layout.counts ≡ 4 = search rules in
    let wide : length weights ≡ 8 = search rules in
    let read : length eight ≡ 8 = search rules in
    let short : w ≤ 15 = omega (arith, ltb-true w 16 c.requires.layout.short) in
    let small = Each1-from_get_or (λ (z : ℤ). size_of z < 32768) eight (pos 0)
    (λ i h. let l : i < 8 = omega (arith, h, read) in
    rw (c.first_eight.ensures.value, get_or-take 8 cut i (pos 0) l) (c.first_eight.ensures.small i l)) in
    let few = Each1-from_get_or (λ (z : ℤ). size_of z < 32768) weights (pos 0)
    (λ i h. ltb-true _ 32768 (All-get_or (λ (z : ℤ). ltb (size_of z) 32768 ≡ true) weights i (pos 0) h
    (AllPass-from_list_all _ weights c.requires.layout.small))) in
    let digits = low_digits w eight layout.masks short c.requires.layout.masks read small in
    let xs : c.bits_of.result ≡ list digit = c.bits_of.ensures (rw digits (digits_small w eight short small))
    ∙ ap (λ (zs : List ℤ). map bits_of zs) digits ∙ digit_bits w eight
    ∙ ap (λ (zs : List ℤ). map (λ d. residue (2 ^ w) d) zs)
    (c.first_eight.ensures.value ∙ eight_of cut c.requires.eight) in
    let ws : c.bits_of-2.result ≡ list weight = c.bits_of-2.ensures (rw (same_again weights few) few)
    ∙ ap (λ (zs : List ℤ). map bits_of zs) (same_again weights few ∙ sym (pick_l_whole (pos 0) weights 8 wide)) in
    ap (λ (l : List ℕ). lanes_of l c.bits_of-2.result layout.counts layout.heads) xs
    ∙ ap (λ (l : List ℕ). lanes_of (list digit) l layout.counts layout.heads) ws
    ∙ ap (λ (l : List ℕ). lanes_of (list digit) (list weight) l layout.heads) (spelled_four layout.counts counts)
    ∙ ap (λ (l : List ℕ). lanes_of (list digit) (list weight) (four layout.counts) l) (spelled_four layout.heads heads)
