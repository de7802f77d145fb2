use Rattle.std.proofs.Common.{◌≡◌, ◌-◌, ◌<◌, ℕ, ℤ, List, map, cond, of_z, to_z, w16, arith}
use Rattle.std.proofs.Common.{refl, ap, ◌∙◌}
use Rattle.std.proofs.lemmas.Bool.{lt-ltb}
use Rattle.std.proofs.lemmas.Int.{to_z-of_z}
use lib.Lanes.{sel_l, top, zip2}
use lib.Signed.{lt_z}
use Rattle.mseed_steim_pack.specs.private.Ahead.{size_of}
use Rattle.mseed_steim_pack.proofs.Halves.{fits}
use Rattle.mseed_steim_pack.proofs.Lanes.{each_map, same_maps, sel_maps}
use Rattle.std.proofs.lemmas.Simd.{map-map, zip2-map}
use Rattle.mseed_steim_pack.proofs.ahead.sizes_of.Goals as goal

-- the greater of a number and its opposite less one, in a lane
abbrev greater : ℕ → ℕ
greater u = cond (top 15 (cond (lt_z (to_z w16 u) (to_z w16 (65535 - u))) 65535 0)) (65535 - u) u

greater_is : (u : ℕ) → greater u ≡ size_of (to_z w16 u)
greater_is u = search (arith)

lane_is : (z : ℤ) → size_of z < 32768 → greater (of_z w16 z) ≡ size_of z
lane_is z h = greater_is (of_z w16 z) ∙ ap size_of (to_z-of_z w16 z (fits z h))

-- in all lanes as in each
lanes : (turned : ℕ → ℕ) (less : ℕ → ℕ → ℕ) (xs : List ℤ)
    → sel_l (map (top 15) (zip2 less (map (of_z w16) xs) (map turned (map (of_z w16) xs))))
    (map turned (map (of_z w16) xs)) (map (of_z w16) xs)
    ≡ map (λ z. cond (top 15 (less (of_z w16 z) (turned (of_z w16 z)))) (turned (of_z w16 z)) (of_z w16 z)) xs
lanes turned less xs =
    rw (map-map turned (of_z w16) xs, zip2-map less (of_z w16) (λ z. turned (of_z w16 z)) xs, map-map (top 15) _ xs)
    (sel_maps (λ z. top 15 (less (of_z w16 z) (turned (of_z w16 z)))) (λ z. turned (of_z w16 z)) (of_z w16) xs)

pub overflow_cast-result : goal.overflow_cast-result
overflow_cast-result c = rw lanes (each_map (λ z. size_of z < 32768) _ _ (λ z h.
    rw (lane_is z h, lt-ltb (size_of z) 32768 h) (tt, record { fits = omega (arith, h) })) c.args.numbers c.requires)

pub returns-clause-value : goal.returns-clause-value
returns-clause-value c = rw (lanes, map-map) (same_maps (λ z. size_of z < 32768) _ size_of (λ z h.
    rw (lane_is z h, lt-ltb (size_of z) 32768 h) refl) c.args.numbers c.requires)

pub returns-clause-small : goal.returns-clause-small
returns-clause-small c = rw (returns-clause-value c)
    (each_map (λ z. size_of z < 32768) (λ x. x < 32768) size_of (λ z h. h) c.args.numbers c.requires)
