use Rattle.std.proofs.Common.{◌≡◌, ◌++◌, List, ℤ, ◌-ℤ◌, refl, sym, subst, rules, to_z, of_z, w32}
use Rattle.std.proofs.lemmas.Int.{to_z-of_z}
use Rattle.mseed_steim.specs.Spelling.{IsWithin}
use Rattle.mseed_repack.specs.private.Outline.{IsKnown}
use Rattle.mseed_repack.specs.declared.outline.Nearness.{Nearness}
use Rattle.mseed_repack.specs.declared.outline.Nearness.TheVariants.{Near}
use Rattle.mseed_repack.proofs.Near.{known_first, known_more, near_by}
use Rattle.mseed_repack.proofs.outline.nearness_with.Goals as goal

-- the last sample is kept in 32 bits
as_kept : (last : ℤ) (xs : List ℤ) → to_z w32 (of_z w32 last) ≡ last → IsKnown (Near last) xs
    → IsKnown (Near (to_z w32 (of_z w32 last))) xs
as_kept last xs same known = subst (λ (z : ℤ). IsKnown (Near z) xs) (sym same) known

pub near_ends-requires : goal.near_ends-requires
near_ends-requires c = (c.requires.samples, c.requires.whole)

pub returns-in-Empty : goal.returns-in-Empty
returns-in-Empty c = λ xs s known whole.
    let ends = c.in-Some.ends in
    let found = c.in-Some.ensures.ends s whole in
    as_kept ends.last (xs ++ s) (to_z-of_z w32 _ (search rules))
    (known_first _ _ _ (subst (λ (n : Nearness). IsKnown n xs) c.in-Empty.is known) found.0 (near_by s found.1))

pub returns-then-is_near : goal.returns-then-is_near
returns-then-is_near c = λ xs s known whole.
    let ends = c.in-Some.ends in
    let found = c.in-Some.ensures.ends s whole in
    let before = subst (λ (n : Nearness). IsKnown n xs) c.in-Near.is known in
    let first : to_z w32 (of_z w32 ends.first) ≡ ends.first = to_z-of_z w32 _ (search rules) in
    let last : to_z w32 (of_z w32 c.in-Near.last) ≡ c.in-Near.last = to_z-of_z w32 _ (search rules) in
    let step : IsWithin 30 (ends.first -ℤ c.in-Near.last) = rw first at (rw last at (c.if-is_near.ensures.0 refl)) in
    as_kept ends.last (xs ++ s) (to_z-of_z w32 _ (search rules))
    (known_more ends c.in-Near.last xs s before found.0 (near_by s found.1) step)
