use Rattle.std.proofs.Common.{◌≡◌, ◌-◌, ◌∙◌, ℕ, ℤ, pos, List, refl, arith, rules, get_or}
use Rattle.std.proofs.Common.{ap, FitsSigned, w32, to_z, of_z, inl}
use Rattle.std.specs.Prelude.{slice_range}
use Rattle.std.proofs.lemmas.Int.{to_z-of_z}
use Rattle.mseed_steim.specs.Samples.{differences_from}
use Rattle.mseed_pack.specs.declared.payload.Remaining.{Remaining}
use Rattle.mseed_pack.specs.Stretches.{differences}
use Rattle.mseed_pack.proofs.Differences.{part_differences}
use Rattle.mseed_pack.specs.private.Filling.{Fills}
use Rattle.mseed_pack.proofs.Filled.{none_large, scheme_fits, taken_of}
use Rattle.mseed_pack.proofs.Onward.{ahead_on, known_of, part_fits}
use Rattle.mseed_pack.proofs.payloads.pack_left.Goals as goal

-- the differences that are packed are those that are left
packed_are : (xs : List ℤ) (l : Remaining) (n : ℕ) → n ≡ l.first - 1 → FitsSigned w32 (get_or xs n (pos 0))
    → differences_from (to_z w32 (of_z w32 (get_or xs n (pos 0)))) (slice_range xs l.first l.end)
    ≡ slice_range (differences xs) l.first l.end
packed_are xs l n e fits =
    ap (λ (z : ℤ). differences_from z (slice_range xs l.first l.end))
    (to_z-of_z w32 (get_or xs n (pos 0)) fits ∙ ap (λ (k : ℕ). get_or xs k (pos 0)) e)
    ∙ part_differences xs l.first l.end

pub pack_samples_ahead-requires-clause-fits : goal.pack_samples_ahead-requires-clause-fits
pack_samples_ahead-requires-clause-fits c =
    let are = packed_are c.args.samples.now c.args.left _ c.saturating_sub.ensures (search rules) in
    scheme_fits c.args.scheme _ (part_fits c.args.left.end are (omega (arith, c.requires.left.some)) c.requires.ahead)

pub pack_samples_ahead-requires-clause-known : goal.pack_samples_ahead-requires-clause-known
pack_samples_ahead-requires-clause-known c =
    let are = packed_are c.args.samples.now c.args.left _ c.saturating_sub.ensures (search rules) in
    known_of c.args.left.end are (omega (arith, c.requires.left.some)) c.requires.ahead

pub unreachable-requires : goal.unreachable-requires
unreachable-requires c =
    let are = packed_are c.args.samples.now c.args.left _ c.saturating_sub.ensures (search rules) in
    none_large c.args.scheme _ c.in-Err.field-0.index (part_fits c.args.left.end are
    (omega (arith, c.requires.left.some)) c.requires.ahead)
    ((c.in-Err.ensures.packed.refused c.in-Err.field-0.index).0 refl).0.0

fills : (c : goal.In-Ok) → Fills c.args.scheme c.args.samples.now c.args.left c.args.left.end c.in-Ok.packed
    c.pack_samples_ahead.new.frames
fills c = record {
  are_left = c.requires.left;
  frames = search rules;
  most = omega arith;
  enough = inl refl;
  run = rw (packed_are c.args.samples.now c.args.left _ c.saturating_sub.ensures (search rules)) at
      c.in-Ok.ensures.packed;
}

pub returns-clause-packed : goal.returns-clause-packed
returns-clause-packed = fills

pub returns-clause-ahead : goal.returns-clause-ahead
returns-clause-ahead c =
    let are = packed_are c.args.samples.now c.args.left _ c.saturating_sub.ensures (search rules) in
    ahead_on c.args.left.end are (omega (arith, c.requires.left.some)) c.requires.ahead c.pack_samples_ahead.new.known
    c.in-Ok.packed.used c.in-Ok.ensures.packed.inside.0 c.in-Ok.ensures.known

pub returns-clause-taken : goal.returns-clause-taken
returns-clause-taken c = taken_of (fills c)
