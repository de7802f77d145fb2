use Rattle.std.proofs.Common.{◌≡◌, ℤ, of_z, rules, subst, to_z, true, w32}
use Rattle.std.proofs.lemmas.Bool.{OnTrue_from}
use Rattle.std.proofs.lemmas.Int.{to_z-of_z}
use Rattle.mseed_record.specs.Viewing.{view_of}
use Rattle.mseed_steim.specs.Spelling.{IsWithin}
use Rattle.mseed_repack.specs.private.Supplying.{IsPlain}
use Rattle.mseed_repack.proofs.Near.{near_by}
use Rattle.mseed_repack.proofs.Plain.{bounded_by}
use Rattle.mseed_repack.proofs.outline.is_plain.Goals as goal

pub near_ends-requires : goal.near_ends-requires
near_ends-requires c = (c.requires.samples, c.requires.whole)

pub returns : goal.returns
returns c =
    let ends = c.in-Some.ends in
    let first : to_z w32 (of_z w32 ends.first) ≡ ends.first = to_z-of_z w32 _ (search rules) in
    let last : to_z w32 (of_z w32 ends.last) ≡ ends.last = to_z-of_z w32 _ (search rules) in
    let plain : c.is_short-2.result ≡ true → IsPlain (view_of c.args.view.now) = λ short. record {
      unpackable = c.is_unpackable.ensures.0 c.if-not-is_unpackable.false;
      bounded = λ s whole.
          let found = c.in-Some.ensures.ends s whole in
          bounded_by _ _ found.0 (near_by s found.1) (subst (λ (z : ℤ). IsWithin 29 z) first (c.is_short.ensures.0
          c.if-not-is_short.false)) (subst (λ (z : ℤ). IsWithin 29 z) last (c.is_short-2.ensures.0 short));
    } in
    OnTrue_from c.is_short-2.result (IsPlain (view_of c.args.view.now)) plain
