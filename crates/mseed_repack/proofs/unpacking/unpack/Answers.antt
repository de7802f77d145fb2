use Rattle.std.proofs.Common.{◌≡◌, ◌<◌, ap, length, arith, set, get_or, pos, rules, sym, to_z, of_z, w32, ◌∙◌}
use Rattle.std.proofs.lemmas.Int.{to_z-of_z}
use Rattle.mseed_record.specs.Viewing.{view_of}
use Rattle.mseed_audit.proofs.Joined.{count_is}
use Rattle.mseed_repack.proofs.Supplied.{first_near, first_set, last_is_end}
use Rattle.mseed_repack.proofs.unpacking.unpack.Goals as goal

pub unpack_differences-last-requires-clause-whole : goal.unpack_differences-last-requires-clause-whole
unpack_differences-last-requires-clause-whole c = (c.requires.sound.samples, c.requires.sound.whole)

pub difference_of-requires : goal.difference_of-requires
difference_of-requires c =
    let s = c.requires.sound.samples in
    let whole = c.requires.sound.whole in
    let some : 0 < length s = omega (arith, count_is (view_of c.args.view.now) s whole, whole.0.some) in
    let first : to_z w32 (of_z w32 (get_or c.unpack_differences-last.new.out 0 (pos 0)))
    ≡ get_or c.unpack_differences-last.new.out 0 (pos 0) = to_z-of_z w32 _ (search rules) in
    let last : to_z w32 (of_z w32 c.args.before) ≡ c.args.before = to_z-of_z w32 _ (search rules) in
    rw (first, last)
    (first_near _ _ _ some (c.unpack_differences-last.ensures.steps s whole) (c.requires.near s whole))

pub returns-clause-differences : goal.returns-clause-differences
returns-clause-differences c = λ s whole.
    let some : 0 < length s = omega (arith, count_is (view_of c.args.view.now) s whole, whole.0.some) in
    let first : to_z w32 (of_z w32 (get_or c.unpack_differences-last.new.out 0 (pos 0)))
    ≡ get_or c.unpack_differences-last.new.out 0 (pos 0) = to_z-of_z w32 _ (search rules) in
    let last : to_z w32 (of_z w32 c.args.before) ≡ c.args.before = to_z-of_z w32 _ (search rules) in
    ap (λ z. set c.unpack_differences-last.new.out 0 z) (to_z-of_z w32 c.difference_of.result (search rules))
    ∙ first_set _ _ _ _ some (c.unpack_differences-last.ensures.steps s whole) (rw (first, last) at
    c.difference_of.ensures)

pub returns-clause-last : goal.returns-clause-last
returns-clause-last c = λ s whole.
    last_is_end c.args.before c.unpack_differences-last.result s (c.unpack_differences-last.ensures.ends s whole)
    ∙ sym (to_z-of_z w32 _ (search rules))
