use Rattle.std.proofs.Common.{◌≡◌, ◌++◌, ap, drop, length, rules, sym, take, to_z, of_z, w32, ◌∙◌, ℕ}
use Rattle.std.proofs.Math.Seq.{take-append_seam}
use Rattle.std.proofs.lemmas.Int.{to_z-of_z}
use Rattle.mseed_repack.proofs.unpacking.unpack_into.Goals as goal

pub returns-clause-differences : goal.returns-clause-differences
returns-clause-differences c = λ s whole.
    let same : to_z w32 (of_z w32 c.args.before) ≡ c.args.before = to_z-of_z w32 _ (search rules) in
    let size : length c.unpack.new.out ≡ c.args.count = search rules in
    let more = drop c.args.count c.args.room.now in
    ap (λ (n : ℕ). take n (c.unpack.new.out ++ more)) (sym size) ∙ take-append_seam c.unpack.new.out more
    ∙ (rw same at (c.unpack.ensures.differences s whole))
