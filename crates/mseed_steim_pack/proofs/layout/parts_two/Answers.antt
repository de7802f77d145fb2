use borrow.Author.Tests.{ltb-true}
use Rattle.std.proofs.Common.{◌≤◌, arith}
use Rattle.std.proofs.Common.{◌≡◌, ◌+◌, ◌*◌, ◌%◌, ◌^◌, ◌∙◌, ℕ, ℤ, List, arith, ap, take, length}
use Rattle.std.proofs.Math.Nat.{mod-eq_of_lt}
use Rattle.std.proofs.lemmas.List.{length-take-le}
use lib.Lanes.{sum_l}
use Rattle.mseed_steim.specs.declared.scheme.Scheme.TheVariants.{Two}
use Rattle.mseed_steim.specs.Spelling.{positional}
use Rattle.mseed_steim_pack.proofs.Rows.{row_is}
use Rattle.mseed_steim_pack.proofs.Packs.{is_fullest}
use Rattle.mseed_steim_pack.proofs.Joins.{dnib_below, parts_joined}
use Rattle.mseed_steim_pack.proofs.Held.{best_ahead, same_prefix}
use Rattle.mseed_steim_pack.proofs.layout.parts_two.Goals as goal

pub returns : goal.returns
returns c = λ ds ahead cut.
    let layout = c.layout_two-layout.result.now in
    let best = best_ahead Two ds c.args.most layout.row c.requires.some ahead c.layout_two-layout.ensures.row in
    let reported = c.layout_two-layout.ensures.layout in
    let is = (row_is Two layout.row.count layout.row best.0.0).0 in
    let prefix = take layout.row.count ds in
    let few = is.most in
    let short : layout.row.width ≤ 15 = omega (arith, ltb-true layout.row.width 16 reported.short) in
    let same = same_prefix layout.row.width layout.row.count ds c.args.cut.now short few best.0.1 best.0.2
    cut in
    let long : length prefix ≡ layout.row.count = length-take-le layout.row.count ds best.0.1 in
    let below = dnib_below layout.row.dnib layout.row.width prefix is.dnib (rw long is.room)
    (λ some. rw long (is.apart some)) in
    let joint = parts_joined layout c.args.cut.now reported (omega (arith, few))
    (omega (arith, few, c.requires.eight)) in
    let bits = sum_l c.parts_of.result % 4294967296 in
    let word : bits ≡ layout.row.dnib * 2 ^ 30 + positional layout.row.width prefix =
    ap (λ (xs : List ℕ). sum_l xs % 4294967296) c.parts_of.ensures ∙ joint
    ∙ ap (λ (xs : List ℤ). (layout.row.dnib * 1073741824 + positional layout.row.width xs) % 4294967296) same
    ∙ mod-eq_of_lt below in
    rw (reported.code, ← best.1) (is_fullest Two ds layout.row bits best.0 word)
