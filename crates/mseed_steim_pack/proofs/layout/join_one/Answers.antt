use Rattle.std.proofs.Common.{◌≡◌, ◌<◌, get_or, length, pos, rules, w32, of_z, FitsSigned, arith}
use Rattle.std.proofs.Common.{List, ap, ◌∙◌, ℕ}
use Rattle.std.proofs.lemmas.Int.{to_z-of_z}
use Rattle.std.proofs.lemmas.Simd.{get_or-replicate}
use Rattle.std.proofs.lemmas.List.FromFn.{get_or-map-range_with_len}
use Rattle.mseed_steim.specs.declared.scheme.Scheme.TheVariants.{One}
use Rattle.mseed_steim_pack.specs.private.Rows.{place_of}
use Rattle.mseed_steim_pack.proofs.Rows.{four_at_most, row_is}
use Rattle.mseed_steim_pack.proofs.Joins.{placed_none, placed_next, placed_whole}
use Rattle.mseed_steim_pack.proofs.layout.join_one.Goals as goal

pub loop-index-init : goal.loop-index-init
loop-index-init c = placed_none c.args.layout.now.row.width c.args.layout.now.row.count c.args.diffs.now

pub loop-index-preserved : goal.loop-index-preserved
loop-index-preserved c =
    let i = c.loop-index.index in
    let layout = c.args.layout.now in
    let is = (row_is One layout.row.count layout.row c.requires.layout.0).0 in
    let lane : i < 8 = omega (arith, c.loop-index-test.true) in
    let inside : i < length c.args.diffs.now = omega (arith, lane, c.requires.eight) in
    let fits : FitsSigned w32 (get_or c.args.diffs.now i (pos 0)) = search rules in
    let digit : c.cast_unsigned.result ≡ of_z w32 (get_or c.args.diffs.now i (pos 0)) =
    rw to_z-of_z at c.cast_unsigned.ensures in
    placed_next layout.row.width layout.row.count i c.args.diffs.now c.loop-index.word c.cast_unsigned.result
    (get_or layout.masks i 0) (get_or layout.places i 0) is.narrow
    (omega (arith, is.most, c.requires.eight)) c.loop-index.invariant fits digit
    (ap (λ (l : List ℕ). get_or l i 0) c.requires.layout.2 ∙ get_or-replicate 8 i _ 0 lane)
    (ap (λ (l : List ℕ). get_or l i 0) c.requires.layout.3 ∙ get_or-map-range_with_len
    (place_of layout.row.width layout.row.count) 0 8 i i 0 lane (omega arith))

pub returns : goal.returns
returns c =
    let row = c.args.layout.now.row in
    let is = (row_is One row.count row c.requires.layout.0).0 in
    placed_whole row.width row.count c.args.diffs.now c.loop-index.index c.loop-index.word is.room
    (omega (arith, is.most, c.requires.eight)) (omega arith)
    (omega (arith, four_at_most row.count row c.requires.layout.0, c.loop-index-test.false)) c.loop-index.invariant
