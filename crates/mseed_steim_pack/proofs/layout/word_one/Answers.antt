use Rattle.std.proofs.Common.{◌≡◌, ◌+◌, ◌*◌, ◌^◌, arith, take, drop}
use Rattle.mseed_steim.specs.declared.scheme.Scheme.TheVariants.{One}
use Rattle.mseed_steim.specs.Spelling.{positional}
use Rattle.mseed_steim_pack.proofs.Packs.{is_fullest}
use Rattle.mseed_steim_pack.proofs.Held.{best_ahead, row_ahead}
use Rattle.mseed_steim_pack.proofs.layout.word_one.Goals as goal

pub join-requires-clause-layout : goal.join-requires-clause-layout
join-requires-clause-layout g c =
    let ds = drop c.args.from (g.P.Pending.differences c.args.pending.now) in
    let known = row_ahead One ds c.args.most c.requires.some c.requires.ahead in
    (c.layout_one-layout.ensures known.0 known.1.0).1

pub returns : goal.returns
returns g c =
    let ds = drop c.args.from (g.P.Pending.differences c.args.pending.now) in
    let row = c.layout_one-layout.result.now.row in
    let known = row_ahead One ds c.args.most c.requires.some c.requires.ahead in
    let best = best_ahead One ds c.args.most row c.requires.some c.requires.ahead
    (λ r e. (c.layout_one-layout.ensures r e).0) in
    let plain : row.dnib ≡ 0 = (c.layout_one-layout.ensures known.0 known.1.0).1.1 in
    let word : c.join.result ≡ row.dnib * 2 ^ 30 + positional row.width (take row.count ds) =
    omega (arith, c.join.ensures, plain) in
    rw (c.from-code.ensures, c.taken_one.ensures, ← best.1) (is_fullest One ds row c.join.result best.0 word)
