use Rattle.std.proofs.Common.{◌≡◌, ◌+◌, arith, drop, refl}
use Rattle.std.proofs.lemmas.List.{drop-drop}
use Rattle.mseed_steim_pack.proofs.four.four_two.Goals as goal

pub parts_at-requires : goal.parts_at-requires
parts_at-requires c =
    let p = c.in_ok-a in
    (drop (p.a.count + p.b.count + p.c.count) c.requires.0, (p.ensures c.requires.0 c.requires.1).1)

pub joined-requires : goal.joined-requires
joined-requires c =
    let p = c.in_ok-a in
    let four = c.in_ok-d.ensures (drop (p.a.count + p.b.count + p.c.count) c.requires.0)
    (p.ensures c.requires.0 c.requires.1).1 in
    omega (arith, four.1.place)

pub returns : goal.returns
returns c = λ ds is.
    let p = c.in_ok-a in
    let n = p.a.count + p.b.count + p.c.count in
    let d = c.in_ok-d.d.count in
    let three = p.ensures ds is in
    let four = c.in_ok-d.ensures (drop n ds) three.1 in
    let on : c.args.place + n + d ≡ c.args.place + (n + d) = omega arith in
    rw c.joined.ensures
    (record { three = three.0; fourth = four.0; count = refl }, rw (drop-drop d n ds, on) at four.1)
