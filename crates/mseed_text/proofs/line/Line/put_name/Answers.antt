use Rattle.std.proofs.Common.{◌≡◌, ◌++◌, ◌∙◌, List, ℕ, append_assoc, arith, codes, slice_range}
use Rattle.mseed_text.specs.Name.{code_text}
use Rattle.mseed_text.proofs.Codes.{code_fits}
use Rattle.mseed_text.proofs.line.Line.put_name.Goals as goal

-- what was put, one after another
joined : (line network gap station location channel : List ℕ)
    → ((((((line ++ network) ++ gap) ++ station) ++ gap) ++ location) ++ gap) ++ channel
    ≡ line ++ (network ++ gap ++ station ++ gap ++ location ++ gap ++ channel)
joined line network gap station location channel = simp append_assoc

pub put_code-requires-3 : goal.put_code-requires-3
put_code-requires-3 c =
    omega (
      arith,
      code_fits c.args.codes.now c.network.result.now 0 2 c.network.ensures,
      code_fits c.args.codes.now c.station.result.now 2 7 c.station.ensures,
      code_fits c.args.codes.now c.location.result.now 7 9 c.location.ensures,
      c.put_code.ensures.most,
      c.put.ensures.len,
      c.put_code-2.ensures.most,
      c.put-2.ensures.len,
      c.requires,
    )

pub put-requires-3 : goal.put-requires-3
put-requires-3 c =
    omega (
      arith,
      code_fits c.args.codes.now c.network.result.now 0 2 c.network.ensures,
      code_fits c.args.codes.now c.station.result.now 2 7 c.station.ensures,
      code_fits c.args.codes.now c.location.result.now 7 9 c.location.ensures,
      c.put_code.ensures.most,
      c.put.ensures.len,
      c.put_code-2.ensures.most,
      c.put-2.ensures.len,
      c.put_code-3.ensures.most,
      c.requires,
    )

pub put_code-requires-4 : goal.put_code-requires-4
put_code-requires-4 c =
    omega (
      arith,
      code_fits c.args.codes.now c.network.result.now 0 2 c.network.ensures,
      code_fits c.args.codes.now c.station.result.now 2 7 c.station.ensures,
      code_fits c.args.codes.now c.location.result.now 7 9 c.location.ensures,
      code_fits c.args.codes.now c.channel.result.now 9 12 c.channel.ensures,
      c.put_code.ensures.most,
      c.put.ensures.len,
      c.put_code-2.ensures.most,
      c.put-2.ensures.len,
      c.put_code-3.ensures.most,
      c.put-3.ensures.len,
      c.requires,
    )

pub returns-clause-most : goal.returns-clause-most
returns-clause-most c =
    omega (
      arith,
      code_fits c.args.codes.now c.network.result.now 0 2 c.network.ensures,
      code_fits c.args.codes.now c.station.result.now 2 7 c.station.ensures,
      code_fits c.args.codes.now c.location.result.now 7 9 c.location.ensures,
      code_fits c.args.codes.now c.channel.result.now 9 12 c.channel.ensures,
      c.put_code.ensures.most,
      c.put.ensures.len,
      c.put_code-2.ensures.most,
      c.put-2.ensures.len,
      c.put_code-3.ensures.most,
      c.put-3.ensures.len,
      c.put_code-4.ensures.most,
      c.requires,
    )

pub returns-clause-text : goal.returns-clause-text
returns-clause-text c =
    let a1 = rw c.network.ensures at c.put_code.ensures.text in
    let a2 = rw a1 at c.put.ensures.text in
    let a3 = rw (a2, c.station.ensures) at c.put_code-2.ensures.text in
    let a4 = rw a3 at c.put-2.ensures.text in
    let a5 = rw (a4, c.location.ensures) at c.put_code-3.ensures.text in
    let a6 = rw a5 at c.put-3.ensures.text in
    let a7 = rw (a6, c.channel.ensures) at c.put_code-4.ensures.text in
    let key : List ℕ = c.args.codes.now in
    a7 ∙ joined c.args.self.now (code_text (slice_range key 0 2)) (codes "_") (code_text (slice_range key 2 7))
    (code_text (slice_range key 7 9)) (code_text (slice_range key 9 12))
