use Rattle.std.proofs.Common.{arith}
use Rattle.mseed_text.proofs.Codes.{kept_fits}
use Rattle.mseed_feed.proofs.refusal.put_trimmed.Goals as goal

pub put-requires : goal.put-requires
put-requires c =
    record { room = omega (arith, c.requires, kept_fits c.args.code.now c.trimmed.result.now c.trimmed.ensures) }

pub returns-clause-text : goal.returns-clause-text
returns-clause-text c = rw c.trimmed.ensures at c.put.ensures.text

pub returns-clause-most : goal.returns-clause-most
returns-clause-most c =
    omega (arith, c.put.ensures.len, kept_fits c.args.code.now c.trimmed.result.now c.trimmed.ensures)
