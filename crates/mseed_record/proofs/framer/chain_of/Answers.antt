use Rattle.std.proofs.Common.{sym, ◌∙◌}
use Rattle.mseed_record.specs.Scan.{no_order}
use Rattle.mseed_record.proofs.Answered.{no_version3}
use Rattle.mseed_record.proofs.framer.chain_of.Goals as goal

pub returns-in-None-clause-err : goal.returns-in-None-clause-err
returns-in-None-clause-err c =
    let fixed = sym c.has_fixed_bytes.ensures ∙ c.if-not-has_fixed_bytes.false in
    no_order (no_version3 c.args.prefix.now fixed) c.if-prefix-lt-FIXED_HEADER.false fixed
    (sym c.order_of.ensures ∙ c.in-None.is)
