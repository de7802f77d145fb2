use Rattle.std.proofs.Common.{sym, ◌∙◌}
use Rattle.mseed_record.specs.Scan.{version3, short, no_data}
use Rattle.mseed_record.proofs.framer.early_of.Goals as goal

pub returns-then-starts_with-clause-decides : goal.returns-then-starts_with-clause-decides
returns-then-starts_with-clause-decides c = version3 (sym c.starts_with.ensures.value ∙ c.if-starts_with.true)

pub returns-then-prefix-lt-FIXED_HEADER-clause-decides : goal.returns-then-prefix-lt-FIXED_HEADER-clause-decides
returns-then-prefix-lt-FIXED_HEADER-clause-decides c =
    short (sym c.starts_with.ensures.value ∙ c.if-starts_with.false) c.if-prefix-lt-FIXED_HEADER.true

pub returns-else-prefix-lt-FIXED_HEADER-clause-decides : goal.returns-else-prefix-lt-FIXED_HEADER-clause-decides
returns-else-prefix-lt-FIXED_HEADER-clause-decides c =
    no_data (sym c.starts_with.ensures.value ∙ c.if-starts_with.false) c.if-prefix-lt-FIXED_HEADER.false
    (c.requires c.if-prefix-lt-FIXED_HEADER.false)
