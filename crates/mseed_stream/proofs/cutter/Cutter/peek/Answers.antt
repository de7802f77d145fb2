use Rattle.std.proofs.Common.{rules}
use Rattle.mseed_record.specs.Viewing.{view_of}
use Rattle.mseed_stream.proofs.Records.{view_record, prefix_within}
use Rattle.mseed_stream.proofs.cutter.Cutter.peek.Goals as goal

pub returns-in-Ok-clause-ahead : goal.returns-in-Ok-clause-ahead
returns-in-Ok-clause-ahead g c =
    let prefix = rw c.lend.ensures.bytes at c.in-Ok.ensures.prefix in
    record {
      whole = prefix_within _ _ prefix;
      is_record = rw prefix at (view_record (view_of c.in-Ok.view) c.in-Ok.ensures.view);
      none = search rules;
      goes_on = search rules;
      turns = search rules;
    }
