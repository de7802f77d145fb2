use Rattle.std.proofs.Common.{List, ℕ, ◌++◌, ap, ◌∙◌}
use Rattle.std.specs.List.{concat}
use Rattle.mseed_stream.specs.Device.{BytesWritten}
use Rattle.slink_model.proofs.relaying.packed.Goals as goal

pub returns-in-Ok-clause-ok : goal.returns-in-Ok-clause-ok
returns-in-Ok-clause-ok c =
    let done = c.in-Ok.ensures.outcome in
    let nothing = ap (λ (s : BytesWritten). s.bytes) c.new-kept.ensures in
    record {
      fits = done.0;
      records = done.1.records;
      packing = done.1.packing;
      bytes_are = done.1.bytes ∙ ap (λ (prefix : List ℕ). prefix ++ concat done.1.records) nothing;
      reads = c.in-Ok.ensures.reads_back done.1.records done.0 done.1.packing;
    }
