use Rattle.mseed_pack.specs.Traces.{trace_of}
use Rattle.mseed_pack.proofs.packing.packings_read_back.Goals as goal

pub returns-clause-reads_back : goal.returns-clause-reads_back
returns-clause-reads_back c =
    λ records fits packing. c.reads_back.ensures (trace_of c.args.series.now) c.args.options.now records
    c.series_is_a_trace.ensures fits packing

pub returns-clause-fewest : goal.returns-clause-fewest
returns-clause-fewest c =
    λ records packing steim. c.fewest_words.ensures (trace_of c.args.series.now) c.args.options.now records packing
    steim
