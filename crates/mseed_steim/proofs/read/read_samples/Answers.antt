use Rattle.mseed_record.specs.Viewing.{view_of}
use Rattle.mseed_steim.proofs.Laws.{read_only, read_fault}
use Rattle.mseed_steim.proofs.read.read_samples.Goals as goal

pub returns-clause-only : goal.returns-clause-only
returns-clause-only g c = read_only (view_of c.args.view.now) (λ samples. samples.items) c.read_record.result c.requires
    c.read_record.ensures.reading c.read_record.ensures.refused

pub returns-clause-fault : goal.returns-clause-fault
returns-clause-fault g c = read_fault (view_of c.args.view.now) (λ samples. samples.items) c.read_record.result
    c.requires c.read_record.ensures.reading c.read_record.ensures.refused
