use Rattle.mseed_repack.proofs.OneRepacking.{one_repacking}
use Rattle.mseed_repack.proofs.law.one_repacking.Goals as goal

pub returns : goal.returns
returns c = one_repacking c.one_input.ensures.input c.one_list_of_verdicts.ensures c.one_finding.ensures.of_all
    c.one_series.ensures.series c.one_packing.ensures.whole c.one_packing.ensures.prefix c.one_packing.ensures.prefixes
    c.one_misfit.ensures.one c.one_misfit.ensures.none
