use Rattle.mseed_repack.proofs.Bordered.{read_as}
use Rattle.mseed_repack.proofs.StretchedArchive.{stretched_archive}
use Rattle.mseed_repack.proofs.law.borders_are_kept.Goals as goal

pub returns-clause-continuous : goal.returns-clause-continuous
returns-clause-continuous c = λ o vs records views fits packed some close.
    read_as c.header_reads_back.ensures c.packed_spells.ensures.spelled c.one_reading.ensures c.one_input.ensures.views
    c.one_series.ensures.series o vs records _ views fits packed (λ ws keeps. keeps.continuous some close)

pub returns-clause-gap : goal.returns-clause-gap
returns-clause-gap c = λ o vs records leading b v back views fits packed e gap.
    read_as c.header_reads_back.ensures c.packed_spells.ensures.spelled c.one_reading.ensures c.one_input.ensures.views
    c.one_series.ensures.series o vs records _ views fits packed (λ ws keeps. keeps.gap leading b v back e gap)

pub returns-clause-overlap : goal.returns-clause-overlap
returns-clause-overlap c = λ o vs records leading b v back views fits packed e overlap.
    read_as c.header_reads_back.ensures c.packed_spells.ensures.spelled c.one_reading.ensures c.one_input.ensures.views
    c.one_series.ensures.series o vs records _ views fits packed (λ ws keeps. keeps.overlap leading b v back e overlap)

pub returns-clause-archive : goal.returns-clause-archive
returns-clause-archive c =
    stretched_archive c.header_reads_back.ensures c.packed_spells.ensures.spelled c.one_reading.ensures
    c.one_input.ensures.views c.one_series.ensures.series
