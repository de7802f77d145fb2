use Rattle.std.proofs.Common.{◌≡◌, false, map, refl, true}
use Rattle.mseed_record.specs.Viewing.{view_of}
use Rattle.mseed_audit.proofs.Assembled.{assembled, has_rate, said}
use Rattle.mseed_audit.proofs.Following.{views_are}
use Rattle.mseed_audit.proofs.assembly.series.Goals as goal

pub assemble-requires : goal.assemble-requires
assemble-requires g c =
    let is = said c.continuous_exactly.ensures _ c.in-Some.channel _ c.in-Continuous.ensures c.in-Some.ensures in
    let continuous = is.1.0 refl in rw (views_are c.args.codes.now (map view_of c.args.views.now)) at continuous.each

pub returns-in-Some-first_rate : goal.returns-in-Some-first_rate
returns-in-Some-first_rate g c =
    let is = said c.continuous_exactly.ensures _ c.in-Some.channel _ c.in-Continuous.ensures c.in-Some.ensures in
    assembled c.args.codes.now (map view_of c.args.views.now) _ _ _ _ is.0 c.in-Some-first_rate.rate c.assemble.result
    (is.1.0 refl) c.in-Some-first_rate.ensures c.assemble.ensures.holds c.assemble.ensures.memory

pub unreachable-requires : goal.unreachable-requires
unreachable-requires g c =
    let is = said c.continuous_exactly.ensures _ c.in-Some.channel _ c.in-Continuous.ensures c.in-Some.ensures in
    absurd (has_rate c.args.codes.now (map view_of c.args.views.now) _ _ _ _ is.0 c.in-None-first_rate.ensures)

pub returns-in-Broken : goal.returns-in-Broken
returns-in-Broken g c =
    let is = said c.continuous_exactly.ensures _ c.in-Some.channel _ c.in-Broken.ensures c.in-Some.ensures in
    ((λ continuous. let no : false ≡ true = is.1.1 continuous in cc), (is.0.0, is.0.1.0))
