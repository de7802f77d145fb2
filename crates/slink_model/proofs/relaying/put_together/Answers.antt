use Rattle.std.proofs.Common.{ℕ, List, Ok, subst}
use Rattle.slink_model.specs.private.Relaying.{IsOfRecords}
use Rattle.slink_model.proofs.Relayed.{empty_is, part_held, records_among, some_are}
use Rattle.slink_model.proofs.relaying.put_together.Goals as goal

pub returns-then-is_empty-clause-ok : goal.returns-then-is_empty-clause-ok
returns-then-is_empty-clause-ok c = λ records among. empty_is c.args.held.now c.if-is_empty.ensures

pub assemble-requires-clause-records : goal.assemble-requires-clause-records
assemble-requires-clause-records c =
    records_among c.a_stretch_reads_back.ensures.views c.args.series.now c.requires.among.0 c.args.held.now
    c.requires.among.1

pub returns-in-Ok-clause-ok : goal.returns-in-Ok-clause-ok
returns-in-Ok-clause-ok c = λ records among.
    part_held c.a_stretch_reads_back.ensures.assembled c.a_stretch_reads_back.ensures.part _ c.in-Ok.series _ _
    (some_are c.args.held.now c.if-is_empty.ensures) among
    (subst (λ (codes : List ℕ). IsOfRecords (Ok c.in-Ok.series) codes c.args.held.now) c.codes.ensures c.in-Ok.ensures)
