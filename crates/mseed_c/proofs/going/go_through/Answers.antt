use Rattle.std.proofs.Common.{ℕ, length}
use Rattle.mseed_c.specs.Rows.{at_end, stopped}
use Rattle.mseed_c.proofs.Walking.{ends_reported, walk_none, walk_reported}
use Rattle.mseed_c.proofs.going.go_through.Goals as goal

pub returns-in-Some-clause-walk : goal.returns-in-Some-clause-walk
returns-in-Some-clause-walk g c =
    let first = λ (filled : ℕ). g.P.Places.is_row c.args.bytes.now filled c.args.out.now in
    let last = λ (filled : ℕ). g.P.Places.is_row c.args.bytes.now filled c.rows_on.new.out in
    walk_reported last c.args.bytes.now c.args.offset c.args.rows.now c.rows_on.new.rows c.rows_on.new.progress
    c.needed_by-progress.result (c.rows_on.ensures.goes.walk c.args.offset c.args.rows.now
    (walk_none first c.args.bytes.now c.args.offset c.min.result c.args.rows.now c.min.ensures))

pub returns-in-Some-clause-end : goal.returns-in-Some-clause-end
returns-in-Some-clause-end g c =
    rw c.code_of_stop.ensures (stopped c.in-Some.stop c.in-Some.ensures.before
    (ends_reported c.in-Some.stop c.args.bytes.now (length c.rows_on.new.rows)
    (g.P.Places.room (length c.rows_on.new.out)) c.rows_on.new.progress
    c.needed_by-progress.result c.in-Some.ensures.stopped) c.needed_by-progress.ensures)

pub returns-in-None-clause-walk : goal.returns-in-None-clause-walk
returns-in-None-clause-walk g c =
    let first = λ (filled : ℕ). g.P.Places.is_row c.args.bytes.now filled c.args.out.now in
    c.rows_on.ensures.goes.walk c.args.offset c.args.rows.now
    (walk_none first c.args.bytes.now c.args.offset c.min.result c.args.rows.now c.min.ensures)

pub returns-in-None-clause-end : goal.returns-in-None-clause-end
returns-in-None-clause-end g c = at_end c.in-None.ensures.at_end c.rows_on.ensures.goes.needed
