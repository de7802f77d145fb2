use Rattle.std.proofs.Common.{ℕ, ℤ, List, length, drop, sym, subst}
use Rattle.std.proofs.lemmas.List.{take_rest}
use Rattle.mseed_record.specs.Viewing.{view_of}
use Rattle.mseed_c.specs.Decoded.{IsFirst}
use Rattle.mseed_c.specs.private.Going.{GoesOn}
use Rattle.mseed_c.proofs.Further.{goes_more, goes_none}
use Rattle.mseed_c.proofs.Walking.{ends_at}
use Rattle.mseed_c.proofs.going.row_next.Goals as goal

pub returns-in-Err-clause-goes : goal.returns-in-Err-clause-goes
returns-in-Err-clause-goes g c =
    goes_none g.P.Places.is_row g.P.Places.room c.args.bytes.now c.args.rows.now c.args.out.now c.args.progress.now
    c.requires.inside c.requires.room

pub returns-in-Err-clause-stopped : goal.returns-in-Err-clause-stopped
returns-in-Err-clause-stopped g c =
    ends_at c.in-Err.stop c.args.bytes.now _ (length c.args.rows.now) (g.P.Places.room (length c.args.out.now))
    c.args.progress.now (take_rest c.args.bytes.now c.args.progress.now.offset) c.requires.more c.in-Err.ensures.stop

pub returns-in-Err-take-clause-goes : goal.returns-in-Err-take-clause-goes
returns-in-Err-take-clause-goes g c =
    let P : List ℤ → Type 0 = λ xs. GoesOn g.P.Places.is_row g.P.Places.room c.args.bytes.now c.args.rows.now
    c.args.rows.now c.args.out.now xs c.args.progress.now c.args.progress.now in
    subst P (sym c.in-Err-take.ensures.stays)
    (goes_none g.P.Places.is_row g.P.Places.room c.args.bytes.now c.args.rows.now c.args.out.now c.args.progress.now
    c.requires.inside c.requires.room)

pub returns-in-Err-take-clause-stopped : goal.returns-in-Err-take-clause-stopped
returns-in-Err-take-clause-stopped g c =
    let v = view_of c.in-Ok.view in
    let at : IsFirst (drop c.args.progress.now.offset c.args.bytes.now) v =
    subst (λ (xs : List ℕ). IsFirst xs v) (take_rest c.args.bytes.now c.args.progress.now.offset)
    c.in-Ok.ensures.first in
    let full = c.in-Err-take.ensures.full in
    (c.requires.more, record { view = v; at = at; count = full.count; fewer = full.fewer })

pub returns-clause-goes : goal.returns-clause-goes
returns-clause-goes g c =
    let v = view_of c.in-Ok.view in
    let at : IsFirst (drop c.args.progress.now.offset c.args.bytes.now) v =
    subst (λ (xs : List ℕ). IsFirst xs v) (take_rest c.args.bytes.now c.args.progress.now.offset)
    c.in-Ok.ensures.first in
    rw c.bytes.ensures.value (goes_more g.P.Places.is_row g.P.Places.room c.args.bytes.now c.args.rows.now
    c.args.out.now c.take.new.out c.args.progress.now v c.row_of.result c.in-Ok-take.taken.0 c.in-Ok-take.taken.1
    c.requires.more c.requires.inside c.in-Ok-take.ensures.inside c.in-Ok-take.ensures.taken at
    c.row_of.ensures.describes c.row_of.ensures.offset c.row_of.ensures.first c.row_of.ensures.code)
