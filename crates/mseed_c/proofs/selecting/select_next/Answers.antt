use Rattle.std.proofs.Common.{◌≡◌, ◌<◌, ◌++◌, ◌∙◌, ℕ, List, length, drop, sym, subst, ap, arith, rules}
use Rattle.std.proofs.lemmas.List.{take_rest}
use Rattle.mseed_record.specs.Viewing.{view_of}
use Rattle.mseed_select.specs.Selecting.{selection_of}
use Rattle.mseed_c.specs.Decoded.{IsFirst, IsStopAt}
use Rattle.mseed_c.specs.declared.selecting.Selected.{Selected}
use Rattle.mseed_c.specs.private.Copied.{IsSmall, IsSoFar, added}
use Rattle.mseed_c.specs.Room.{overwritten}
use Rattle.mseed_c.proofs.Copying.{so_far_more}
use Rattle.mseed_c.proofs.Walking.{record_fits}
use Rattle.mseed_c.proofs.selecting.select_next.Goals as goal

pub returns-in-Err-clause-stopped : goal.returns-in-Err-clause-stopped
returns-in-Err-clause-stopped c =
    subst (λ (xs : List ℕ). IsStopAt xs c.in-Err.stop) (take_rest c.args.bytes.now c.args.reported.now.offset)
    c.in-Err.ensures.stop

pub put_record-requires : goal.put_record-requires
put_record-requires c =
    let v = view_of c.in-Ok.view in
    let r = c.args.reported.now in
    let at : IsFirst (drop r.offset c.args.bytes.now) v =
    subst (λ (xs : List ℕ). IsFirst xs v) (take_rest c.args.bytes.now r.offset) c.in-Ok.ensures.first in
    let ends = record_fits c.args.bytes.now v r.offset c.requires.1.inside at in
    let size : length c.bytes.result.now ≡ length v.bytes = ap (λ (xs : List ℕ). length xs) c.bytes.ensures.value in
    let long = c.in-Ok.view.has_header in
    let few : length c.args.bytes.now < 9223372036854775808 = search rules in
    record {
      small = c.requires.1.small;
      some = omega (arith, size, long);
      fits = omega (arith, size, ends, few);
    }

pub returns-clause-ok : goal.returns-clause-ok
returns-clause-ok c = λ first h.
    let s = selection_of c.args.selector.now in
    let v = view_of c.in-Ok.view in
    let r = c.args.reported.now in
    let at : IsFirst (drop r.offset c.args.bytes.now) v =
    subst (λ (xs : List ℕ). IsFirst xs v) (take_rest c.args.bytes.now r.offset) c.in-Ok.ensures.first in
    let new = c.put_record.new.reported in
    let bytes = c.bytes.ensures.value in
    let small : IsSmall new = c.put_record.ensures.small in
    subst (λ (q : Selected). IsSoFar s c.args.bytes.now first c.put_record.new.room q)
    (sym (rw bytes at c.put_record.ensures.counted))
    (so_far_more s c.args.bytes.now first c.args.room.now c.put_record.new.room r v c.asks_for.result h at
    c.asks_for.ensures.value
    (λ text was size. c.put_record.ensures.room first text was size
    ∙ ap (λ (xs : List ℕ). overwritten (text ++ added c.asks_for.result xs) first) bytes)
    (subst IsSmall (rw bytes at c.put_record.ensures.counted) small))

pub returns-clause-further : goal.returns-clause-further
returns-clause-further c =
    let long = c.in-Ok.view.has_header in
    let size : length c.bytes.result.now ≡ length (view_of c.in-Ok.view).bytes =
    ap (λ (xs : List ℕ). length xs) c.bytes.ensures.value in
    let on = ap (λ (q : Selected). q.offset) c.put_record.ensures.counted in
    omega (arith, long, size, on)
