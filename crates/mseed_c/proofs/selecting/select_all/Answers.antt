use Rattle.std.proofs.Common.{◌≡◌, ◌++◌, ℕ, List, [], length, refl, sym, ap, subst, arith}
use Rattle.std.proofs.lemmas.List.{take_all}
use Rattle.mseed_select.specs.Selecting.{selection_of}
use Rattle.mseed_c.specs.Asked.{at_end, stopped}
use Rattle.mseed_c.specs.Room.{overwritten}
use Rattle.mseed_c.specs.private.Copied.{IsSoFar}
use Rattle.mseed_c.specs.declared.selecting.Selected.{Selected}
use Rattle.mseed_c.proofs.selecting.select_all.Goals as goal

none_over : (room : List ℕ) → room ≡ overwritten [] room
none_over room = ap (λ (l : List ℕ). l ++ room) (sym (take_all (length room) [] (omega arith)))

pub loop-reported-init : goal.loop-reported-init
loop-reported-init c = record {
  views = [];
  selected = record {
    are_views = record { each = tt; records = record { joined = refl; each = tt }; offset_is = refl };
    room = none_over c.args.room.now;
    length_is = refl;
    records = refl;
    asked_for = refl;
    without_time = refl;
  };
  inside = omega arith;
  small = record {
    records = omega arith;
    asked_for = omega arith;
    without_time = omega arith;
    length_is = omega arith;
  };
  needed = refl;
}

pub select_next-requires : goal.select_next-requires
select_next-requires c = (c.args.room.now, c.loop-reported.invariant)

pub loop-reported-preserved : goal.loop-reported-preserved
loop-reported-preserved c = c.in_default.ensures.ok c.args.room.now c.loop-reported.invariant

pub returns-in-Err : goal.returns-in-Err
returns-in-Err c =
    let s = selection_of c.args.selector.now in
    let bytes = c.args.bytes.now in
    let first = c.args.room.now in
    let r = c.select_next.new.reported in
    let stays = c.in-Err.ensures.stays in
    let now : IsSoFar s bytes first c.select_next.new.room r =
    subst (λ (x : List ℕ). IsSoFar s bytes first x r) (sym stays.0)
    (subst (λ (q : Selected). IsSoFar s bytes first c.loop-reported.room q) (sym stays.1) c.loop-reported.invariant) in
    let was = now.selected in
    let place = ap (λ (q : Selected). q.offset) stays.1 in
    rw c.code_of_stop.ensures (record {
      views = now.views;
      selected = record {
        are_views = was.are_views;
        room = was.room;
        length_is = was.length_is;
        records = was.records;
        asked_for = was.asked_for;
        without_time = was.without_time;
      };
      ends = stopped c.in-Err.stop (omega (arith, place, c.loop-reported-test.true)) c.in-Err.ensures.stopped
          c.needed_by-reported.ensures;
    })

pub returns : goal.returns
returns c =
    let h = c.loop-reported.invariant in
    let inside = h.inside in
    record {
      views = h.views;
      selected = h.selected;
      ends = at_end (omega (arith, inside, c.loop-reported-test.false)) h.needed;
    }
