use Rattle.std.proofs.Common.{◌≡◌, ◌+◌, ◌-◌, ◌≤◌, ◌++◌, ◌∙◌, arith, rules, length, take}
use Rattle.std.proofs.Common.{append_assoc, drop}
use Rattle.std.proofs.lemmas.List.{drop-drop}
use Rattle.std.proofs.lemmas.Slice.{take-put_mid, drop-put_mid}
use borrow.Rule.Slice.PartMut.{put_mid}
use Rattle.mseed_pack.proofs.Begun.{go_on}
use Rattle.mseed_pack.proofs.batch.gather.Goals as goal

pub loop-out-preserved : goal.loop-out-preserved
loop-out-preserved g c =
    let l = c.loop-out in
    let size = c.length_of-length.result in
    let buf = c.put_record-next.new.out in
    let short = c.length_of-length.ensures.short in
    let room : l.bytes + size ≤ length l.out = omega (arith, c.loop-out-test.true, c.length_of-length.ensures.long) in
    let same : l.bytes + size - l.bytes ≡ size = omega arith in
    let buf_long : length buf ≡ size = (let e : length buf ≡ l.bytes + size - l.bytes = search rules in e) ∙ same in
    let new = put_mid l.bytes (l.bytes + size - l.bytes) l.out buf in
    let kept : length new ≡ length l.out = search rules in
    let prefix : take (l.bytes + size) new ≡ take l.bytes l.out ++ buf =
    take-put_mid l.bytes (l.bytes + size - l.bytes) l.out buf (l.bytes + size) (omega arith) (omega arith) in
    let stays : drop (l.bytes + size) new ≡ drop (l.bytes + size) c.args.out.now =
    drop-put_mid l.bytes (l.bytes + size - l.bytes) l.out buf (l.bytes + size) (omega arith) (omega arith) (omega arith)
    ∙ rw (← drop-drop, ← drop-drop, l.invariant.behind) in
    record {
      standing = c.put_record-next.ensures.standing;
      to = λ xs on.
          let here = l.invariant.to xs on in
          let one = c.put_record-next.ensures.to xs (go_on on.count on.fits l.invariant.standing
          (omega (arith, l.invariant.standing.inside, c.if-next-job.false)) here.stands_next) in
          record {
            on = record {
              after = λ before h.
                  rw (prefix, ← append_assoc) (one.on.after (before ++ take l.bytes l.out) (here.on.after before h));
            };
            stands_next = one.stands_next;
          };
      within = omega (arith, kept, room);
      order = omega (arith, l.invariant.order, c.put_record-next.ensures.some);
      some = omega (arith, l.invariant.order, l.invariant.some, c.put_record-next.ensures.some, short);
      beside = c.put_record-next.ensures.beside ∙ l.invariant.beside;
      behind = stays;
    }

pub put_record-next-requires-clause-on : goal.put_record-next-requires-clause-on
put_record-next-requires-clause-on g c =
    let on = c.requires.on.1 in
    let standing = c.loop-out.invariant.standing in (
      c.requires.on.0,
      go_on on.count on.fits standing (omega (arith, standing.inside, c.if-next-job.false))
          (c.loop-out.invariant.to c.requires.on.0 on).stands_next,
    )

pub returns-then-next-job-clause-some : goal.returns-then-next-job-clause-some
returns-then-next-job-clause-some g c =
    omega (arith, c.requires.on.1.more, c.if-next-job.true)

pub returns-clause-some : goal.returns-clause-some
returns-clause-some g c =
    let short = c.length_of-length.ensures.short in
    omega (arith, c.loop-out.invariant.some, short, c.loop-out.auto.out, c.requires.long, c.loop-out-test.false)
