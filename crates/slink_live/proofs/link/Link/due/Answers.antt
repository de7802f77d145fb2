use Rattle.std.proofs.Common.{◌≡◌, arith, length}
use Rattle.slink_live.proofs.Due.{due_on}
use Rattle.slink_live.proofs.link.Link.due.Goals as goal
use Rattle.slink_live.proofs.link.Link.due.Goals.{then-is_due, else-is_due}

pub loop-k-init : goal.loop-k-init
loop-k-init c = record {
  streams = c.requires;
  within = λ j has. absurd (c.none-due.ensures j has);
  ready = λ j has. absurd (c.none-due.ensures j has);
  rest = λ j lt. absurd (omega (arith, lt));
}

pub loop-k-preserved : goal.loop-k-preserved
loop-k-preserved c = elim c.if-is_due.branch [
  | then-is_due w ↦ rw w.due-is (due_on _ _ c.loop-k.due w.with-due.result c.loop-k.k c.loop-k.invariant
      w.with-due.ensures.others
      (λ has. (omega (arith, c.loop-k-test.true, c.len-k-end.ensures.most), (w.if-is_due.ensures.yes).1))
      (λ none. absurd (none w.with-due.ensures.here)))
  | else-is_due w ↦ rw w.due-is (due_on _ _ c.loop-k.due c.loop-k.due c.loop-k.k c.loop-k.invariant
      (λ j ne. (λ has. has, λ has. has))
      (λ has. let lt = (c.loop-k.invariant.within c.loop-k.k has).0 in absurd (omega (arith, lt)))
      (λ none. w.if-is_due.ensures.no c.requires))
]

pub returns : goal.returns
returns c =
    let all : c.loop-k.k ≡ length c.args.feed.now =
    omega (arith, c.loop-k-test.false, c.len-k-end.ensures.value, c.loop-k.auto.k-end) in
    rw (← all) c.loop-k.invariant
