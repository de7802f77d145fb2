use Rattle.std.proofs.Common.{◌≡◌, ◌+◌, arith, drop, rules, sym, to_z, of_z, w32, ◌∙◌}
use Rattle.std.proofs.lemmas.Int.{to_z-of_z}
use Rattle.mseed_repack.proofs.Supplied.{given_all, next_near, part_given, record_given, room_given}
use Rattle.mseed_repack.proofs.unpacking.UnpackingSupply.fill.Goals as goal

pub returns-then-at-end-clause-next : goal.returns-then-at-end-clause-next
returns-then-at-end-clause-next g c = λ samples given h.
    let p = part_given h.1 c.hand_on-count.new.out c.hand_on-count.result c.if-at-end.true
    (omega (arith, c.hand_on-count.ensures.count, c.hand_on-count.auto.out)) c.hand_on-count.ensures.items in
    (p.0, (h.0, p.1))

pub returns-in_default-clause-next : goal.returns-in_default-clause-next
returns-in_default-clause-next g c = λ samples given h.
    let zero : given + 0 ≡ given = omega arith in
    let none = c.in_default.ensures.next in (
      given_all h.1 c.if-at-end.false none.0 c.args.out.now,
      (c.in_default.ensures.leads, rw (zero, none.1 ∙ sym none.0) h.1),
    )

pub unpack-self-requires-clause-near : goal.unpack-self-requires-clause-near
unpack-self-requires-clause-near g c = λ s whole.
    let same : to_z w32 (of_z w32 c.args.self.now.last) ≡ c.args.self.now.last = to_z-of_z w32 _ (search rules) in
    rw same (next_near (rw c.in-Some.ensures.next at c.requires.1.1.1) c.if-at-end.false s whole)

pub returns-then-count-out-clause-next : goal.returns-then-count-out-clause-next
returns-then-count-out-clause-next g c = λ samples given h.
    let same : to_z w32 (of_z w32 c.args.self.now.last) ≡ c.args.self.now.last = to_z-of_z w32 _ (search rules) in
    let p = record_given (rw c.in-Some.ensures.next at h.1) c.if-at-end.false (to_z w32 (of_z w32 c.unpack-self.result))
    c.unpack-self.new.out (drop c.from-count.result c.args.out.now) c.from-count.result
    (c.from-count.ensures ∙ c.samples.ensures) (λ s whole. rw same at (c.unpack-self.ensures.differences s whole))
    (λ s whole. (rw same at (c.unpack-self.ensures.last s whole)) ∙ sym (to_z-of_z w32 _ (search rules))) in
    (p.0, (c.in-Some.ensures.leads, p.1))

pub unpack_into-self-requires-clause-near : goal.unpack_into-self-requires-clause-near
unpack_into-self-requires-clause-near g c = λ s whole.
    let same : to_z w32 (of_z w32 c.args.self.now.last) ≡ c.args.self.now.last = to_z-of_z w32 _ (search rules) in
    rw same (next_near (rw c.in-Some.ensures.next at c.requires.1.1.1) c.if-at-end.false s whole)

pub returns-clause-next : goal.returns-clause-next
returns-clause-next g c = λ samples given h.
    let same : to_z w32 (of_z w32 c.args.self.now.last) ≡ c.args.self.now.last = to_z-of_z w32 _ (search rules) in
    let p = room_given (rw c.in-Some.ensures.next at h.1) c.if-at-end.false
    (to_z w32 (of_z w32 c.unpack_into-self.result)) c.unpack_into-self.new.room c.hand_on-begun.new.out
    c.from-count.result c.hand_on-begun.result (c.from-count.ensures ∙ c.samples.ensures)
    (omega (arith, c.unpack_into-self.auto.room)) (λ s whole. rw same at
    (c.unpack_into-self.ensures.differences s whole))
    (λ s whole. (rw same at (c.unpack_into-self.ensures.last s whole)) ∙ sym (to_z-of_z w32 _ (search rules)))
    (omega (arith, c.hand_on-begun.ensures.count, c.hand_on-begun.auto.out)) c.hand_on-begun.ensures.items in
    (p.0, (c.in-Some.ensures.leads, p.1))
