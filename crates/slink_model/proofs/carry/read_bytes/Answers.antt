use Rattle.std.proofs.Common.{◌≡◌, ◌∙◌, ap, sym, subst, arith, ◌+◌, ◌++◌, drop, take}
use Rattle.std.proofs.lemmas.List.{take_rest}
use Rattle.slink_model.specs.World.{Reads, Taking, lists_of, with_client}
use Rattle.slink_model.proofs.Pieces.{at_offset, reads_all, rest_lost}
use Rattle.slink_model.proofs.carry.read_bytes.Goals as goal

pub loop-offset-preserved : goal.loop-offset-preserved
loop-offset-preserved c = record {
  within = omega (arith, c.read_piece-used.ensures.bound, c.loop-offset.invariant.within);
  keeps = c.read_piece-used.ensures.keeps;
  rest = λ last more. c.loop-offset.invariant.rest last
      (subst (λ bytes. Reads c.args.first_sent.now
      (with_client c.loop-offset.client (lists_of c.loop-offset.held) c.loop-offset.start.items
      c.loop-offset.to_server.items) bytes last)
      (ap (λ piece. take c.read_piece-used.result.0 piece ++ drop (c.loop-offset.offset + c.read_piece-used.result.0)
      c.args.bytes.now) (take_rest c.args.bytes.now c.loop-offset.offset)
      ∙ sym (at_offset c.args.bytes.now c.loop-offset.offset c.read_piece-used.result.0))
      (c.read_piece-used.ensures.reads c.args.first_sent.now (lists_of c.loop-offset.held) c.loop-offset.start.items
      c.loop-offset.to_server.items (drop (c.loop-offset.offset + c.read_piece-used.result.0) c.args.bytes.now) last
      (rw (← (c.in_ok-note.ensures c.read_piece-used.new.client)) more)));
}

pub returns-after-loop-offset-clause-reads : goal.returns-after-loop-offset-clause-reads
returns-after-loop-offset-clause-reads c =
    let t : Taking = with_client c.loop-offset.client (lists_of c.loop-offset.held) c.loop-offset.start.items
    c.loop-offset.to_server.items in
    c.loop-offset.invariant.rest t (reads_all _ _ c.args.bytes.now c.loop-offset.offset c.loop-offset-test.false)

pub returns-then-used-eq0-clause-reads : goal.returns-then-used-eq0-clause-reads
returns-then-used-eq0-clause-reads c =
    let t : Taking = with_client c.loop-offset.client (lists_of c.loop-offset.held) c.loop-offset.start.items
    c.loop-offset.to_server.items in
    let u : Taking = with_client c.read_piece-used.new.client (lists_of c.loop-offset.held) c.loop-offset.start.items
    c.loop-offset.to_server.items in
    let same : u ≡ t = ap (λ client. with_client client (lists_of c.loop-offset.held) c.loop-offset.start.items
    c.loop-offset.to_server.items)
    (c.read_piece-used.ensures.none c.if-used-eq0.true).1 in
    rw (← same) at
    (c.loop-offset.invariant.rest t (rest_lost _ _ _ (c.read_piece-used.ensures.none c.if-used-eq0.true).0))
