use Rattle.std.proofs.Common.{arith, refl}
use Rattle.std.proofs.lemmas.Bool.{true≢false}
use Rattle.slink_links.proofs.Serves.{each_both, each_none}
use Rattle.slink_links.proofs.serving.serve_connections.Goals as goal

pub loop-connection-init : goal.loop-connection-init
loop-connection-init g c = record {
  accepts = omega arith;
  fine = λ is. (refl, refl);
  failed = λ is. absurd (true≢false is);
  out = c.requires;
  served = each_none _ _;
}

pub loop-connection-preserved : goal.loop-connection-preserved
loop-connection-preserved g c = record {
  accepts = omega (arith, c.serve_next.ensures.accepts, c.loop-connection.invariant.accepts);
  fine = grind (arith, c.serve_next.ensures.fine, c.loop-connection.invariant.fine);
  failed = grind (
    arith,
    c.serve_next.ensures.fine,
    c.serve_next.ensures.failed,
    c.loop-connection.invariant.fine,
    c.loop-connection.invariant.failed,
  );
  out = c.serve_next.ensures.out;
  served = each_both _ _ _ _ c.loop-connection.invariant.served c.serve_next.ensures.served;
}
