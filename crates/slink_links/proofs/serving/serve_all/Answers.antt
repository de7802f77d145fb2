use Rattle.std.proofs.Common.{arith, refl}
use Rattle.slink_links.specs.Served.{all_went_well, something_failed}
use Rattle.slink_links.proofs.serving.serve_all.Goals as goal

pub returns-then-serve_connections : goal.returns-then-serve_connections
returns-then-serve_connections g c = record {
  accepts = c.serve_connections.ensures.accepts;
  fine = (λ _. c.serve_connections.ensures.fine c.if-serve_connections.true, λ _. refl);
  reported = all_went_well refl refl;
  out = c.serve_connections.ensures.out;
  served = c.serve_connections.ensures.served;
}

pub returns : goal.returns
returns g c = record {
  accepts = c.serve_connections.ensures.accepts;
  fine = (
    λ is. absurd (omega (arith, is)),
    λ same. absurd (omega (
      arith,
      same.0,
      same.1,
      c.serve_connections.ensures.failed c.if-serve_connections.false,
    )),
  );
  reported = something_failed refl c.report.ensures;
  out = c.serve_connections.ensures.out;
  served = c.serve_connections.ensures.served;
}
