use Rattle.std.proofs.Common.{arith}
use Rattle.slink_links.proofs.planned.serve_planned.Goals as goal

pub returns : goal.returns
returns g c = record {
  accepts = omega (arith, c.serve_all.ensures.accepts, c.from.ensures);
  fine = c.serve_all.ensures.fine;
  reported = c.serve_all.ensures.reported;
  out = c.serve_all.ensures.out;
  served = c.serve_all.ensures.served;
}
