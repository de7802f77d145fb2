use Rattle.std.proofs.Common.{◌≡◌}
use Rattle.mseed_record.specs.declared.framer.Scan.TheVariants.{Record}
use Rattle.mseed_record.proofs.Scanned.{scanned}
use Rattle.mseed_record.proofs.framing.scan.Goals as goal

pub returns : goal.returns
returns c =
    let it = scanned c.args.prefix.now c.look.result (λ i. (c.type_inv.prefix i).fits) c.look.ensures.decides in
    record {
      decides = c.look.ensures.decides;
      one_answer = it.one;
      «record» = it.record_is;
      only = λ k e j h r. let same : c.look.result ≡ Record j = (it.record_is j).1 (h, r) in cc (e, same);
      refused = it.refused_is;
      needed = it.needed_is;
      bound = it.bound;
      least = it.least;
    }
