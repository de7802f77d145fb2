use Rattle.std.proofs.Common.{arith, rules}
use Rattle.mseed_pack.proofs.Taken.{taken}
use Rattle.mseed_pack.proofs.window.Window.take.Goals as goal

pub returns-clause-held : goal.returns-clause-held
returns-clause-held g c = λ xs h s.
    taken xs c.args.self.now c.fill-count.new.out c.fill-count.result h (search rules)
    (omega (arith, c.fill-count.auto.out)) c.fill-count.ensures.bound
    (c.fill-count.ensures.next xs c.args.self.now.end s).0
