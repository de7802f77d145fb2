use Rattle.std.proofs.Common.{◌≡◌, ◌*◌, true, false, refl}
use Rattle.std.proofs.lemmas.Bool.{ne_eqb}
use Rattle.mseed_time.specs.Rate.{Ratio}
use Rattle.mseed_audit.proofs.tail.Tail.break_to.Goals as goal

pub returns-then-not-same_as : goal.returns-then-not-same_as
returns-then-not-same_as c =
    let rate : Ratio = c.args.self.now.rate in
    let next : Ratio = c.args.rate in
    let other : c.same_as.result ≡ false = c.if-not-same_as.true in
    rw (ne_eqb (rate.num * next.den) (next.num * rate.den)
    (λ same. let no : c.same_as.result ≡ true = c.same_as.ensures.1 same in cc (no, other))) refl
