use Rattle.std.proofs.Common.{◌≡◌, rules}
use Rattle.slink_links.proofs.planned.fetch_planned.Goals as goal

pub returns-clause-end : goal.returns-clause-end
returns-clause-end g c =
    let e = c.fetch_all.ensures.end in
    let same : c.from.result ≡ c.args.plan.now.tries = search rules in (e.0, e.1, e.2, rw same at e.3, rw same at e.4)
