use Rattle.std.proofs.Common.{◌≡◌, ◌<◌, ◌∙◌, ap, get_or, length, rules, sym}
use Rattle.std.specs.Ordering.{is_eq}
use Rattle.std.proofs.lemmas.List.{get_or_default}
use Rattle.mseed_audit.specs.Channels.{same_key}
use Rattle.mseed_repack.specs.Repack.{Channel}
use Rattle.mseed_repack.proofs.links.has_codes.Goals as goal

pub returns-in-Equal-clause-same : goal.returns-in-Equal-clause-same
returns-in-Equal-clause-same c = λ d.
    let cs = c.args.channels.now in
    let e : Channel = c.in-Some.field-0.now in
    let within : c.args.number < length cs = search rules in
    let at : e ≡ get_or cs c.args.number e = search rules in
    ap (λ (x : Channel). same_key x.0 c.args.codes) (get_or_default cs c.args.number d e within ∙ sym at)
    ∙ ap is_eq (sym c.cmp.ensures ∙ c.in-Equal.is)
