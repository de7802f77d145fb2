use Rattle.std.proofs.Common.{◌≡◌, ◌∙◌, ◌<◌, length, drop, arith, rules, length-append}
use Rattle.std.proofs.lemmas.List.{length-drop, take-append-le}
use Rattle.examples.proofs.pack.PiecesSupply.fill.Goals as goal

pub returns-clause-next : goal.returns-clause-next
returns-clause-next c = λ xs given s.
    let part = c.fill.new.out in
    let most = c.min-most.result in
    let out = c.args.out.now in
    let h = c.fill.ensures.next xs given s.1 in
    let size : length part ≡ most = search rules in (
      record {
        inside = h.0.inside;
        items = take-append-le c.fill.result part (drop most out) c.fill.ensures.bound ∙ h.0.items;
        some = λ left room. h.0.some left
            (omega (
              arith,
              size,
              c.min-most.ensures,
              room,
              s.0,
              length-append part (drop most out),
              length-drop most out,
            ));
      },
      (s.0, h.1),
    )
