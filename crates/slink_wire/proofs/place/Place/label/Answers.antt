use Rattle.std.proofs.Common.{◌≡◌, ◌++◌, ◌∷◌, List, ℕ, arith, sym, ap, ◌∙◌}
use Rattle.std.proofs.lemmas.Grind.{common_steps}
use Rattle.slink_wire.specs.Place.{Fields, IsCode, SpellsPlace, code_in, filled, label_of}
use Rattle.slink_wire.proofs.place.Place.label.Goals as goal

spells : (f : Fields) (items net sta : List ℕ) → items ≡ label_of f → net ≡ code_in f.network
    → sta ≡ code_in f.station → IsCode 2 net → IsCode 5 sta → filled 2 net ≡ f.network → filled 5 sta ≡ f.station
    → SpellsPlace items f
spells f items net sta text is_net is_sta short_net short_sta fills_net fills_sta = (
  sta,
  net,
  short_sta,
  short_net,
  text ∙ (ap (λ n. n ++ 95 ∷ code_in f.station) (sym is_net) ∙ ap (λ s. net ++ 95 ∷ s) (sym is_sta)),
  sym (ap (λ s. let fields : Fields = record { station = s; network = filled 2 net } in fields) fills_sta
      ∙ ap (λ n. let fields : Fields = record { station = f.station; network = n } in fields) fills_net),
)

pub returns-clause-spelled : goal.returns-clause-spelled
returns-clause-spelled c =
    let text : c.put-3.new.text.items ≡ label_of c.args.self.now = grind (arith, common_steps) in
    spells c.args.self.now c.put-3.new.text.items c.network.result.now c.station.result.now text
    c.network.ensures.value c.station.ensures.value c.network.ensures.code c.station.ensures.code
    c.network.ensures.field c.station.ensures.field
