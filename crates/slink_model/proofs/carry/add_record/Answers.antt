use Rattle.std.proofs.Common.{◌∙◌, ap, List, ℕ, set, map, length-set}
use Rattle.std.proofs.lemmas.List.{with_items_is}
use Rattle.std.specs.Global.{Vec}
use Rattle.std.proofs.lemmas.Result.{on_ok_weaker}
use Rattle.slink_model.specs.World.{with_one}
use Rattle.slink_model.proofs.Shelves.{record_added}
use Rattle.slink_model.proofs.carry.add_record.Goals as goal

pub returns : goal.returns
returns c =
    let slots : List (Vec (List ℕ)) = c.as_mut_slice-slots.result.now in
    on_ok_weaker c.add_to_list.result (λ e.
    ap (map (λ (v : Vec (List ℕ)). v.items))
    (with_items_is c.args.lists.now (set slots c.args.k c.add_to_list.new.list)
    (length-set slots c.args.k c.add_to_list.new.list ∙ c.as_mut_slice-slots.ensures.len))
    ∙ (record_added slots c.args.k c.args.bytes.now c.add_to_list.new.list c.index-slots-k.result c.if-k-slots.false e
    ∙ ap (λ (xs : List (Vec (List ℕ))). with_one (map (λ (v : Vec (List ℕ)). v.items) xs) c.args.k c.args.bytes.now)
    c.as_mut_slice-slots.ensures.value)) c.add_to_list.ensures
