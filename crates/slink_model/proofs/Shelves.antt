-- Lists of each station, and numbers of each.
use Rattle.std.proofs.lemmas.List.{map-set}
use Rattle.std.proofs.Common.{◌≡◌, ℕ, ◌<◌, sym, ap, ◌∙◌, List, [], ◌∷◌, ◌++◌, length, map, get_or, set}
use Rattle.std.specs.Global.{Vec}
use Rattle.std.proofs.lemmas.List.{get_or-map}
use Rattle.slink_model.specs.World.{with_one}

pub record_added : (xs : List (Vec (List ℕ))) (k : ℕ) (r : List ℕ) (v d : Vec (List ℕ)) → k < length xs
    → v.items ≡ (get_or xs k d).items ++ r ∷ []
    → map (λ (w : Vec (List ℕ)). w.items) (set xs k v) ≡ with_one (map (λ (w : Vec (List ℕ)). w.items) xs) k r
record_added xs k r v d lt e =
    map-set (λ (w : Vec (List ℕ)). w.items) xs k v
    ∙ ap (set (map (λ (w : Vec (List ℕ)). w.items) xs) k) (e
    ∙ ap (λ i. i ++ r ∷ []) (sym (get_or-map (λ (w : Vec (List ℕ)). w.items) xs k d [] lt)))
