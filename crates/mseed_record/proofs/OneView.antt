-- That a record has a view holds in one way, so that a field can keep it truncated.
use Rattle.std.proofs.Common.{ℕ, List, [], ◌∷◌}
use mathlib.Core.Logic.{∥∥₁_elim}
use mathlib.Core.HLevel.{is_prop→PathP}
use denote.Struct.Props.{props}
use Rattle.mseed_time.specs.declared.order.Order.{Order}
use Rattle.mseed_record.specs.Chain.{next_at, Passes, Rest}
use Rattle.mseed_record.specs.View.{View, IsViewBy, IsView}
use Rattle.mseed_record.proofs.Viewed.{whole_once}

Passes-prop : (order : Order) (b : List ℕ) (o : ℕ) (os : List ℕ) (p : ℕ) → IsProp (Passes order b o os p)
Passes-prop order b o [] p = hlevel props
Passes-prop order b o (q ∷ os) p = hlevel (props, Passes-prop order b (next_at order b o) os p)

Rest-prop : (order : Order) (b : List ℕ) (o : ℕ) (ps : List ℕ) → IsProp (Rest order b o ps)
Rest-prop order b o [] = hlevel props
Rest-prop order b o (p ∷ ps) = hlevel (props, Rest-prop order b p ps)

IsViewBy-prop : (os : List ℕ) (last : ℕ) (rest : List ℕ) (v : View) → IsProp (IsViewBy os last rest v)
IsViewBy-prop os last rest v = hlevel (props, Passes-prop, Rest-prop)

IsView-prop : (v : View) → IsProp (IsView v)
IsView-prop v (os, (last, (rest, h))) (ps, (end, (qs, k))) =
    let once = whole_once v.order v.bytes os ps last end rest qs h.chain_is k.chain_is in
    let same = is_prop→PathP (λ i. IsViewBy (once.0 i) (once.1 i) (once.2 i) v)
    (λ i. IsViewBy-prop (once.0 i) (once.1 i) (once.2 i) v) h k in
    λ i. (once.0 i, (once.1 i, (once.2 i, same i)))

-- what the field of a view says
pub view_kept : {v : View} → ∥ IsView v ∥₁ → IsView v
view_kept {v} h = ∥∥₁_elim h (IsView-prop v) (λ x. x)
