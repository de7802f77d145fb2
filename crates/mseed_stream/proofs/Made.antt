-- How a call without parameters makes a value of no bytes: a marker, with ghost data beside it.
use mathlib.Core.Path.{refl}
use mathlib.Core.List.{List, [], ◌∷◌}
use Rattle.std.proofs.raw_atomic.Walks.{proved}
use seplogic.Ra.Ura.{Ura}
use mir.Syntax.{Fn, Sym, Callee, ty_struct, tnil, tcons, local, value_local, place, assign, aggregate, copy, seq}
use mir.Syntax.{return}
use mir.Val.{Val, vstruct, vcons, vnil}
use prog.Model.{Model}
use prog.Wp.{Closed}
use types.Logic.{Logic}
use types.Kit.{Item, Sq, prop, raw, ◌$◌, ◌∵◌, !, qed, keep, join, suffices, frame}
use types.Run.{no_more, and_then, returns, enter}
use types.Part.{agg}
use types.ByLocal.{alloc_all, pass_all, free_all, look_at, get, sets}
use contract.Lifetimes.{Lfts}
use contract.Running.{Running, tables}
use denote.RattleType.{RattleType}
use denote.Shadow.{Pure, shadow, pure_i}
use denote.Signature.{plain}
use denote.Steps.{nothing}
use denote.Triple.Clauses.{Ended, Clauses, closing}
use denote.Triple.Entry.{Args, on_entry}
use denote.Triple.Spec.{Meets}
use denote.Triple.Walked.{ends_at}

-- the call's code, by the names of the value's type and of the marker's
abbrev pub making : Sym → Sym → Fn
making value marker = record {
  lifetimes = 0;
  outlives = [];
  ty_params = [];
  givens = 0;
  params = 0;
  locals = local (ty_struct value (tcons (ty_struct marker tnil) tnil)) value_local
      ∷ local (ty_struct marker tnil) value_local ∷ [];
  body = seq (assign (place 1 []) (aggregate []))
      (seq (assign (place 0 []) (aggregate (copy (place 1 []) ∷ []))) return);
}

-- what the machine has of the value
abbrev pub made : Val
made = vstruct (vcons (vstruct vnil) vnil)

-- the call's signature
abbrev pub making_of : RattleType → Ended
making_of R = record {
  signature = record { lifetimes = 0; outlives = []; params = []; result = plain (λ κs. R) };
  kept = tt;
}

module _ {M : Type 1} {𝓤 : Ura M} (𝓛 : Logic 𝓤) (R : RattleType) (c : Clauses 𝓤 (making_of R)) (𝓜 : Model 𝓤 𝓛.H)
    (𝓡 : Running 𝓤 𝓛.H 𝓜) where
  -- it meets its contract, if the value owns nothing and is as the contract says
  pub makes : (value marker : Sym) (k : Callee)
      → Closed 𝓤 𝓛.H (tables 𝓤 𝓛.H 𝓜 𝓡 𝓡.env).C (tables 𝓤 𝓛.H 𝓜 𝓡 𝓡.env).Λ k (making value marker) → (r : R.Denot)
      → Pure (R.own_val r (made ∷ [])) → shadow (R.own_val r (made ∷ []))
      → ((κs : Lfts 0) (a : Args (making_of R).signature κs) (g : (c κs a).ghost) (Γ : List (Item 𝓤))
      → Sq 𝓛 Γ (prop ((c κs a).ensures g r tt)))
      → Meets 𝓛 (making_of R).signature ((tables 𝓤 𝓛.H 𝓜 𝓡 𝓡.env).C k) (closing 𝓛 (making_of R) c)
  makes value marker k closed r pure owned ensured =
      proved 𝓛 (making_of R) tt c 𝓜 𝓡 tt k (making value marker) closed (λ κs. tt) (λ κs. tt) (λ κs qs bounds a g are.
      qed 𝓛 (raw (on_entry 𝓛 (making_of R).signature κs qs a tt) ∷ raw ((c κs a).requires g) ∷ []) ∵ keep ! [] $
      enter ! _ _ _ [] _ $ alloc_all ! (λ l. pass_all ! refl tt $
      sets ! (agg ! (no_more !)) refl (tt, tt) $
      sets ! (agg ! (and_then ! (get ! refl) (no_more !))) refl (tt, (tt, tt)) $
      returns ! (look_at ! 0 refl) $ free_all ! refl $ pure_i ! (R.own_val r (made ∷ [])) pure owned $
      suffices ! _ (ends_at 𝓛 (making_of R) tt c ((κs, qs, bounds, a, tt), g) made r tt tt) $
      nothing ! $ join ! $ nothing ! $ join ! $ frame ! $ ensured κs a g _))
