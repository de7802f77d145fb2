use Rattle.std.proofs.Common.{◌≡◌, ◌≢◌, ◌∙◌, nat_eq, ap, arith, false, inl, inr, length, length-take, sym, true, []}
use Rattle.std.proofs.lemmas.Bool.{OnFalse_from}
use Rattle.std.proofs.lemmas.Bool.Decides.{eqb_tells}
use Rattle.std.proofs.lemmas.List.{length-drop}
use Rattle.slink_live.specs.private.Waiting.{Waiting}
use Rattle.slink_live.proofs.pending.Pending.is_empty.Goals as goal

pub returns-clause-no : goal.returns-clause-no
returns-clause-no c = OnFalse_from (nat_eq c.self.inside.begin c.self.inside.end)
    (c.args.self.now.bytes ≢ []) (λ never none. elim (eqb_tells c.self.inside.begin c.self.inside.end) [
      | inl same ↦ absurd (let bad : true ≡ false = sym same.0 ∙ never in cc bad)
      | inr other ↦
          let short = ap length (ap (λ (w : Waiting). w.bytes) c.self.view_is ∙ none) in
          other.1 (omega (arith, c.self.invariant, simp (length-drop, length-take) at short))
    ])
