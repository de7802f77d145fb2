use Rattle.std.proofs.Common.{◌≡◌, ◌-◌, ◌≤◌, ℤ, List}
use Rattle.mseed_pack.specs.private.Filling.{HoldsDifferences}
use Rattle.mseed_pack.proofs.window.Window.fill_up.Given as goal

abbrev pub invariant-loop-self : goal.invariant-loop-self
invariant-loop-self g l = record {
  first : l.self.first ≡ l.fn.self.first;
  order : l.fn.self.end ≤ l.self.end;
  beside : g.S.Supply.beside l.supply ≡ g.S.Supply.beside l.fn.supply;
  held : (samples : List ℤ) → HoldsDifferences samples l.fn.self → g.S.Supply.supplies l.fn.supply samples l.fn.self.end
      → HoldsDifferences samples l.self × g.S.Supply.supplies l.supply samples l.self.end;
}

abbrev pub decreases-loop-self : goal.decreases-loop-self
decreases-loop-self g l = 7056 - (l.self.end - l.self.first)
