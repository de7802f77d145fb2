use Rattle.std.proofs.Common.{ℕ, eqb, sym}
use Rattle.mseed_select.proofs.Cuts.{part_alone, part_cut}
use Rattle.mseed_select.proofs.parts.first_part.Goals as goal

pub returns-in-Some : goal.returns-in-Some
returns-in-Some c =
    part_cut (λ (x : ℕ). eqb x c.args.separator) c.args.text.now c.in-Some.index (sym c.in-Some.ensures)

pub returns-in-None : goal.returns-in-None
returns-in-None c = part_alone (λ (x : ℕ). eqb x c.args.separator) c.args.text.now (sym c.in-None.ensures)
