use Rattle.std.proofs.Common.{◌≤◌, List, ℕ, length, arith, sym, ◌∙◌}
use Rattle.std.proofs.lemmas.List.{take_rest}
use Rattle.mseed_select.proofs.Pieces.{piece_on, piece_star}
use Rattle.mseed_select.proofs.matching.+piece_of.Goals as goal

pub returns-then-c-eq42 : goal.returns-then-c-eq42
returns-then-c-eq42 t c =
    let field : List ℕ = c.args.field.now in
    let some : 1 ≤ length field = omega arith in
    rw (take_rest field 1) (piece_star field c.args.code.now some c.if-c-eq42.true)

pub returns-in-len1-up-code : goal.returns-in-len1-up-code
returns-in-len1-up-code t c =
    let field : List ℕ = c.args.field.now in
    let code : List ℕ = c.args.code.now in
    let after = rw (take_rest field 1) at c.piece_of.ensures in
    let both = rw (take_rest code 1) at after in
    piece_on c.piece_of.result field code (omega arith) c.if-c-eq42.false (omega arith)
    (sym c.takes.ensures ∙ c.if-takes.true) both
