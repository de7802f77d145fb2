use Rattle.std.proofs.Common.{◌≤◌, ◌+◌, ◌++◌, ◌∙◌, List, ℕ, length, ap, arith}
use Rattle.std.proofs.lemmas.List.{length-take-le}
use Rattle.mseed_text.specs.Name.{code_text}
use Rattle.mseed_text.proofs.Codes.{code_kept, kept_fits}
use Rattle.mseed_text.proofs.line.Line.put_code.Goals as goal

pub invariant_of-self : goal.invariant_of-self
invariant_of-self c =
    let kept = kept_fits c.args.code.now c.trimmed.result.now c.trimmed.ensures in
    let within : c.self.inside.len ≤ length c.self.inside.bytes = omega (arith, c.self.told, c.self.invariant) in
    let size = length-take-le c.self.inside.len c.self.inside.bytes within in
    omega (arith, kept, c.requires, ap length c.self.view_is, size)

pub returns-clause-text : goal.returns-clause-text
returns-clause-text c =
    code_kept c.self.inside.bytes c.write_printed.new.room c.args.code.now c.trimmed.result.now c.self.inside.len
    (omega (arith, c.self.told, c.self.invariant)) c.trimmed.ensures c.write_printed.ensures
    ∙ ap (λ (xs : List ℕ). xs ++ code_text c.args.code.now) c.self.view_is

pub returns-clause-most : goal.returns-clause-most
returns-clause-most c =
    let kept = kept_fits c.args.code.now c.trimmed.result.now c.trimmed.ensures in
    let within : c.self.inside.len ≤ length c.self.inside.bytes = omega (arith, c.self.told, c.self.invariant) in
    let size = length-take-le c.self.inside.len c.self.inside.bytes within in
    let end : ℕ = c.self.inside.len + length c.trimmed.result.now in
    let fits : end ≤ length c.write_printed.new.room =
    omega (arith, kept, c.requires, ap length c.self.view_is, size, c.write_printed.array_long) in
    omega (arith, kept, ap length c.self.view_is, size, length-take-le end c.write_printed.new.room fits)
