use Rattle.std.proofs.Common.{◌≡◌, ◌∙◌, false, sym, true}
use Rattle.mseed_words.proofs.Taken.{refused_for}
use Rattle.mseed_words.proofs.words.refusal_of.Goals as goal

pub returns-in-Ok : goal.returns-in-Ok
returns-in-Ok c kinds reading has = refused_for kinds reading c.args.error.now (λ memory.
    let is : c.eq.result ≡ true = rw (c.kind.ensures ∙ memory) at c.eq.ensures in
    let bad : true ≡ false = sym is ∙ c.if-eq.false in cc bad) has
