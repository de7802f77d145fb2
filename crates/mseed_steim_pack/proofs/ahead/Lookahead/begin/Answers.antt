use Rattle.std.proofs.Common.{◌≤◌, ◌∙◌, ◌++◌, arith, length, sym}
use Rattle.std.proofs.lemmas.Bool.{false≢true, lt-ltb}
use Rattle.mseed_steim_pack.proofs.Lookaheads.{known_first, known_past}
use Rattle.mseed_steim_pack.proofs.ahead.Lookahead.begin.Goals.{then-count-lt-AHEAD, else-count-lt-AHEAD}
use Rattle.mseed_steim_pack.proofs.ahead.Lookahead.begin.Goals as goal

pub returns-then-self-lt2 : goal.returns-then-self-lt2
returns-then-self-lt2 c = λ s ds more long is. known_past s c.args.self.now ds (ds ++ more) is

pub returns-else-self-lt2 : goal.returns-else-self-lt2
returns-else-self-lt2 c = λ s ds more long is.
    let enough : 128 ≤ length ds = elim c.if-count-lt-AHEAD.branch [
      | then-count-lt-AHEAD w ↦ absurd (false≢true
          (sym c.if-self-lt2.false ∙ w.value-is ∙ lt-ltb c.args.count 128 w.if-count-lt-AHEAD.true))
      | else-count-lt-AHEAD w ↦ omega (arith, w.if-count-lt-AHEAD.false, long)
    ] in
    let first = known_first s c.args.self.now ds more enough is in
    record { place = first.place; ahead = first.ahead; none = first.none; cut = first.cut }
