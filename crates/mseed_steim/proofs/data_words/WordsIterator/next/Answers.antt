use Rattle.std.proofs.Common.{◌≡◌, ◌≢◌, suc, ◌+◌, ◌-◌, ◌*◌, ◌/◌, ◌%◌, ◌<◌, ◌∙◌, ◌∷◌, arith, sym, rules}
use Rattle.mseed_steim.specs.Frames.{data_word, word_at, words_from}
use Rattle.mseed_steim.proofs.Walking.{words_none, words_skip, words_step}
use Rattle.mseed_steim.proofs.data_words.WordsIterator.next.Goals.{After-read_word-bits, then-self-eq0, else-self-eq0}
use Rattle.mseed_steim.proofs.data_words.WordsIterator.next.Goals as goal

pub returns-then-self-clause-steps : goal.returns-then-self-clause-steps
returns-then-self-clause-steps c =
    let over : c.self.inside.end - c.self.inside.next ≡ 0 = omega arith in
    grind (arith, words_none)

-- the frame's codes are at hand, and a data word is next
at_word : (c : After-read_word-bits) → let i = c.if-self-eq0.self-inside in
    (c.args.self.now ≡ words_from i.payload.now i.next (i.end - i.next)) × (i.next < i.end) × (i.next % 16 ≢ 0)
    × (i.codes ≡ word_at i.payload.now (16 * (i.next / 16)))
at_word c = elim c.if-self-eq0.branch [
  | then-self-eq0 w ↦
      let more : c.self.inside.end - c.self.inside.next ≡ suc (c.self.inside.end - (c.self.inside.next + 1)) =
      omega arith in
      let head : 16 * ((c.self.inside.next + 1) / 16) ≡ c.self.inside.next = omega arith in
      let skip : words_from c.self.inside.payload.now c.self.inside.next (c.self.inside.end - c.self.inside.next)
      ≡ words_from c.self.inside.payload.now (c.self.inside.next + 1)
      (c.self.inside.end - (c.self.inside.next + 1)) =
      rw more (words_skip c.self.inside.payload.now c.self.inside.next (c.self.inside.end - (c.self.inside.next + 1))
      w.if-self-eq0.true) in
      let whole : c.args.self.now ≡ words_from c.self.inside.payload.now (c.self.inside.next + 1)
      (c.self.inside.end - (c.self.inside.next + 1)) = sym c.self.view_is ∙ skip in
      rw (w.self-inside-is, head) (whole, omega arith, (λ e. omega arith), w.read_word-self-inside.ensures)
  | else-self-eq0 w ↦ rw w.self-inside-is (
    sym c.self.view_is,
    omega arith,
    w.if-self-eq0.false,
    c.self.invariant.3 w.if-self-eq0.false,
  )
]

pub returns-clause-steps : goal.returns-clause-steps
returns-clause-steps c =
    let i = c.if-self-eq0.self-inside in
    let at = at_word (goal.at.returns-clause-steps c).After-read_word-bits in
    let more : i.end - i.next ≡ suc (i.end - (i.next + 1)) = omega arith in
    let step : words_from i.payload.now i.next (i.end - i.next) ≡ data_word i.payload.now i.next
    ∷ words_from i.payload.now (i.next + 1) (i.end - (i.next + 1)) =
    rw more (words_step i.payload.now i.next (i.end - (i.next + 1)) at.2) in
    rw (c.code_in-code.ensures.value, at.3, c.read_word-bits.ensures) (at.0 ∙ step)

pub returns-clause-goes : goal.returns-clause-goes
returns-clause-goes c = rw (returns-clause-steps c) (search rules)
