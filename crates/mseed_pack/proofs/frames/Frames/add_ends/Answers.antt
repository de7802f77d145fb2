use Rattle.std.proofs.Common.{◌≡◌, ◌+◌, ◌-◌, ℕ, pos, ap, arith, get_or, rules, w32, ◌∙◌}
use Rattle.std.proofs.lemmas.Int.{to_z-of_z}
use Rattle.mseed_pack.proofs.frames.Frames.add_ends.Goals as goal

pub returns-clause-ends : goal.returns-clause-ends
returns-clause-ends c = λ xs h fit before.
    let is = to_z-of_z w32 c.args.self.now.before (search rules) ∙ before in
    let at : c.args.place + 1 - 1 ≡ c.args.place = omega arith in
    record {
      first_is = to_z-of_z w32 _ (search rules) ∙ c.sample_before.ensures xs h fit is
          ∙ ap (λ (n : ℕ). get_or xs n (pos 0)) at;
      last_is = to_z-of_z w32 _ (search rules)
          ∙ c.sample_before-2.ensures xs h fit (c.nearest-index.ensures.mark xs h is);
    }
