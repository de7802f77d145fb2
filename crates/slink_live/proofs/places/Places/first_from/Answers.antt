use Rattle.std.proofs.Common.{◌≡◌, ◌∙◌, ◌/◌, ◌^◌, ◌<◌, ℕ, ap, arith, subst, sym, IfSome, Option, Some, None}
use Rattle.std.specs.Int.{bit_at}
use Rattle.slink_live.specs.History.{IsEarlier}
use Rattle.slink_live.proofs.Firsts.{few_after, first_before, first_beyond, has_after}
use Rattle.slink_live.proofs.places.Places.first_from.Goals as goal

if_some : (o : Option ℕ) (P Q : ℕ → Type 0) → ((k : ℕ) → P k → Q k) → IfSome o P → IfSome o Q
if_some None P Q f h = tt
if_some (Some k) P Q f h = f k h

pub overflow_add-result : goal.overflow_add-result
overflow_add-result c =
    let few = few_after c.bits_from-rest.result c.args.from c.in-Some.k c.bits_from-rest.ensures.none
    c.in-Some.ensures.some.0 in omega (arith, few, c.in-Some.ensures.few)

pub returns-in-Some : goal.returns-in-Some
returns-in-Some c =
    let rest : c.bits_from-rest.result ≡ c.args.self.bits / 2 ^ c.args.from =
    c.bits_from-rest.ensures.value ∙ ap (λ n. n / 2 ^ c.args.from) c.from-bits.ensures in
    let lowest = rw rest at c.in-Some.ensures.some in
    record {
      some = has_after c.args.self.bits c.args.from c.in-Some.k lowest.0;
      first = first_beyond c.args.self.bits c.args.from c.in-Some.k lowest.1;
      none = tt;
    }

pub returns-in-None-clause-first : goal.returns-in-None-clause-first
returns-in-None-clause-first c =
    let rest : c.bits_from-rest.result ≡ c.args.self.bits / 2 ^ c.args.from =
    c.bits_from-rest.ensures.value ∙ ap (λ n. n / 2 ^ c.args.from) c.from-bits.ensures in
    if_some c.lowest-in-None.result
    (λ k. (bit_at c.from-bits.result k ≡ 1) × ((j : ℕ) → j < k → bit_at c.from-bits.result j ≡ 0))
    (λ k. (j : ℕ) → IsEarlier c.args.from j k → ¬ (bit_at c.args.self.bits j ≡ 1))
    (λ k h. first_before c.args.self.bits c.args.from k (sym rest ∙ c.in-None.ensures.none)
    (subst (λ n. (i : ℕ) → i < k → bit_at n i ≡ 0) c.from-bits.ensures h.1)) c.lowest-in-None.ensures.some
