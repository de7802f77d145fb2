use Rattle.std.proofs.Common.{◌≡◌, ◌∙◌, arith, rules}
use Rattle.std.proofs.lemmas.Bool.Decides.{nat_tests}
use Rattle.mseed_record.specs.Header.{blockette_at}
use Rattle.mseed_record.proofs.Passing.{record_room}
use Rattle.mseed_record.proofs.Whole.{goes_on_within, left_first, left_next, left_last}
use Rattle.mseed_record.proofs.chain.blockettes_by.Goals as goal

pub u16_at-requires : goal.u16_at-requires
u16_at-requires c = omega (arith, record_room _ _ _ _ c.requires.1.1)

pub chain-init : goal.chain-init
chain-init c =
    let room = record_room _ _ _ _ c.requires.1.1 in
    let first : c.from-offset.result ≡ blockette_at c.args.order c.args.bytes.now =
    c.from-offset.ensures ∙ c.u16_at.ensures in
    rw first (omega arith, grind (arith, nat_tests, room), left_first c.args.order c.args.bytes.now, tt)

pub chain-preserved : goal.chain-preserved
chain-preserved c =
    let goes = c.in-Some.ensures in
    let on = goes_on_within c.args.order c.args.bytes.now c.chain.offset goes.0 in (
      rw goes.1 on.1,
      rw goes.1 on.2,
      λ os last r. let it = c.chain.invariant.2 os last r in
          let left = left_next _ _ _ c.chain.found _ _ c.and-found.result c.u16_at-in-chain.ensures
          c.and-found.ensures.first_1001 c.and-found.ensures.has_100 it.1.1.0 _ it.1.1.1 goes.0 goes.1 in
          (it.0, (it.1.0, left)),
      search rules,
    )

pub returns-in-None-clause-found : goal.returns-in-None-clause-found
returns-in-None-clause-found c os last r =
    let it = c.chain.invariant.2 os last r in
    let counts = left_last _ _ _ c.chain.found _ _ c.and-found.result c.u16_at-in-chain.ensures
    c.and-found.ensures.first_1001 c.and-found.ensures.has_100 it.1.1.0 it.1.1.1 c.in-None.ensures in
    (it.0, (it.1.0, counts))
