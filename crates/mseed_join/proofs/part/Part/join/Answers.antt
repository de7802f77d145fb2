use Rattle.std.proofs.Common.{◌≡◌, ◌<◌, ◌∙◌, ℕ, suc, List, length, subst, sym, ap, arith, rules}
use Rattle.std.specs.List.{All}
use Rattle.std.specs.Map.{values_of}
use Rattle.mseed_join.specs.declared.part.PartFault.TheVariants.{Limit, Memory}
use Rattle.mseed_join.specs.Parts.{Fits, Held, IsAscending, IsJoint, counts_alone}
use Rattle.mseed_audit.proofs.ByKey.{by_key_ascends, itself, placed_by_key}
use Rattle.mseed_audit.proofs.Rosters.{made_at}
use Rattle.mseed_join.proofs.Adding.{Entries}
use Rattle.mseed_join.proofs.JoinedParts.{joint_is}
use Rattle.mseed_join.proofs.Keeping.{turns_next}
use Rattle.mseed_join.proofs.Turns.{InTurn, all_fit, counts_fit, counts_join, first_fits, first_new, same_error}
use Rattle.mseed_join.proofs.Turns.{turns_begin, turns_more}
use Rattle.mseed_join.proofs.part.Part.join.Goals as goal

pub loop-codes-init : goal.loop-codes-init
loop-codes-init g c =
    let ps : List (List ℕ × ℕ) = c.places.result.now.entries in
    let es : Entries = c.as_slice-channels.result.now in
    let slice : es ≡ c.other.inside.kept = search rules in
    let all : c.into_iter-codes-iterator.result ≡ ps = search rules in
    let are = ap (λ (fs : Entries). made_at itself fs ps) slice ∙ placed_by_key ps c.other.inside.kept c.places.ensures
    ∙ ap (λ (h : Held). h.channels) c.other.view_is in
    let ascending = subst (λ (h : Held). IsAscending h.channels) c.other.view_is (by_key_ascends c.other.inside.kept) in
    let begun = subst (λ (rest : Entries). InTurn c.args.self c.args.other.now c.args.self rest) (sym are)
    (turns_begin c.args.self c.args.other.now ascending) in
    let within : All (λ i. i < length es) (values_of ps) =
    subst (λ (fs : Entries). All (λ i. i < length fs) (values_of ps)) (sym slice) c.places.ensures.places.within in (
      subst (λ (qs : List (List ℕ × ℕ)). InTurn c.args.self c.args.other.now c.args.self (made_at itself es qs))
          (sym all) begun,
      subst (λ (qs : List (List ℕ × ℕ)). All (λ i. i < length es) (values_of qs)) (sym all) within,
    )

pub loop-codes-preserved : goal.loop-codes-preserved
loop-codes-preserved g c =
    let es : Entries = c.as_slice-channels.result.now in
    let before = rw c.in-Some.ensures.steps at c.loop-codes.invariant in
    let next = turns_next c.args.self c.args.other.now c.loop-codes.joint c.in-Some.codes.now c.in-Some.index.now
    c.next.new.self es c.index-channels-index.result before.0 before.1 (search rules) in (
      turns_more c.args.self c.args.other.now c.loop-codes.joint _ (made_at itself es c.next.new.self) next
          c.add_channel.new.self c.in-Ok.ensures.joined c.in-Ok.ensures.fits,
      λ k d l. before.1 (suc k) d (omega (arith, l)),
    )

pub returns-in-Err-clause-limit : goal.returns-in-Err-clause-limit
returns-in-Err-clause-limit g c = λ limit fit.
    let es : Entries = c.as_slice-channels.result.now in
    let before = rw c.in-Some.ensures.steps at c.loop-codes.invariant in
    let next = turns_next c.args.self c.args.other.now c.loop-codes.joint c.in-Some.codes.now c.in-Some.index.now
    c.next.new.self es c.index-channels-index.result before.0 before.1 (search rules) in
    c.in-Err.ensures.limit (same_error c.in-Err.fault Limit limit)
    (first_fits c.args.self c.args.other.now c.loop-codes.joint _ (made_at itself es c.next.new.self) next fit)

pub returns-in-Err-clause-memory : goal.returns-in-Err-clause-memory
returns-in-Err-clause-memory g c = λ memory.
    let es : Entries = c.as_slice-channels.result.now in
    let before = rw c.in-Some.ensures.steps at c.loop-codes.invariant in
    let next = turns_next c.args.self c.args.other.now c.loop-codes.joint c.in-Some.codes.now c.in-Some.index.now
    c.next.new.self es c.index-channels-index.result before.0 before.1 (search rules) in
    first_new c.args.self c.args.other.now c.loop-codes.joint _ (made_at itself es c.next.new.self) next
    (c.in-Err.ensures.memory (same_error c.in-Err.fault Memory memory))

pub returns-in-Ok-add_counts-clause-joint : goal.returns-in-Ok-add_counts-clause-joint
returns-in-Ok-add_counts-clause-joint g c =
    let all = rw c.in-None.ensures.steps.0 at c.loop-codes.invariant.0 in
    counts_join c.args.self c.args.other.now c.loop-codes.joint all c.add_counts.new.self
    (subst (λ (h : Held). IsJoint c.loop-codes.joint (counts_alone h.records h.bytes) c.add_counts.new.self)
    c.other.view_is c.in-Ok-add_counts.ensures.joined)

pub returns-in-Ok-add_counts-clause-adds_up : goal.returns-in-Ok-add_counts-clause-adds_up
unfolding returns-in-Ok-add_counts-clause-joint
returns-in-Ok-add_counts-clause-adds_up g c = λ xs ys p q.
    joint_is c.one_finding.ensures.of_one c.args.self c.args.other.now c.add_counts.new.self xs ys p q
    (returns-in-Ok-add_counts-clause-joint g c)

pub returns-in-Ok-add_counts-clause-fits : goal.returns-in-Ok-add_counts-clause-fits
returns-in-Ok-add_counts-clause-fits g c =
    let all = rw c.in-None.ensures.steps.0 at c.loop-codes.invariant.0 in
    all_fit c.args.self c.args.other.now c.loop-codes.joint all
    (subst (λ (h : Held). Fits c.loop-codes.joint (counts_alone h.records h.bytes)) c.other.view_is
    c.in-Ok-add_counts.ensures.fits)

pub returns-in-Err-add_counts-clause-limit : goal.returns-in-Err-add_counts-clause-limit
returns-in-Err-add_counts-clause-limit g c = λ limit fit.
    let all = rw c.in-None.ensures.steps.0 at c.loop-codes.invariant.0 in
    subst (λ (h : Held). Fits c.loop-codes.joint (counts_alone h.records h.bytes) → ⊥) c.other.view_is
    c.in-Err-add_counts.ensures.limit
    (counts_fit c.args.self c.args.other.now c.loop-codes.joint all fit)

pub returns-in-Err-add_counts-clause-memory : goal.returns-in-Err-add_counts-clause-memory
returns-in-Err-add_counts-clause-memory g c = λ memory.
    absurd (c.in-Err-add_counts.ensures.fault (same_error c.in-Err-add_counts.fault Memory memory))

pub bounds-channels-index : goal.bounds-channels-index
bounds-channels-index g c =
    let within = rw c.in-Some.ensures.steps at c.loop-codes.invariant.1 in within 0 0 (omega arith)
