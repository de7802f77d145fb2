use Rattle.std.proofs.Common.{◌≡◌, ◌-◌, ◌++◌, ◌∷◌, ◌∙◌, ℕ, [], arith, ap, length, length-append}
use Rattle.std.proofs.Common.{Err, Ok, map, refl, rules, take}
use Rattle.std.proofs.lemmas.List.{length-take-le}
use Rattle.mseed_steim.specs.private.Digits.{digits}
use Rattle.mseed_steim.specs.private.Items.{Items}
use Rattle.mseed_steim.specs.private.Reads.{as_data}
use Rattle.mseed_steim.specs.Runs.{place_of}
use Rattle.mseed_steim.proofs.Spelled.{length-digits}
use Rattle.mseed_steim.proofs.Walking.{items_group, items_bad}
use Rattle.mseed_steim.proofs.Folded.{first_items, items_on}
use Rattle.mseed_steim.proofs.walk.find_lack.Goals as goal

pub loop-word-init : goal.loop-word-init
loop-word-init c = record { met = c.requires; same = ([], (search rules, refl)) }

pub returns-in_default : goal.returns-in_default
returns-in_default c =
    let done = c.loop-word.invariant.same in
    let bad = items_bad c.args.scheme c.loop-word.word-iterator c.next.new.self (as_data c.in-Some.word)
    c.in-Some.ensures.steps c.in_default.ensures in (
      done.0,
      (
        Err (place_of (as_data c.in-Some.word)) ∷ [],
        (
          done.1.0 ∙ ap (λ (xs : Items). map Ok done.0 ++ xs) bad,
          tt,
          omega (arith, done.1.1, c.loop-word.invariant.met),
          refl,
        ),
      ),
    )

pub returns-then-samples-met : goal.returns-then-samples-met
returns-then-samples-met c =
    let done = c.loop-word.invariant.same in
    let group = c.in-Some-group_of.group in
    let ds = digits group.width c.in-Some.word.bits group.count in
    let step = items_group c.args.scheme c.loop-word.word-iterator c.next.new.self (as_data c.in-Some.word) ds
    c.in-Some.ensures.steps c.in-Some-group_of.ensures in
    let count = length-digits group.width c.in-Some.word.bits group.count in
    let k : ℕ = c.args.samples - c.loop-word.met in
    let long : length (take k ds) ≡ k = length-take-le k ds (omega (arith, count)) in
    let met = c.loop-word.invariant.met in (
      done.0 ++ take k ds,
      (
        _,
        (
          first_items _ _ done.0 ds k (items_on _ _ _ done.0 ds done.1.0 step),
          length-append done.0 (take k ds) ∙ omega (arith, long, done.1.1, met),
        ),
      ),
    )

pub loop-word-preserved : goal.loop-word-preserved
loop-word-preserved c =
    let done = c.loop-word.invariant.same in
    let group = c.in-Some-group_of.group in
    let ds = digits group.width c.in-Some.word.bits group.count in
    let step = items_group c.args.scheme c.loop-word.word-iterator c.next.new.self (as_data c.in-Some.word) ds
    c.in-Some.ensures.steps c.in-Some-group_of.ensures in
    let count = length-digits group.width c.in-Some.word.bits group.count in
    record {
      met = omega arith;
      same = (
        done.0 ++ ds,
        (items_on _ _ _ done.0 ds done.1.0 step, length-append done.0 ds ∙ omega (arith, count, done.1.1)),
      );
    }
