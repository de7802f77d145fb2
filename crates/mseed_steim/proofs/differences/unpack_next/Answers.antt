use Rattle.std.proofs.Common.{◌≡◌, ◌∙◌, ◌++◌, ◌∷◌, List, ℤ, Ok, true, ap, sym, length, map, w32, FitsSigned, rules}
use Rattle.std.proofs.Common.{arith}
use Rattle.std.proofs.lemmas.Int.{to_z-of_z}
use Rattle.mseed_steim.specs.private.Digits.{digits}
use Rattle.mseed_steim.specs.private.Items.{items_of}
use Rattle.mseed_steim.specs.private.Reads.{as_data}
use Rattle.mseed_steim.proofs.Spelled.{length-digits}
use Rattle.mseed_steim.proofs.Unpacking.{nothing_taken, past_begins, some_of}
use Rattle.mseed_steim.proofs.Walking.{items_group, items_bad, no_items}
use Rattle.mseed_steim.proofs.differences.unpack_next.Goals.{After-is_empty}
use Rattle.mseed_steim.specs.ByteRuns.{past_empty}
use Rattle.mseed_steim.proofs.differences.unpack_next.Goals as goal

-- no run comes next
none_taken : (c : After-is_empty) → c.is_empty.result ≡ true → c.pass_empty.new.words ≡ c.take_bytes-bytes.new.self
none_taken c e = search (arith, nothing_taken)

pub returns-in_err-word-clause-step : goal.returns-in_err-word-clause-step
returns-in_err-word-clause-step c = search (arith, no_items, none_taken)

pub returns-in_err-next-in-Some-clause-step : goal.returns-in_err-next-in-Some-clause-step
returns-in_err-next-in-Some-clause-step c =
    let same = none_taken (goal.at.returns-in_err-next-in-Some-clause-step c).After-is_empty c.if-not-is_empty.false in
    let word = c.in_ok-word.word in
    let ds : List ℤ = digits c.in-Some.group.width word.bits c.in-Some.group.count in
    let drawn = rw c.in_err-next-in-Some.was at c.next-in-Some.ensures in
    let prefix : past_empty c.args.words.now ≡ as_data word ∷ c.next-2.new.self = sym c.pass_empty.ensures.past ∙ same
    ∙ c.in_ok-word.ensures.steps in
    let other = rw prefix at (past_begins c.args.words.now) in
    let some = some_of c.args.scheme word.code word.bits ds other c.in-Some.ensures in
    let none : length ds ≡ 0 = ap length (sym c.set_group.ensures ∙ drawn.0) in
    absurd (omega (arith, some, none))

pub returns-in_ok-next-in-Some-clause-step : goal.returns-in_ok-next-in-Some-clause-step
returns-in_ok-next-in-Some-clause-step c =
    let same = none_taken (goal.at.returns-in_ok-next-in-Some-clause-step c).After-is_empty c.if-not-is_empty.false in
    let fits : FitsSigned w32 c.in_ok-next-in-Some.field-0 = search rules in
    let word = c.in_ok-word.word in
    let group = c.in-Some.group in
    let ds : List ℤ = digits group.width word.bits group.count in
    let cut = rw c.in_ok-next-in-Some.was at c.next-in-Some.ensures in
    let all : ds ≡ c.in_ok-next-in-Some.field-0 ∷ c.next-in-Some.new.self = sym c.set_group.ensures ∙ cut in
    let step = items_group c.args.scheme c.take_bytes-bytes.new.self c.next-2.new.self (as_data word) ds
    c.in_ok-word.ensures.steps c.in-Some.ensures in
    let size = length-digits group.width word.bits group.count in
    let count = ap length all in
    let words = ap length (same ∙ c.in_ok-word.ensures.steps) in
    let few = group.few in
    let fewer = c.pass_empty.ensures.fewer in
    rw to_z-of_z (
      c.pass_empty.ensures.items c.args.scheme ∙ ap (items_of c.args.scheme) same ∙ step
          ∙ ap (λ (zs : List ℤ). map Ok zs ++ items_of c.args.scheme c.next-2.new.self) all,
      omega (arith, size, count, words, few, fewer),
    )

pub returns-in-None-clause-step : goal.returns-in-None-clause-step
returns-in-None-clause-step c =
    let same = none_taken (goal.at.returns-in-None-clause-step c).After-is_empty c.if-not-is_empty.false in
    let bad = items_bad c.args.scheme c.take_bytes-bytes.new.self c.next-2.new.self (as_data c.in_ok-word.word)
    c.in_ok-word.ensures.steps c.in-None.ensures in
    let words = ap length (same ∙ c.in_ok-word.ensures.steps) in
    let fewer = c.pass_empty.ensures.fewer in (
      c.pass_empty.ensures.items c.args.scheme ∙ ap (items_of c.args.scheme) same ∙ bad,
      c.pass_all.ensures,
      c.requires,
      omega (arith, words, fewer),
    )
