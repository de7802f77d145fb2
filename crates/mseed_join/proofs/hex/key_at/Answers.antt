use Rattle.std.proofs.Common.{◌≡◌, ◌∙◌, ℕ, List, [], ◌++◌, Some, drop, length, sym, ap, arith, rules}
use Rattle.std.specs.Option.{option_map}
use Rattle.mseed_join.specs.private.Reading.{bytes_at}
use Rattle.std.proofs.lemmas.List.{take_rest}
use Rattle.std.proofs.NetLemmas.Arrays.{four_items}
use Rattle.mseed_join.proofs.HexPairs.{eight_read, key_read, too_few}
use Rattle.mseed_join.proofs.hex.key_at.Goals as goal

pub returns-then-bytes-lt-DIGITS : goal.returns-then-bytes-lt-DIGITS
returns-then-bytes-lt-DIGITS c =
    sym (too_few 12 [] c.args.bytes.now (omega (arith, c.if-bytes-lt-DIGITS.true)))

pub returns-in_err-a : goal.returns-in_err-a
returns-in_err-a c =
    ap (option_map (λ x. (x.0, x.1.now))) c.from_residual.ensures ∙ sym (c.in_err-a.ensures.none 8 [])

pub returns-in_err-e : goal.returns-in_err-e
returns-in_err-e c =
    ap (option_map (λ x. (x.0, x.1.now))) c.from_residual-in_err-e.ensures
    ∙ sym (c.in_ok-a.ensures.some 8 []
    ∙ ap (λ (xs : List ℕ). bytes_at 8 c.in_ok-a.field-0 xs) (sym (take_rest c.args.bytes.now 8))
    ∙ c.in_err-e.ensures.none 4 c.in_ok-a.field-0)

pub returns-in_err-i : goal.returns-in_err-i
returns-in_err-i c =
    let two : List ℕ = c.in_ok-a.field-0 ++ c.in_ok-e.field-0 in
    ap (option_map (λ x. (x.0, x.1.now))) c.from_residual-in_err-i.ensures
    ∙ sym (eight_read c.args.bytes.now c.in_ok-a.field-0 c.in_ok-e.field-0 c.in_ok-a.ensures.some
    c.in_ok-e.ensures.some
    ∙ ap (λ (xs : List ℕ). bytes_at 4 two xs) (sym (take_rest c.args.bytes.now 16))
    ∙ c.in_err-i.ensures.none 0 two)

pub returns : goal.returns
returns c =
    let x : List ℕ = c.in_ok-a.field-0 in
    let y : List ℕ = c.in_ok-e.field-0 in
    let z : List ℕ = c.in_ok-i.field-0 in
    let a : length x ≡ 4 = search rules in
    let b : length y ≡ 4 = search rules in
    let d : length z ≡ 4 = search rules in
    (λ i. Some (c.of_key.ensures i, take_rest c.args.bytes.now 24 i))
    ∙ sym (key_read c.args.bytes.now x y z c.in_ok-a.ensures.some c.in_ok-e.ensures.some c.in_ok-i.ensures.some
    ∙ (λ i. Some ((four_items x a i ++ four_items y b i) ++ four_items z d i, drop 24 c.args.bytes.now)))
