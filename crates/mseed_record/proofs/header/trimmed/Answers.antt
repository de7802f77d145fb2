use Rattle.std.proofs.Common.{◌≡◌, ℕ, suc, ◌-◌, ◌<◌, ◌≤◌, take, drop, get_or, true, false, sym, ap}
use Rattle.std.proofs.Common.{◌∙◌, arith}
use Rattle.std.specs.List.{list_all}
use Rattle.mseed_record.specs.Header.{is_blank}
use Rattle.mseed_record.proofs.Trims.{trimmed_none, trimmed_is}
use Rattle.mseed_record.proofs.header.trimmed.Goals as goal

one_less : (n : ℕ) → 0 < n → suc (n - 1) ≡ n
one_less n some = omega arith

below : (n m : ℕ) → 0 < n → n ≤ m → n - 1 < m
below n m some within = omega arith

pub returns-then-not-is_blank : goal.returns-then-not-is_blank
returns-then-not-is_blank c =
    let end = c.loop-end.end in
    let last : suc (end - 1) ≡ end = one_less end c.loop-end-test.true in
    let blanks : list_all is_blank (drop (suc (end - 1)) c.args.code.now) ≡ true = rw last c.loop-end.invariant.1 in
    let other : is_blank (get_or c.args.code.now (end - 1) 0) ≡ false =
    sym c.is_blank.ensures ∙ c.if-not-is_blank.true in
    sym (trimmed_is c.args.code.now (end - 1) (below end _ c.loop-end-test.true c.loop-end.invariant.0) blanks other
    ∙ ap (λ (n : ℕ). take n c.args.code.now) last)

pub returns : goal.returns
returns c =
    let none : c.loop-end.end ≡ 0 = omega arith in
    let blanks = rw none at c.loop-end.invariant.1 in
    sym (trimmed_none c.args.code.now blanks)
