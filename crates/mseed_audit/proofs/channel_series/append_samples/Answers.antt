use Rattle.std.proofs.Common.{◌≡◌, ◌∙◌, ◌+◌, ◌-◌, ◌≤◌, ◌++◌, ℤ, ℕ, List, length, take, drop, ap, sym, arith}
use Rattle.std.proofs.Common.{length-append, length-drop, length-take}
use Rattle.std.proofs.lemmas.List.{take-append-le, take-take, take_all}
use Rattle.std.proofs.lemmas.Slice.{take-put_mid}
use Rattle.std.proofs.lemmas.Bool.{false≢true}
use borrow.Rule.Slice.PartMut.{post_of, put_mid}
use Rattle.mseed_audit.proofs.channel_series.append_samples.Goals as goal

pub unreachable-requires : goal.unreachable-requires
unreachable-requires g c = false≢true (c.in-Err.ensures.only c.requires.samples c.requires.whole).0

-- what a list that became longer begins with
kept_first : (items now filling : List ℤ) (have n : ℕ) → now ≡ take n items ++ filling → have ≤ n
    → have ≡ length items → take have now ≡ items
kept_first items now filling have n same few is =
    ap (λ (xs : List ℤ). take have xs) same
    ∙ (take-append-le have (take n items) filling (omega (arith, length-take n items))
    ∙ (take-take have n items few ∙ take_all have items (omega arith)))

-- the samples stand after it
filled : (items room now out rest : List ℤ) (have size : ℕ) → now ≡ room → take have room ≡ items → have ≤ length now
    → size ≡ length now → length out ≡ length now - have
    → take size (put_mid have (length now - have) now out ++ rest) ≡ items ++ out
filled items room now out rest have size is first within all long =
    let after : List ℤ = post_of have (length now - have) now in
    take-append-le size (put_mid have (length now - have) now out) rest
    (omega (arith, length-append (take have now) (out ++ after), length-append out after, length-take have now))
    ∙ (take-put_mid have (length now - have) now out size (omega arith) within
    ∙ ap (λ (xs : List ℤ). xs ++ out) (ap (λ (xs : List ℤ). take have xs) is ∙ first))

pub returns-clause-added : goal.returns-clause-added
returns-clause-added g c =
    let now : List ℤ = c.deref_mut.result.now in
    let out : List ℤ = c.fill_samples.new.out in
    let have : ℕ = c.len-before.result in
    let items : List ℤ = c.args.samples.now.items in
    let first : take have c.resize.new.self.items ≡ items =
    kept_first items c.resize.new.self.items _ have (have + c.from.result) c.in_ok-resize.ensures.items (omega arith)
    (omega (arith, c.len-before.ensures)) in
    let within : have ≤ length now = omega (arith, c.deref_mut.ensures.len, c.in_ok-resize.ensures.len) in
    let taken = length-take (length now - have) (drop have now) in
    let long : length out ≡ length now - have = omega (arith, c.fill_samples.auto.out, taken, length-drop have now) in
    let whole = filled items c.resize.new.self.items now out _ have c.resize.new.self.len c.deref_mut.ensures.value
    first within (sym c.deref_mut.ensures.len) long in
    (out, (c.in-Ok.ensures.reading, whole))
