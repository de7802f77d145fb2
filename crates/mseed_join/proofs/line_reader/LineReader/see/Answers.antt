use Rattle.std.proofs.Common.{◌<◌, ◌≤◌, ◌-◌, ◌∙◌, List, ℕ, length, slice_range, take, drop, ap, subst}
use Rattle.mseed_join.specs.Joined.{HasNoEnd}
use Rattle.mseed_join.specs.private.LineReading.{IsLineAhead, LinesRead}
use Rattle.mseed_join.proofs.LineEnds.{no_end_in_few}
use Rattle.mseed_join.proofs.line_reader.LineReader.see.Goals as goal

pub returns-in-None-2-clause-none : goal.returns-in-None-2-clause-none
returns-in-None-2-clause-none g c =
    let held : List ℕ → List ℕ = λ xs. take (c.self.inside.end - c.self.inside.begin) (drop c.self.inside.begin xs) in
    let same = ap held c.deref.ensures.value ∙ ap (λ (r : LinesRead). r.held) c.self.view_is in
    subst (λ (xs : List ℕ). (length xs < 512) × HasNoEnd xs) same
    (c.if-is_long.false, no_end_in_few (held c.deref.result.now) c.if-is_long.false c.in-None-2.ensures.none)

pub returns-in-None-clause-some : goal.returns-in-None-clause-some
returns-in-None-clause-some g c =
    let same = ap (λ (xs : List ℕ). slice_range xs c.self.inside.begin c.self.inside.end) c.deref.ensures.value
    ∙ ap (λ (r : LinesRead). r.held) c.self.view_is in
    subst (λ (xs : List ℕ). HasNoEnd (take 512 xs) × (512 ≤ length xs)) same
    (c.in-None.ensures.none, c.if-is_long.true)

pub returns-in-Some-clause-some : goal.returns-in-Some-clause-some
returns-in-Some-clause-some g c =
    subst (λ (xs : List ℕ). IsLineAhead c.in-Some.size (slice_range xs c.self.inside.begin c.self.inside.end))
    c.deref.ensures.value c.in-Some.ensures.some
