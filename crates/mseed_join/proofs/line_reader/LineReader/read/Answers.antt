use Rattle.std.proofs.Common.{◌≡◌, ℕ, ◌+◌, ◌-◌, ◌≤◌, ◌<◌, ◌++◌, ◌∙◌, [], List, sym, ap, take, drop, length, slice_range}
use Rattle.std.proofs.Common.{arith, length-take, length-drop, true, false, ◌==◌, inl, inr, refl, Bool, Result, Ok, Err}
use Rattle.std.proofs.lemmas.Bool.{false≢true}
use Rattle.std.proofs.lemmas.Bool.Decides.{eqb_tells}
use Rattle.std.proofs.lemmas.List.{append-nil}
use Rattle.std.proofs.KnownBytes.{Consumes-nil, Consumes-kept}
use Rattle.mseed_stream.specs.Device.{BytesRead}
use Rattle.mseed_stream.specs.declared.fault.StreamFault.{StreamFault}
use Rattle.mseed_stream.proofs.Filled.{written_back}
use Rattle.mseed_join.specs.private.LineReading.{LinesRead}
use Rattle.mseed_join.proofs.LinesAhead.{failed_before, held_more, reading_on, reported_end}
use Rattle.mseed_join.proofs.line_reader.LineReader.read.Goals as goal

-- answers that are the same have the same value
ok_same : (a b : Bool) → ◌≡◌ {A = Result Bool StreamFault} (Ok a) (Ok b) → a ≡ b
ok_same a b same = cc

-- a fault is no answer
not_ok : (e : StreamFault) (b : Bool) → ◌≡◌ {A = Result Bool StreamFault} (Err e) (Ok b) → ⊥
not_ok e b same = cc

pub returns-in-Ok-clause-more : goal.returns-in-Ok-clause-more
returns-in-Ok-clause-more g c =
    let i = c.self.inside in
    let n : ℕ = c.in-Ok.n in
    let now : List ℕ = c.pull_after.new.buffer in
    let reported : List ℕ = take n (drop i.end now) in
    let size : length now ≡ i.buffer.len = c.pull_after.auto.buffer ∙ c.deref_mut.ensures.len in
    let same : take i.end now ≡ take i.end i.buffer.items = c.in-Ok.ensures.before
    ∙ ap (λ (xs : List ℕ). take i.end xs) c.deref_mut.ensures.value in
    let left : length (drop i.end now) ≡ length now - i.end = length-drop i.end now in
    let room : i.end + n ≤ length now = omega (arith, c.in-Ok.ensures.bound, c.pull_after.auto.buffer) in
    let low : i.begin ≤ i.end = omega (arith, c.self.invariant.1) in
    record {
      more = reported;
      called = 1;
      reported = ap (λ (h : BytesRead). h.bytes) c.in-Ok.ensures.read;
      known = c.in-Ok.ensures.known.0;
      held = ap (λ (xs : List ℕ). slice_range xs i.begin (i.end + n))
          (written_back now i.buffer.items i.buffer.len size)
          ∙ (held_more i.buffer.items now i.begin i.end n same low (omega (arith, room))
          ∙ ap (λ (r : LinesRead). r.held ++ reported) c.self.view_is);
      lines = ap (λ (r : LinesRead). r.lines) c.self.view_is;
      bytes = omega (
        arith,
        length-take n (drop i.end now),
        left,
        room,
        ap (λ (r : LinesRead). r.bytes) c.self.view_is,
      );
      calls = ap (λ (h : BytesRead). h.calls) c.in-Ok.ensures.read;
      reads = ap (λ (r : LinesRead). r.reads + 1) c.self.view_is;
    }

pub returns-in-Err-clause-more : goal.returns-in-Err-clause-more
returns-in-Err-clause-more g c =
    let i = c.self.inside in
    let now : List ℕ = c.pull_after.new.buffer in
    let old : BytesRead = g.R.Source.read c.args.source.now in
    let size : length now ≡ i.buffer.len = c.pull_after.auto.buffer ∙ c.deref_mut.ensures.len in
    let same : take i.end now ≡ take i.end i.buffer.items = c.in-Err.ensures.before
    ∙ ap (λ (xs : List ℕ). take i.end xs) c.deref_mut.ensures.value in
    let low : i.begin ≤ i.end = omega (arith, c.self.invariant.1) in
    let high : i.end ≤ length now = omega (arith, size, c.self.invariant.0, c.self.invariant.2) in
    let end : i.end ≡ i.end + 0 = omega arith in
    record {
      more = [];
      called = 1;
      reported = ap (λ (h : BytesRead). h.bytes) c.in-Err.ensures.read;
      known = Consumes-kept _ _ _ [] (Consumes-nil (g.R.Source.remaining c.args.source.now)) c.in-Err.ensures.known;
      held = ap (λ (xs : List ℕ). slice_range xs i.begin i.end) (written_back now i.buffer.items i.buffer.len size)
          ∙ (ap (λ (k : ℕ). slice_range now i.begin k) end
          ∙ held_more i.buffer.items now i.begin i.end 0 same low high
          ∙ ap (λ (r : LinesRead). r.held ++ []) c.self.view_is);
      lines = ap (λ (r : LinesRead). r.lines) c.self.view_is;
      bytes = omega (arith, ap (λ (r : LinesRead). r.bytes) c.self.view_is);
      calls = ap (λ (h : BytesRead). h.calls) c.in-Err.ensures.read;
      reads = ap (λ (r : LinesRead). r.reads + 1) c.self.view_is;
    }

pub returns-in-Ok-clause-read : goal.returns-in-Ok-clause-read
unfolding returns-in-Ok-clause-more
returns-in-Ok-clause-read g c =
    let i = c.self.inside in
    let n : ℕ = c.in-Ok.n in
    let now : List ℕ = c.pull_after.new.buffer in
    let size : length now ≡ i.buffer.len = c.pull_after.auto.buffer ∙ c.deref_mut.ensures.len in
    let room = ap (λ (r : LinesRead). r.room) c.self.view_is in
    let some : 0 < length (drop i.end now) =
    omega (arith, length-drop i.end now, size, room, c.requires.room, c.self.invariant.0) in
    let held : List ℕ = c.args.self.now.held in
    record {
      called = ap (λ (r : LinesRead). r.reads + 1) c.self.view_is;
      whole = λ goes.
          let test : (n == 0) ≡ false = ok_same _ _ goes in
          ap (λ (h : BytesRead). h.is_at_end) c.in-Ok.ensures.read
          ∙ reading_on (g.R.Source.read c.args.source.now).is_at_end _ n c.in-Ok.ensures.silent test;
      ended = λ ends.
          let test : (n == 0) ≡ true = ok_same _ _ ends in
          let zero : n ≡ 0 = elim (eqb_tells n 0) [
            | inl same ↦ same.1
            | inr other ↦ absurd (false≢true (sym other.0 ∙ test))
          ] in (
            ap (λ (h : BytesRead). h.is_at_end) c.in-Ok.ensures.read
                ∙ reported_end (g.R.Source.read c.args.source.now).is_at_end n (drop i.end now) zero some,
            (returns-in-Ok-clause-more g c).held
                ∙ (ap (λ (k : ℕ). held ++ take k (drop i.end now)) zero ∙ append-nil held),
            c.in-Ok.ensures.known.1 zero some,
          );
      fine = omega (arith, ap (λ (h : BytesRead). h.failures) c.in-Ok.ensures.read);
      fault = tt;
      held = tt;
    }

pub returns-in-Err-clause-read : goal.returns-in-Err-clause-read
unfolding returns-in-Err-clause-more
returns-in-Err-clause-read g c = record {
  called = tt;
  whole = λ goes. absurd (not_ok _ _ goes);
  ended = λ ends. absurd (not_ok _ _ ends);
  fine = tt;
  fault = (
    refl,
    ap (λ (h : BytesRead). h.failures) c.in-Err.ensures.read,
    ap (λ (h : BytesRead). h.is_at_end) c.in-Err.ensures.read
        ∙ failed_before (g.R.Source.read c.args.source.now).is_at_end _ c.in-Err.ensures.silent,
  );
  held = (returns-in-Err-clause-more g c).held ∙ append-nil c.args.self.now.held;
}
