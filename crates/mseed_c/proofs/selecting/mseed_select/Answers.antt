use Rattle.std.proofs.Common.{◌≡◌, ◌≢◌, ◌≤ℤ◌, ◌∙◌, inl, inr, ℕ, ℤ, List, Option, Some, refl, sym, ap, subst}
use Rattle.std.proofs.Common.{rules, w64, to_z, of_z}
use Rattle.std.specs.Prelude.{IsTrue}
use Rattle.std.proofs.lemmas.Bool.{false≢true}
use Rattle.std.proofs.lemmas.Int.{to_z-of_z}
use Rattle.mseed_time.specs.Btime.{IsInstant}
use Rattle.mseed_record.specs.Pattern.{are_patterns}
use Rattle.mseed_select.specs.Selecting.{text_of, selection_of}
use Rattle.mseed_record.specs.Selection.{Selection}
use Rattle.mseed_c.specs.Asked.{IsEmptyWindow, IsSelectedTo, asked_by, bound_of, channels_of}
use Rattle.mseed_c.specs.Asked.{bad_time, bad_patterns, bad_window, taken}
use Rattle.mseed_c.specs.declared.selecting.Window.{Window}
use Rattle.mseed_c.proofs.Asking.{AreRead, bound_some, bound_there, channels_there, instants, is_empty, not_empty}
use Rattle.mseed_c.proofs.selecting.mseed_select.Goals.{then-not-is_empty+in-Ok, else-not-is_empty}
use Rattle.mseed_c.proofs.selecting.mseed_select.Goals as goal

pub returns-in_default : goal.returns-in_default
returns-in_default c =
    let none = c.in_default.ensures.none in
    let same : to_z w64 (of_z w64 c.args.window.now.from) ≡ c.args.window.now.from = to_z-of_z w64 _ (search rules) in
    bad_time (inl (none.0, subst (λ (z : ℤ). ¬ (IsInstant z)) same none.1)) refl refl

pub returns-in_default-bound_of : goal.returns-in_default-bound_of
returns-in_default-bound_of c =
    let none = c.in_default-bound_of.ensures.none in
    let same : to_z w64 (of_z w64 c.args.window.now.until) ≡ c.args.window.now.until = to_z-of_z w64 _
    (search rules) in
    bad_time (inr (none.0, subst (λ (z : ℤ). ¬ (IsInstant z)) same none.1)) refl refl

-- a bound that was read
record IsBound (has : ℕ) (m : ℤ) (bound : Option ℤ) : Type 0 where
  is : bound ≡ bound_of has m
  instant : has ≢ 0 → IsInstant m

bound : (has : ℕ) (m : ℤ) (b : Option ℤ) → to_z w64 (of_z w64 m) ≡ m
    → (b ≡ bound_of has (to_z w64 (of_z w64 m))) × (has ≢ 0 → IsInstant (to_z w64 (of_z w64 m))) → IsBound has m b
bound has m b same h = record {
  is = h.0 ∙ ap (λ (z : ℤ). bound_of has z) same;
  instant = λ some. subst IsInstant same (h.1 some);
}

empty : (w : Window) (from until : Option ℤ) → IsBound w.has_from w.from from → IsBound w.has_until w.until until
    → (begin : ℤ) × ((end : ℤ) × ((from ≡ Some begin) × (until ≡ Some end) × (end ≤ℤ begin))) → IsEmptyWindow w
empty w from until a b h =
    let first = bound_some w.has_from w.from h.0 (sym a.is ∙ h.1.1.0) in
    let last = bound_some w.has_until w.until h.1.0 (sym b.is ∙ h.1.1.1) in (
      first.0,
      last.0,
      subst (λ (z : ℤ). z ≤ℤ w.from) (sym last.1) (subst (λ (z : ℤ). h.1.0 ≤ℤ z) (sym first.1) h.1.1.2),
    )

not_empty_window : (w : Window) (from until : Option ℤ) → IsBound w.has_from w.from from
    → IsBound w.has_until w.until until
    → (((begin : ℤ) × ((end : ℤ) × ((from ≡ Some begin) × (until ≡ Some end) × (end ≤ℤ begin)))) → ⊥)
    → ¬ (IsEmptyWindow w)
not_empty_window w from until a b refuted h =
    let first = a.is ∙ bound_there w.has_from w.from h.0 in
    let last = b.is ∙ bound_there w.has_until w.until h.1 in
    refuted (w.from, (w.until, (first, last, h.2)))

pub returns-in-Err : goal.returns-in-Err
returns-in-Err c =
    let w = c.args.window.now in
    let a = bound w.has_from w.from c.in-Some.from (to_z-of_z w64 _ (search rules)) c.in-Some.ensures.some in
    let b = bound w.has_until w.until c.in-Some-bound_of.until (to_z-of_z w64 _ (search rules))
    c.in-Some-bound_of.ensures.some in
    bad_patterns (instants w a.instant b.instant) (not_empty c.args.channels.now (search rules))
    (λ (t : IsTrue (are_patterns c.args.channels.now)). false≢true (c.in-Err.ensures.ok.1 t)) refl refl

pub returns-in_default-new : goal.returns-in_default-new
returns-in_default-new c =
    let w = c.args.window.now in
    let a = bound w.has_from w.from c.in-Some.from (to_z-of_z w64 _ (search rules)) c.in-Some.ensures.some in
    let b = bound w.has_until w.until c.in-Some-bound_of.until (to_z-of_z w64 _ (search rules))
    c.in-Some-bound_of.ensures.some in
    let read : AreRead c.args.channels.now (text_of c.if-not-is_empty.patterns) =
    elim c.if-not-is_empty.branch [
      | then-not-is_empty+in-Ok v ↦ record {
        same = ap (λ p. text_of p) v.patterns-is ∙ ap (λ (xs : List ℕ). Some xs) v.in-Ok.ensures.value
            ∙ sym (channels_there c.args.channels.now (not_empty c.args.channels.now (search rules)));
        fine = inr (v.in-Ok.ensures.ok.0 refl);
      }
      | else-not-is_empty v ↦ record {
        same = ap (λ p. text_of p) v.patterns-is
            ∙ sym (ap (λ (xs : List ℕ). channels_of xs) (is_empty c.args.channels.now (search rules)));
        fine = inl (is_empty c.args.channels.now (search rules));
      }
    ] in
    bad_window (instants w a.instant b.instant) read.fine
    (empty w c.in-Some.from c.in-Some-bound_of.until a b (c.in_default-new.ensures.err.0 refl)) refl refl

pub returns : goal.returns
returns c =
    let w = c.args.window.now in
    let a = bound w.has_from w.from c.in-Some.from (to_z-of_z w64 _ (search rules)) c.in-Some.ensures.some in
    let b = bound w.has_until w.until c.in-Some-bound_of.until (to_z-of_z w64 _ (search rules))
    c.in-Some-bound_of.ensures.some in
    let read : AreRead c.args.channels.now (text_of c.if-not-is_empty.patterns) =
    elim c.if-not-is_empty.branch [
      | then-not-is_empty+in-Ok v ↦ record {
        same = ap (λ p. text_of p) v.patterns-is ∙ ap (λ (xs : List ℕ). Some xs) v.in-Ok.ensures.value
            ∙ sym (channels_there c.args.channels.now (not_empty c.args.channels.now (search rules)));
        fine = inr (v.in-Ok.ensures.ok.0 refl);
      }
      | else-not-is_empty v ↦ record {
        same = ap (λ p. text_of p) v.patterns-is
            ∙ sym (ap (λ (xs : List ℕ). channels_of xs) (is_empty c.args.channels.now (search rules)));
        fine = inl (is_empty c.args.channels.now (search rules));
      }
    ] in
    let same : selection_of c.in-Ok-new.selector ≡ asked_by c.args.channels.now w = c.in-Ok-new.ensures.value
    ∙ (λ i. record { channels = read.same i; from = a.is i; until = b.is i }) in
    taken c.select_all.result (instants w a.instant b.instant) read.fine
    (not_empty_window w c.in-Some.from c.in-Some-bound_of.until a b
    (λ e. false≢true (c.in-Ok-new.ensures.err.1 e)))
    (subst (λ (s : Selection). IsSelectedTo s c.args.bytes.now c.args.room.now c.select_all.new.room
    c.select_all.new.reported c.select_all.result) same c.select_all.ensures)
