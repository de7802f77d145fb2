-- What goes on: the next line of parts, and what their joint part says of it.
use Rattle.std.proofs.Common.{◌≡◌, ℕ, ◌+◌, ◌≤◌, ◌<◌, ◌^◌, List, [], ◌∷◌, ◌++◌, Bool, true, Option, Some, None}
use Rattle.std.proofs.Common.{length, refl, sym, ap, ◌∙◌, subst, arith, append_assoc}
use Rattle.std.specs.Prelude.{codes}
use Rattle.std.proofs.ByRecursion.{All-append}
use Rattle.std.proofs.lemmas.List.{length-append}
use Rattle.mseed_stream.specs.declared.fault.StreamFault.{StreamFault}
use Rattle.mseed_audit.specs.declared.channel.Channel.{Channel}
use Rattle.mseed_join.specs.Parts.{IsAscending, Fits, FitsAt, kept_of, counts_alone}
use Rattle.mseed_join.specs.Lines.{Line, text_of_line, IsLine}
use Rattle.mseed_join.specs.Written.{HasText, Written, texts}
use Rattle.mseed_join.specs.Joined.{AreJoined, Begins, HasNoEnd, IsJointOf, counted, counted_by}
use Rattle.mseed_join.specs.Reached.{Stage, begun_part, open_part, parts_at, IsStage, start}
use Rattle.mseed_join.specs.private.Steps.{May, to, counted_part, with_faults, with_end}
use Rattle.mseed_join.proofs.Ended.{IsEnded, ended, plain_from, same_line, short, within_line}
use Rattle.mseed_join.proofs.Machine.{AreAll, Entries, Runs, all_rows, open_all}
use Rattle.mseed_join.proofs.Machine.{open_text_is, leaves, lines_text, open_rows, runs_rest, text_append}
use Rattle.mseed_join.proofs.Machine.{texts_all, texts_are}
use Rattle.mseed_join.proofs.Running.{Extends, GoesOn, HaveTexts, all_run, extends, stage_runs, each_before}
use Rattle.mseed_join.proofs.Running.{each_after}
use Rattle.mseed_join.proofs.Extended.{fits_here, joins, kept_none}
use Rattle.mseed_join.proofs.Sums.{counted_on, first_of, joined_one, joined_split}
use Rattle.mseed_join.proofs.Taken.{IsLast, last_is}

-- ---- the lines up to a stage
stage_all : (s : Stage) (lines : List ℕ) → IsStage lines s → AreAll (all_rows s.over ++ open_rows s.last)
stage_all s lines i =
    All-append IsLine (all_rows s.over) (open_rows s.last)
    (texts_all s.over (each_before HasText s.over (open_part s.last) i.each))
    (open_all s.last (each_after HasText s.over (open_part s.last) i.each))

stage_text : (s : Stage) (lines : List ℕ) → IsStage lines s
    → lines_text (all_rows s.over ++ open_rows s.last) ≡ lines
stage_text s lines i = search (arith, text_append, texts_are, open_text_is)

-- parts that go on after a stage: their further lines
pub record IsAhead (s : Stage) (parts : List Written) (rest : List ℕ) : Type 0 where
  pub others : List Line
  pub text : rest ≡ lines_text others
  pub are : AreAll others
  pub at : Stage
  pub runs : Runs s others at
  pub parts_are : parts_at at ≡ parts

pub ahead : (s : Stage) (lines : List ℕ) (parts : List Written) (rest : List ℕ) → IsStage lines s
    → lines ++ rest ≡ texts parts → HaveTexts parts → IsAhead s parts rest
ahead s lines parts rest i e h =
    let xs : List Line = all_rows s.over ++ open_rows s.last in
    let same = ap (λ (t : List ℕ). t ++ rest) (stage_text s lines i) ∙ e ∙ sym (texts_are parts) in
    let left = leaves xs (all_rows parts) rest (stage_all s lines i) (texts_all parts h) same in
    let run = all_run parts h in
    let all = subst (λ (ys : List Line). Runs start ys run.0) left.lines run.1.0 in record {
      others = left.others;
      text = left.text;
      are = left.are;
      at = run.0;
      runs = runs_rest start s run.0 xs left.others (stage_runs s.over s.last i.each i.is_where) all;
      parts_are = run.1.1;
    }

-- the parts that go on after a line that stands here
pub record IsHere (past : Bool) (s : Stage) (x : Line) : Type 0 where
  pub parts : List Written
  pub extends_to : Extends (to s x).over (to s x).last parts
  pub joint : Written
  pub is_joint : IsJointOf past parts joint

-- the next line, which can stand there
pub record IsNextLine (past : Bool) (s : Stage) (line : List ℕ) : Type 0 where
  pub x : Line
  pub is_line : IsLine x
  pub text : text_of_line x ≡ line
  pub may : May s.last x
  pub here : IsHere past s x

pub next_line : (past : Bool) (s : Stage) (lines body line : List ℕ) → IsStage lines s → HasNoEnd body
    → line ≡ body ++ codes "\n" → Begins past (lines ++ line) → IsNextLine past s line
next_line past s lines body line i none_there is b =
    by a.others a.text a.are a.runs
  where
    a : IsAhead s b.parts (line ++ b.rest)
    a = ahead s lines b.parts (line ++ b.rest) i (sym (append_assoc lines line b.rest) ∙ b.spells.text) b.spells.each

    by : (xs : List Line) → line ++ b.rest ≡ lines_text xs → AreAll xs → Runs s xs a.at → IsNextLine past s line
    by [] e l r =
        let long = ap length is ∙ length-append body (codes "\n") in
        absurd (omega (arith, long, length-append line b.rest, ap length e))
    by (x ∷ xs) e l r =
        let t : IsEnded (text_of_line x) = ended x l.0 in
        let same = sym (append_assoc body (10 ∷ []) b.rest) ∙ ap (λ (z : List ℕ). z ++ b.rest) (sym is) ∙ e
        ∙ ap (λ (z : List ℕ). z ++ lines_text xs) t.is ∙ append_assoc t.body (10 ∷ []) (lines_text xs) in
        let both = same_line body t.body b.rest (lines_text xs) (plain_from body none_there) t.piece.is_plain same in
        record {
          x = x;
          is_line = l.0;
          text = t.is ∙ ap (λ (z : List ℕ). z ++ 10 ∷ []) (sym both.0) ∙ sym is;
          may = r.0;
          here = record {
            parts = b.parts;
            extends_to = rw a.parts_are at (extends (to s x) a.at xs r.1);
            joint = b.joint;
            is_joint = b.is_joint;
          };
        }

-- ---- a line that is too long
pub too_long : (past : Bool) (s : Stage) (lines bytes : List ℕ) → IsStage lines s → HasNoEnd bytes
    → 512 ≤ length bytes → Begins past (lines ++ bytes) → ⊥
too_long past s lines bytes i none_there long b = by a.others a.text a.are
  where
    a : IsAhead s b.parts (bytes ++ b.rest)
    a = ahead s lines b.parts (bytes ++ b.rest) i (sym (append_assoc lines bytes b.rest) ∙ b.spells.text) b.spells.each

    by : (xs : List Line) → bytes ++ b.rest ≡ lines_text xs → AreAll xs → ⊥
    by [] e l = absurd (omega (arith, length-append bytes b.rest, ap length e, long))
    by (x ∷ xs) e l =
        let t : IsEnded (text_of_line x) = ended x l.0 in
        let same = e ∙ ap (λ (z : List ℕ). z ++ lines_text xs) t.is ∙ append_assoc t.body (10 ∷ []) (lines_text xs) in
        let within = within_line bytes t.body b.rest (lines_text xs) (plain_from bytes none_there) same in
        absurd (omega (arith, long, within, ap length t.is, length-append t.body (10 ∷ []), short x l.0))

-- ---- what a further part fits into
pub record IsFitting (past : Bool) (a v : Written) : Type 0 where
  pub fits : Fits a.part v.part
  pub faults_fit : a.faults + v.faults < 2 ^ 63
  pub passed_fit : (f : StreamFault) → past ≡ true → v.end ≡ Some f → a.faults + (v.faults + 1) < 2 ^ 63

fitting_by : (past : Bool) (a v k : Written) (vs : List Written) (end : Option StreamFault) → v.end ≡ end
    → AreJoined a (counted_by past v end (counted past vs)) k → IsFitting past a v
fitting_by past a v k vs end is joined = grind (arith, first_of)

fitting : (past : Bool) (over : List Written) (v : Written) (vs : List Written) (a k : Written)
    → IsJointOf past over a → a.end ≡ None → IsJointOf past (over ++ v ∷ vs) k → IsFitting past a v
fitting past over v vs a k j n all =
    search (arith, joined_split, counted_on, fitting_by, joined_one)

-- ---- what is refused for its sum
module _ (past : Bool) (over : List Written) (h : Written) (free : h.end ≡ None)
    (parts : List Written) (k : Written) (all : IsJointOf past parts k) where
  -- of a part that has begun, and the parts that go on from it
  grown : (w v : Written) → w.end ≡ None → IsJointOf past (over ++ w ∷ []) h → (g : GoesOn over v parts)
      → (l : IsLast past over w h) × IsFitting past l.before g.part
  grown w v e j g =
      let l : IsLast past over w h = last_is past over w h e free j in (
        l,
        fitting past over g.part g.others l.before k l.joined l.goes_on
            (subst (λ (ws : List Written). IsJointOf past ws k) g.are all),
      )

  pub channel_fits : (cs : Entries) (key : List ℕ) (c : Channel) → IsJointOf past (over ++ begun_part cs ∷ []) h
      → IsAscending (cs ++ (key, c) ∷ []) → GoesOn over (begun_part (cs ++ (key, c) ∷ [])) parts
      → FitsAt h.part.records h.part.bytes (kept_of key h.part.channels) (Some c)
  channel_fits cs key c j sorted g =
      let both = grown (begun_part cs) (begun_part (cs ++ (key, c) ∷ [])) refl j g in
      let there = ap (kept_of key) (g.grows.channels ∙ append_assoc cs ((key, c) ∷ []) g.grows.others) in
      fits_here both.0.before.part h.part cs (key, c) g.grows.others (kept_none cs (key, c) [] sorted)
      (joins both.0.before.part cs h.part both.0.next.part) (rw there at (both.1.fits.each key))

  pub counts_fit : (cs : Entries) (n b : ℕ) → IsJointOf past (over ++ begun_part cs ∷ []) h
      → GoesOn over (counted_part cs n b) parts → Fits h.part (counts_alone n b)
  counts_fit cs n b j g =
      let both = grown (begun_part cs) (counted_part cs n b) refl j g in
      let l : IsLast past over (begun_part cs) h = both.0 in record {
        records = omega (arith, both.1.fits.records, g.grows.records, l.next.part.records);
        bytes = omega (arith, both.1.fits.bytes, g.grows.bytes, l.next.part.bytes);
        each = λ key. tt;
      }

  pub faults_fit : (w : Written) (n : ℕ) → w.end ≡ None → w.faults ≡ 0 → IsJointOf past (over ++ w ∷ []) h
      → GoesOn over (with_faults w n) parts → h.faults + n < 2 ^ 63
  faults_fit w n e z j g =
      let both = grown w (with_faults w n) e j g in
      omega (arith, both.1.faults_fit, g.grows.faults, both.0.next.faults, z)

  pub passed_fit : (w : Written) (f : StreamFault) (vs : List Written) → past ≡ true → w.end ≡ None
      → IsJointOf past (over ++ w ∷ []) h → parts ≡ (over ++ with_end w f ∷ []) ++ vs → h.faults + 1 < 2 ^ 63
  passed_fit w f vs p e j is =
      let l : IsLast past over w h = last_is past over w h e free j in
      let fit = fitting past over (with_end w f) vs l.before k l.joined l.goes_on
      (subst (λ (ws : List Written). IsJointOf past ws k) (is ∙ append_assoc over (with_end w f ∷ []) vs) all) in
      omega (arith, fit.passed_fit f p refl, l.next.faults)
