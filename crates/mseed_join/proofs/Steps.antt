-- One more line, taken by a joint part.
use Rattle.std.proofs.Common.{◌≡◌, ℕ, ◌+◌, ◌<◌, ◌^◌, List, [], ◌∷◌, ◌++◌, Bool, true, false, Some, None, length}
use Rattle.std.proofs.Common.{refl, sym, ap, ◌∙◌, subst, arith, append-nil, Result, Ok}
use Rattle.std.proofs.lemmas.List.{length-append}
use Rattle.mseed_stream.specs.declared.fault.StreamFault.{StreamFault}
use Rattle.mseed_audit.specs.declared.channel.Channel.{Channel}
use Rattle.mseed_join.specs.Parts.{IsJoint, Fits, FitsAt, kept_of, one_channel, counts_alone}
use Rattle.mseed_join.specs.Lines.{Line, header, channel, counts, faults, fault, IsLine, header_line}
use Rattle.mseed_join.specs.Lines.{text_of_line}
use Rattle.mseed_join.specs.Written.{Written}
use Rattle.mseed_join.specs.Joined.{IsJointOf, IsNext, Begins, counted, moved_fault, nothing}
use Rattle.mseed_join.specs.Reached.{OpenPart, Stage, begun_part, parts_at, IsStage}
use Rattle.mseed_join.specs.Reached.{passed_lines}
use Rattle.mseed_join.specs.ReadParts.{written_of}
use Rattle.mseed_join.specs.declared.joint.Joint.{Joint}
use Rattle.mseed_join.specs.declared.joint.JointPart.{JointPart}
use Rattle.mseed_join.specs.declared.joint.LineFault.{LineFault}
use Rattle.mseed_join.specs.declared.joint.PlaceInPart.{PlaceInPart}
use Rattle.mseed_join.specs.declared.joint.PlaceInPart.TheVariants.{Start, Channels, Whole}
use Rattle.mseed_join.specs.declared.joint.Reported.{Reported}
use Rattle.mseed_join.specs.declared.joint.Reported.TheVariants.{Nothing, Passed}
use Rattle.mseed_join.specs.private.Steps.{May, to, goes, with_faults, with_end}
use Rattle.mseed_join.specs.private.Taking.{IsReadTo, IsStep, IsTaken, IsPlace, border_by, fault_after, passed_by}
use Rattle.mseed_join.specs.Borders.{AreBordersOf, Border, border_with, borders_with}
use Rattle.mseed_join.proofs.Bordering.{header_borders, replaced, same_border, skipped, with_one}
use Rattle.mseed_join.proofs.Onward.{IsNoHeader, Onward, onward}
use Rattle.std.specs.Option.{option_map}
use Rattle.mseed_join.proofs.OneLine.{line_one}
use Rattle.mseed_join.proofs.Ahead.{IsHere, channel_fits, counts_fit, faults_fit, next_line, passed_fit}
use Rattle.mseed_join.proofs.Ended.{ended, no_end_from}
use Rattle.mseed_join.proofs.Stepping.{begin_joint, channel_next, counts_next}
use Rattle.mseed_join.proofs.Stepping.{fault_is, same_part}
use Rattle.mseed_join.proofs.Extended.{joins, kept_none, leaves_kept}
use Rattle.mseed_join.proofs.Sums.{joined_one, not_past, stop}
use Rattle.mseed_join.proofs.Taken.{Replaces, before_is, header_are}
use Rattle.mseed_join.proofs.Taken.{in_place, last_is, number_same, passed_more}
use Rattle.mseed_join.proofs.Taken.{passed_none, passed_silent, replaces, stage_more}

-- ---- where the joint part has come to
abbrev with_number : PlaceInPart → PlaceInPart
with_number (Whole l has) = Whole l true
with_number _ = Start

abbrev pub next_place : PlaceInPart → Line → PlaceInPart
next_place place header = Channels None
next_place place (channel key c) = Channels (Some key)
next_place place (counts n l) = Whole l false
next_place place (faults n) = with_number place
next_place place (fault l f) = Start

place_after : (place : PlaceInPart) (over : List Written) (b : OpenPart) (x : Line) → IsPlace place b → IsLine x
    → Onward b x → IsPlace (next_place place x) (goes over b x).last
place_after place over _ _ p l (Onward.row cs key c m) = (cs, c, refl)
place_after place over _ _ p l (Onward.sums cs n k) = (refl, refl)
place_after Start over _ _ p l (Onward.passes w n m) = absurd p
place_after (Channels last) over _ _ p l (Onward.passes w n m) = absurd p
place_after (Whole k has) over _ _ p l (Onward.passes w n m) = (p.0, l.some)
place_after place over _ _ p l (Onward.ends w k f m) = tt
place_after place over _ _ p l _ = refl

abbrev pub kept_as : {A : Type 0} → Joint A → JointPart A → PlaceInPart → Joint A
kept_as j so_far place = record { so_far = so_far; parts = j.parts; place = place; past_faults = j.past_faults }

-- ---- a header
abbrev pub headed : {A : Type 0} → Joint A → Joint A
headed j = record { so_far = j.so_far; parts = j.parts + 1; place = Channels None; past_faults = j.past_faults }

pub header_step : {A : Type 0} → (old : Joint A) (lines : List ℕ) (s : Stage) → IsReadTo lines s old
    → May s.last header → IsTaken lines header_line s (to s header) Nothing old (headed old)
header_step old lines s r m =
    let o = onward s.last header m in
    let are = header_are s.over s.last o in
    let number : old.parts + 1 ≡ length (parts_at (to s header)) =
    rw are (omega (arith, r.number, length-append (parts_at s) (begun_part [] ∷ []))) in
    record {
      read = record {
        stage = stage_more lines s header r.stage tt o;
        joint = rw are (begin_joint old.past_faults (parts_at s) (written_of old.so_far) r.joint);
        place = place_after old.place s.over s.last header r.place tt o;
        number = number;
      };
      reported = record {
        passed = rw are (passed_silent old.past_faults (parts_at s) (begun_part []) refl
            ∙ sym (append-nil (passed_lines old.past_faults (parts_at s))));
        borders = header_borders old.past_faults s.over s.last (written_of old.so_far) o r.joint;
      };
      past_faults = refl;
      parts = number;
    }

-- ---- any other line
module _ {A : Type 0} (old : Joint A) (so_far : JointPart A) (place : PlaceInPart) (x : Line) (other : IsNoHeader x)
    (moves : next_place old.place x ≡ place) {lines : List ℕ} {s : Stage} (r : IsReadTo lines s old) (l : IsLine x)
    (o : Onward s.last x) where
  abbrev put : Replaces old.past_faults s.over s.last x
  put = replaces old.past_faults s.over s.last x r.stage.is_where o other

  step : (report : Reported) → IsJointOf old.past_faults (parts_at (to s x)) (written_of so_far)
      → passed_lines old.past_faults (parts_at (to s x)) ≡ passed_lines old.past_faults (parts_at s) ++ passed_by report
      → ((found : List Border) → AreBordersOf old.past_faults (parts_at s) found
      → AreBordersOf old.past_faults (parts_at (to s x)) (found ++ border_by report))
      → IsTaken lines (text_of_line x) s (to s x) report old (kept_as old so_far place)
  step report joint passed borders =
      let number : old.parts ≡ length (parts_at (to s x)) =
      rw (put.are, number_same s.over put.new put.old) (rw put.was at r.number) in
      record {
        read = record {
          stage = stage_more lines s x r.stage l o;
          joint = joint;
          place = subst (λ (p : PlaceInPart). IsPlace p (to s x).last) moves
              (place_after old.place s.over s.last x r.place l o);
          number = number;
        };
        reported = record { passed = passed; borders = borders };
        past_faults = refl;
        parts = number;
      }

  -- what counts in place of the last part is joined to what stood before
  abbrev GoesOver : Reported → Type 0
  GoesOver report = (a : Written) → IsNext a put.old (written_of old.so_far)
      → IsNext a put.counts_as (written_of so_far)
      × (borders_with a.part put.counts_as.part.channels
      ≡ borders_with a.part put.old.part.channels ++ border_by report)

  counted_line : old.so_far.end ≡ None → (report : Reported)
      → passed_lines old.past_faults (parts_at (to s x)) ≡ passed_lines old.past_faults (parts_at s) ++ passed_by report
      → GoesOver report → IsTaken lines (text_of_line x) s (to s x) report old (kept_as old so_far place)
  counted_line free report passed goes_over =
      let last = last_is old.past_faults s.over put.old (written_of old.so_far) put.clear free
      (rw put.was at r.joint) in
      let next = goes_over last.before last.next in
      step report (rw put.are (in_place old.past_faults s.over last.before put.new put.counts_as (written_of so_far)
      last.joined last.goes_on put.counts next.0)) passed
      (λ found b. rw put.are (replaced old.past_faults s.over put.old put.new put.counts_as (written_of old.so_far) last
      put.clear put.counts (border_by report) found
      (λ a k. rw (joined_one nothing (counted old.past_faults s.over) a last.before k last.joined) next.1)
      (rw put.was at b)))

  -- where no fault is reported
  clear_line : old.so_far.end ≡ None → (report : Reported) → passed_by report ≡ []
      → put.new.end ≡ None → GoesOver report
      → IsTaken lines (text_of_line x) s (to s x) report old (kept_as old so_far place)
  clear_line free report silent e goes_over =
      counted_line free report (rw silent (passed_none old.past_faults s.over s.last x put e)) goes_over

-- after a fault it isn't counted in
pub line_skipped : {A : Type 0} (old : Joint A) (f : StreamFault) → old.so_far.end ≡ Some f → (place : PlaceInPart)
    (x : Line) → IsNoHeader x → next_place old.place x ≡ place → (lines : List ℕ) (s : Stage) → IsReadTo lines s old
    → IsLine x → May s.last x → IsTaken lines (text_of_line x) s (to s x) Nothing old (kept_as old old.so_far place)
line_skipped old f e place x other moves lines s r l m =
    let h : Written = written_of old.so_far in
    let o = onward s.last x m in
    let p : Replaces old.past_faults s.over s.last x =
    replaces old.past_faults s.over s.last x r.stage.is_where o other in
    let before : IsJointOf old.past_faults s.over h =
    before_is old.past_faults s.over p.old h f p.clear e (rw p.was at r.joint) in
    step old old.so_far place x other moves r l o Nothing
    (rw p.are (stop old.past_faults s.over (p.new ∷ []) h f e before))
    (rw (not_past old.past_faults (parts_at s) h f e r.joint) refl)
    (λ found b. rw p.are (skipped old.past_faults s.over (p.old ∷ []) (p.new ∷ []) h f e before found (rw p.was at b)))

-- what goes on from here, if this line stands there
next_here : (past : Bool) (s : Stage) (lines : List ℕ) (x : Line) → IsStage lines s → IsLine x
    → Begins past (lines ++ text_of_line x) → IsHere past s x
next_here past s lines x i l b =
    let t = ended x l in
    let n = next_line past s lines t.body (text_of_line x) i (no_end_from t.body t.piece.is_plain) t.is b in
    rw (line_one n.x x n.is_line l n.text) at n.here

-- a line is taken so wherever it can stand
abbrev pub TakesOn : {A : Type 0} → Line → Result Reported LineFault → Joint A → Joint A → Type 0
TakesOn {A} x result old new =
    (over : List Written) (b : OpenPart) (lines : List ℕ) → IsReadTo lines (record { over = over; last = b }) old
    → IsLine x → Onward b x → IsStep lines (record { over = over; last = b }) x result old new

-- or no parts go on with it
abbrev pub RefusesOn : {A : Type 0} → Line → Joint A → Type 0
RefusesOn {A} x old =
    (over : List Written) (b : OpenPart) (lines : List ℕ) → IsReadTo lines (record { over = over; last = b }) old
    → IsLine x → Onward b x → Begins old.past_faults (lines ++ text_of_line x) → ⊥

module _ {A : Type 0} (old : Joint A) (free : old.so_far.end ≡ None) where
  -- ---- a channel
  pub channel_added : (so_far : JointPart A) (report : Reported) → passed_by report ≡ [] → (key : List ℕ) (c : Channel)
      → border_by report ≡ border_with old.so_far.part (key, c)
      → IsJoint old.so_far.part (one_channel key c) so_far.part
      → FitsAt old.so_far.part.records old.so_far.part.bytes (kept_of key old.so_far.part.channels) (Some c)
      → so_far.faults ≡ old.so_far.faults → so_far.end ≡ old.so_far.end
      → TakesOn (channel key c) (Ok report) old (kept_as old so_far (Channels (Some key)))
  channel_added so_far report silent key c border joint fit f e over _ lines q l (Onward.row cs _ _ ascends) =
      clear_line old so_far (Channels (Some key)) (channel key c) tt refl q l (Onward.row cs key c ascends) free
      report silent refl (λ a next. (
        channel_next a (written_of old.so_far) (written_of so_far) cs key c next ascends joint fit f (e ∙ free),
        with_one a cs (key, c) ∙ ap (λ (bs : List Border). borders_with a.part cs ++ bs)
            (sym (border ∙ same_border a (written_of old.so_far) key c
            (leaves_kept key cs a.part old.so_far.part (kept_none cs (key, c) [] ascends)
            (joins a.part cs old.so_far.part next.part)))),
      ))

  pub channel_refused : (key : List ℕ) (c : Channel)
      → (FitsAt old.so_far.part.records old.so_far.part.bytes (kept_of key old.so_far.part.channels) (Some c) → ⊥)
      → RefusesOn (channel key c) old
  channel_refused key c limit over _ lines r l (Onward.row cs _ _ q) b =
      let h = next_here old.past_faults _ lines (channel key c) r.stage l b in
      limit (channel_fits old.past_faults over (written_of old.so_far) free h.parts h.joint h.is_joint cs key c r.joint
      q h.extends_to)

  -- ---- the counts
  pub counts_added : (so_far : JointPart A) (n l : ℕ) → IsJoint old.so_far.part (counts_alone n l) so_far.part
      → Fits old.so_far.part (counts_alone n l) → so_far.faults ≡ old.so_far.faults → so_far.end ≡ old.so_far.end
      → TakesOn (counts n l) (Ok Nothing) old (kept_as old so_far (Whole l false))
  counts_added so_far n l joint fit f e over _ lines q is (Onward.sums cs _ _) =
      clear_line old so_far (Whole l false) (counts n l) tt refl q is (Onward.sums cs n l) free Nothing refl refl
      (λ a next. (
        counts_next a (written_of old.so_far) (written_of so_far) cs n l next joint fit f (e ∙ free),
        sym (append-nil (borders_with a.part cs)),
      ))

  pub counts_refused : (n l : ℕ) → (Fits old.so_far.part (counts_alone n l) → ⊥)
      → RefusesOn (counts n l) old
  counts_refused n l limit over _ lines r is (Onward.sums cs _ _) b =
      let h = next_here old.past_faults _ lines (counts n l) r.stage is b in
      limit (counts_fit old.past_faults over (written_of old.so_far) free h.parts h.joint h.is_joint cs n l r.joint
      h.extends_to)

  -- ---- the number of faults passed
  pub faults_added : (so_far : JointPart A) (l : ℕ) → old.place ≡ Whole l false → (n : ℕ)
      → old.so_far.faults + n < 2 ^ 63 → so_far.part ≡ old.so_far.part → so_far.faults ≡ old.so_far.faults + n
      → so_far.end ≡ old.so_far.end → TakesOn (faults n) (Ok Nothing) old (kept_as old so_far (Whole l true))
  faults_added so_far l at n fit p f e over _ lines q is (Onward.passes w _ none) =
      clear_line old so_far (Whole l true) (faults n) tt (ap with_number at) q is (Onward.passes w n none) free
      Nothing refl q.stage.is_where (λ a next. (
        same_part a w (written_of old.so_far) (with_faults w n) (written_of so_far) next refl p
            (omega (arith, f, next.faults, none)) (omega (arith, f, fit))
            (e ∙ free ∙ sym (ap (option_map (moved_fault a.part.bytes)) q.stage.is_where)),
        sym (append-nil (borders_with a.part w.part.channels)),
      ))

  pub faults_refused : (n : ℕ) → (old.so_far.faults + n < 2 ^ 63 → ⊥)
      → RefusesOn (faults n) old
  faults_refused n limit over _ lines r is (Onward.passes w _ q) b =
      let h = next_here old.past_faults _ lines (faults n) r.stage is b in
      limit (faults_fit old.past_faults over (written_of old.so_far) free h.parts h.joint h.is_joint w n
      r.stage.is_where q r.joint h.extends_to)

  -- ---- the fault with which a part ends
  -- the joint part ends with this one
  pub fault_kept : (so_far : JointPart A) → old.past_faults ≡ false → (x : StreamFault) → so_far.part ≡ old.so_far.part
      → so_far.faults ≡ old.so_far.faults → so_far.end ≡ Some (fault_after old.so_far.part.bytes x) → (l : ℕ)
      → TakesOn (fault l x) (Ok Nothing) old (kept_as old so_far Start)
  fault_kept so_far p x pa fa e l over _ lines q is (Onward.ends w _ _ size) =
      counted_line old so_far Start (fault l x) tt refl q is (Onward.ends w l x size) free Nothing (rw p refl)
      (λ a next. rw p (
        same_part a w (written_of old.so_far) (with_end w x) (written_of so_far) next refl pa
            (omega (arith, fa, next.faults)) (omega (arith, fa, next.faults_fit))
            (e ∙ ap (λ (y : StreamFault). Some y)
            (fault_is a.part.bytes old.so_far.part.bytes l x is.is (omega (arith, next.part.bytes, size)))),
        sym (append-nil (borders_with a.part w.part.channels)),
      ))

  -- it is passed
  pub fault_passed : (so_far : JointPart A) → old.past_faults ≡ true → (x : StreamFault)
      → old.so_far.faults + 1 < 2 ^ 63 → so_far.part ≡ old.so_far.part → so_far.faults ≡ old.so_far.faults + 1
      → so_far.end ≡ old.so_far.end → (l : ℕ)
      → TakesOn (fault l x) (Ok (Passed old.parts x)) old (kept_as old so_far Start)
  fault_passed so_far p x fit pa fa e l over _ lines q is (Onward.ends w _ _ size) =
      counted_line old so_far Start (fault l x) tt refl q is (Onward.ends w l x size) free (Passed old.parts x)
      (rw (p, q.number) (passed_more over w x q.stage.is_where)) (λ a next. rw p (
        same_part a w (written_of old.so_far) (record { part = w.part; faults = w.faults + 1; end = None })
            (written_of so_far) next refl pa (omega (arith, fa, next.faults)) (omega (arith, fa, fit)) (e ∙ free),
        sym (append-nil (borders_with a.part w.part.channels)),
      ))

  pub fault_refused : old.past_faults ≡ true → (x : StreamFault)
      → (old.so_far.faults + 1 < 2 ^ 63 → ⊥) → (l : ℕ) → RefusesOn (fault l x) old
  fault_refused p x limit l over _ lines r is (Onward.ends w _ _ q) b =
      let h = next_here old.past_faults _ lines (fault l x) r.stage is b in
      limit (passed_fit old.past_faults over (written_of old.so_far) free h.parts h.joint h.is_joint w x h.extends_to.0
      p r.stage.is_where r.joint h.extends_to.1)

pub some_after : (y : StreamFault) (m n : ℕ) (x : StreamFault) → y ≡ fault_after m x → m ≡ n
    → Some y ≡ Some (fault_after n x)
some_after y m n x e k = ap (λ (z : StreamFault). Some z) (e ∙ ap (λ (i : ℕ). fault_after i x) k)
