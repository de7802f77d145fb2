-- What is read so far, with one more line.
use Rattle.std.proofs.Common.{◌≡◌, ℕ, ◌+◌, List, [], ◌∷◌, ◌++◌, Bool, true, false, Option, Some, None, length, refl}
use Rattle.std.proofs.Common.{sym, ap, ◌∙◌, arith, append_assoc, append-nil}
use Rattle.std.specs.List.Sorted.{IsStrictlySortedBy}
use Rattle.std.proofs.ByRecursion.{All-append, All-push}
use Rattle.std.proofs.lemmas.List.{length-append}
use Rattle.mseed_stream.specs.declared.fault.StreamFault.{StreamFault}
use Rattle.mseed_text.specs.Fault.{end_line, fault_line}
use Rattle.mseed_audit.specs.declared.channel.Channel.{Channel}
use Rattle.mseed_join.specs.Lines.{Line, header, text_of_line, IsLine}
use Rattle.mseed_join.specs.Lines.{header_line}
use Rattle.mseed_join.specs.Lines.{channel_line, counts_line, faults_line}
use Rattle.mseed_join.specs.Written.{Written, HasText, channel_lines, part_text, texts}
use Rattle.mseed_join.specs.Joined.{AreJoined, none as no_more, one, IsNext, IsJointOf, counted, counted_by}
use Rattle.mseed_join.specs.Reached.{OpenPart, Stage, begun_part, open_part, parts_at, open_text}
use Rattle.mseed_join.specs.Reached.{IsStage, IsWhere, passed_from, passed_lines, passed_line}
use Rattle.mseed_join.specs.private.Steps.{to, goes, counted_part, with_faults, with_end}
use Rattle.mseed_join.proofs.Onward.{IsNoHeader, Onward}
use Rattle.mseed_join.proofs.Machine.{Entries, rows_append}
use Rattle.mseed_join.proofs.Running.{HaveTexts, each_before, each_after}
use Rattle.mseed_join.proofs.Sums.{first_of, none_of, split, glue}

-- ---- the text
pub texts_append : (ws vs : List Written) → texts (ws ++ vs) ≡ texts ws ++ texts vs
texts_append = rows_append part_text texts refl (λ w ws. refl)

texts_one : (ws : List Written) (w : Written) → texts (ws ++ w ∷ []) ≡ texts ws ++ part_text w
texts_one ws w = texts_append ws (w ∷ []) ∙ ap (λ (t : List ℕ). texts ws ++ t) (append-nil (part_text w))

rows_one : (cs : Entries) (key : List ℕ) (c : Channel)
    → channel_lines (cs ++ (key, c) ∷ []) ≡ channel_lines cs ++ channel_line key c
rows_one [] key c = append-nil (channel_line key c)
rows_one (d ∷ cs) key c = search (arith, append_assoc, rows_one cs key c)

-- a part's text without what may stand after its counts
abbrev leading : Written → List ℕ
leading w = header_line ++ channel_lines w.part.channels ++ counts_line w.part.records w.part.bytes

text_more : (over : List Written) (b : OpenPart) (x : Line) → IsWhere over b → Onward b x
    → texts over ++ open_text b ++ text_of_line x ≡ texts (goes over b x).over ++ open_text (goes over b x).last
text_more over _ _ w Onward.opens = search (arith, append-nil)
text_more over _ _ w (Onward.row cs k c m) = search (arith, append_assoc, rows_one)
text_more over _ _ w (Onward.sums cs n l) = search (arith, append_assoc, append-nil)
text_more over _ _ w (Onward.follows v) = search (arith, texts_one, append-nil)
text_more over _ _ w (Onward.passes v n m) =
    append_assoc (texts over) (part_text v) (faults_line n)
    ∙ ap (λ (t : List ℕ). texts over ++ t)
    ((λ i. leading v ++ faults_line (m i) ++ end_line (w i) ++ faults_line n)
    ∙ ap (λ (t : List ℕ). t ++ faults_line n) (append-nil (leading v ++ []) ∙ append-nil (leading v))
    ∙ sym (append-nil (leading v ++ faults_line n))
    ∙ (λ i. leading v ++ faults_line n ++ end_line (sym w i)))
text_more over _ _ w (Onward.ends v l f m) =
    append_assoc (texts over) (part_text v) (fault_line f)
    ∙ ap (λ (t : List ℕ). texts over ++ t)
    ((λ i. leading v ++ faults_line v.faults ++ end_line (w i) ++ fault_line f)
    ∙ ap (λ (t : List ℕ). t ++ fault_line f) (append-nil (leading v ++ faults_line v.faults)))
    ∙ sym (texts_one over (with_end v f)) ∙ sym (append-nil (texts (over ++ with_end v f ∷ [])))

-- ---- the parts' ranges
empty_text : HasText (begun_part [])
unfolding IsStrictlySortedBy
empty_text = search arith

-- another part in the place of the last has a text, if that one has
each_put : (over : List Written) (v w : Written) → HaveTexts (over ++ v ∷ []) → (HasText v → HasText w)
    → HaveTexts (over ++ w ∷ [])
each_put over v w all also =
    All-append HasText over (w ∷ []) (each_before HasText over (v ∷ []) all)
    (also (each_after HasText over (v ∷ []) all).0, tt)

each_more : (over : List Written) (b : OpenPart) (x : Line) → IsLine x → IsWhere over b → Onward b x
    → HaveTexts (over ++ open_part b) → HaveTexts (parts_at (goes over b x))
each_more over _ _ l w Onward.opens h =
    All-append HasText over (begun_part [] ∷ []) (each_before HasText over [] h) (empty_text, tt)
each_more over _ _ l w (Onward.row cs k c m) h =
    each_put over (begun_part cs) (begun_part (cs ++ (k, c) ∷ [])) h (λ has. search (arith, All-push))
each_more over _ _ l w (Onward.sums cs n k) h =
    each_put over (begun_part cs) (counted_part cs n k) h (λ has. search arith)
each_more over _ _ l w (Onward.follows v) h =
    All-append HasText (over ++ v ∷ []) (begun_part [] ∷ []) h (empty_text, tt)
each_more over _ _ l w (Onward.passes v n m) h = each_put over v (with_faults v n) h (λ has. search arith)
each_more over _ _ l w (Onward.ends v k f m) h =
    All-append HasText (over ++ with_end v f ∷ []) [] (each_put over v (with_end v f) h (λ has. search arith)) tt

where_more : (over : List Written) (b : OpenPart) (x : Line) → IsWhere over b → Onward b x
    → IsWhere (goes over b x).over (goes over b x).last
where_more over b x h1 h2 = grind arith

pub stage_more : (lines : List ℕ) (s : Stage) (x : Line) → IsStage lines s → IsLine x → Onward s.last x
    → IsStage (lines ++ text_of_line x) (to s x)
stage_more lines s x i l o = search (arith, text_more, each_more, where_more)

-- ---- a line that is no header puts a part in the place of the last one
pub counts_one : (past : Bool) (w : Written) → w.end ≡ None → counted past (w ∷ []) ≡ w ∷ []
counts_one past w e = ap (λ (o : Option StreamFault). counted_by past w o []) e

-- what a part that ends with a fault counts as
abbrev pub ending_part : Bool → Written → StreamFault → Written
ending_part true w f = record { part = w.part; faults = w.faults + 1; end = None }
ending_part false w f = with_end w f

pub ending_counts : (past : Bool) (w : Written) (f : StreamFault)
    → counted past (with_end w f ∷ []) ≡ ending_part past w f ∷ []
ending_counts past w f = grind arith

pub record Replaces (past : Bool) (over : List Written) (b : OpenPart) (x : Line) : Type 0 where
  pub old : Written
  pub new : Written
  pub counts_as : Written
  pub was : open_part b ≡ old ∷ []
  pub clear : old.end ≡ None
  pub are : parts_at (goes over b x) ≡ over ++ new ∷ []
  pub counts : counted past (new ∷ []) ≡ counts_as ∷ []

abbrev put : {past : Bool} {over : List Written} {b : OpenPart} {x : Line} (w v : Written) → open_part b ≡ w ∷ []
    → w.end ≡ None → parts_at (goes over b x) ≡ over ++ v ∷ [] → v.end ≡ None → Replaces past over b x
put {past} w v was clear are e =
    record { old = w; new = v; counts_as = v; was = was; clear = clear; are = are; counts = counts_one past v e }

abbrev pub replaces : (past : Bool) (over : List Written) (b : OpenPart) (x : Line) → IsWhere over b → Onward b x
    → IsNoHeader x → Replaces past over b x
replaces past over _ _ w (Onward.row cs k c m) p =
    put (begun_part cs) (begun_part (cs ++ (k, c) ∷ [])) refl refl refl refl
replaces past over _ _ w (Onward.sums cs n l) p = put (begun_part cs) (counted_part cs n l) refl refl refl refl
replaces past over _ _ w (Onward.passes v n m) p = put v (with_faults v n) refl w refl w
replaces past over _ _ w (Onward.ends v l f m) p = record {
  old = v;
  new = with_end v f;
  counts_as = ending_part past v f;
  was = refl;
  clear = w;
  are = append-nil (over ++ with_end v f ∷ []);
  counts = ending_counts past v f;
}
replaces past over _ _ w _ p = absurd p

-- and a header begins one after all
pub header_are : (over : List Written) (b : OpenPart) → Onward b header
    → parts_at (goes over b header) ≡ (over ++ open_part b) ++ begun_part [] ∷ []
header_are over b h1 = grind (arith, append-nil)

-- ---- the joint part
-- a part without a fault, the last of those that are joined
pub record IsLast (past : Bool) (over : List Written) (w h : Written) : Type 0 where
  pub before : Written
  pub joined : IsJointOf past over before
  pub goes_on : before.end ≡ None
  pub next : IsNext before w h

one_next : (past : Bool) (a w h : Written) → w.end ≡ None → AreJoined a (counted past (w ∷ [])) h → IsNext a w h
one_next past a w h e j = search (arith, first_of, counts_one, none_of)

pub last_is : (past : Bool) (over : List Written) (w h : Written) → w.end ≡ None → h.end ≡ None
    → IsJointOf past (over ++ w ∷ []) h → IsLast past over w h
last_is past over w h e n j = search (arith, split, one_next)

-- after a fault the last doesn't count
pub before_is : (past : Bool) (over : List Written) (w h : Written) (f : StreamFault) → w.end ≡ None → h.end ≡ Some f
    → IsJointOf past (over ++ w ∷ []) h → IsJointOf past over h
before_is past over w h f e n j = search (arith, split, one_next)

-- another part in its place
pub in_place : (past : Bool) (over : List Written) (a v u k : Written) → IsJointOf past over a → a.end ≡ None
    → counted past (v ∷ []) ≡ u ∷ [] → IsNext a u k → IsJointOf past (over ++ v ∷ []) k
in_place past over a v u k j n same next =
    glue past over (v ∷ []) a k n j (rw same (one a u k k [] next (no_more k)))

-- ---- what is reported
passed_append : (n : ℕ) (ws vs : List Written)
    → passed_from n (ws ++ vs) ≡ passed_from n ws ++ passed_from (n + length ws) vs
passed_append n [] vs = let same : n ≡ n + 0 = omega arith in ap (λ (m : ℕ). passed_from m vs) same
passed_append n (w ∷ ws) vs =
    search (arith, append_assoc, passed_append (n + 1) ws vs)

-- of a part without a fault nothing is reported
pub passed_silent : (past : Bool) (ws : List Written) (w : Written) → w.end ≡ None
    → passed_lines past (ws ++ w ∷ []) ≡ passed_lines past ws
passed_silent past ws w h1 = grind (arith, passed_append, append-nil)

pub passed_none : (past : Bool) (over : List Written) (b : OpenPart) (x : Line) → (p : Replaces past over b x)
    → p.new.end ≡ None → passed_lines past (parts_at (goes over b x)) ≡ passed_lines past (over ++ open_part b) ++ []
passed_none past over b x p e = search (arith, passed_silent, append-nil)

pub passed_more : (over : List Written) (v : Written) (f : StreamFault) → v.end ≡ None
    → passed_lines true ((over ++ with_end v f ∷ []) ++ [])
    ≡ passed_lines true (over ++ v ∷ []) ++ passed_line (length (over ++ v ∷ [])) f ∷ []
passed_more over v f e =
    search (arith, length-append, append-nil, passed_append, passed_silent)

-- ---- how many parts there are
pub number_same : (over : List Written) (w v : Written) → length (over ++ w ∷ []) ≡ length (over ++ v ∷ [])
number_same over w v = omega (arith, length-append over (w ∷ []), length-append over (v ∷ []))
