-- What is found at the borders of parts, with one more line.
use Rattle.std.proofs.Common.{◌≡◌, ℕ, List, [], ◌∷◌, ◌++◌, Bool, Option, Some, None, refl, sym, ap, arith}
use Rattle.std.proofs.Common.{◌∙◌, subst, append_assoc, append-nil}
use Rattle.mseed_stream.specs.declared.fault.StreamFault.{StreamFault}
use Rattle.mseed_audit.specs.declared.channel.Channel.{Channel}
use Rattle.mseed_join.specs.Lines.{header}
use Rattle.mseed_join.specs.Borders.{AreBorders, AreBordersOf, Border, border_line, border_lines}
use Rattle.mseed_join.specs.Borders.{border_with, borders_with}
use Rattle.mseed_join.specs.Joined.{AreJoined, IsJointOf, counted, nothing}
use Rattle.mseed_join.specs.Written.{Written}
use Rattle.mseed_join.specs.Reached.{OpenPart, begun_part, open_part, parts_at}
use Rattle.mseed_join.specs.private.Steps.{goes}
use Rattle.mseed_join.proofs.Onward.{Onward}
use Rattle.mseed_join.proofs.Machine.{Entries, rows_append}
use Rattle.mseed_join.proofs.Extended.{LeavesKept}
use Rattle.mseed_join.proofs.Sums.{IsFirst, counted_on, counted_stop, first_of, joined_one, joined_one_more}
use Rattle.mseed_join.proofs.Taken.{IsLast, counts_one, header_are}

-- ---- one part and more
pub record IsFirstOf (before : List Written) (w : Written) (ws : List Written) (found : List Border) : Type 0 where
  pub joint : Written
  pub joined : AreJoined nothing before joint
  pub rest : List Border
  pub more : AreBorders (before ++ w ∷ []) ws rest
  pub are : found ≡ borders_with joint.part w.part.channels ++ rest

pub first_found : (before : List Written) (w : Written) (ws : List Written) (found : List Border)
    → AreBorders before (w ∷ ws) found → IsFirstOf before w ws found
first_found before w ws found (AreBorders.one _ a _ _ rest joined more) = search arith

pub none_found : (before : List Written) (found : List Border) → AreBorders before [] found → found ≡ []
none_found before found (AreBorders.none _) = refl

found_same : (before ws : List Written) (found other : List Border) → found ≡ other → AreBorders before ws found
    → AreBorders before ws other
found_same before ws found other e b = subst (λ (bs : List Border). AreBorders before ws bs) e b

-- ---- one more at the end
pub found_after : (before ws : List Written) (a w : Written) (found : List Border) → AreBorders before ws found
    → AreJoined nothing (before ++ ws) a
    → AreBorders before (ws ++ w ∷ []) (found ++ borders_with a.part w.part.channels)
found_after before [] a w found b j =
    let bare : AreJoined nothing before a = search (arith, append-nil) in
    let new : List Border = borders_with a.part w.part.channels in
    found_same before (w ∷ []) (new ++ []) (found ++ new)
    (append-nil new ∙ ap (λ (bs : List Border). bs ++ new) (sym (none_found before found b)))
    (AreBorders.one before a w [] [] bare (AreBorders.none (before ++ w ∷ [])))
found_after before (v ∷ ws) a w found b j =
    let f : IsFirstOf before v ws found = first_found before v ws found b in
    let new : List Border = borders_with a.part w.part.channels in
    let old : List Border = borders_with f.joint.part v.part.channels in
    let further : AreJoined nothing ((before ++ v ∷ []) ++ ws) a = search (arith, append_assoc) in
    found_same before (v ∷ (ws ++ w ∷ [])) (old ++ (f.rest ++ new)) (found ++ new)
    (sym (append_assoc old f.rest new) ∙ ap (λ (bs : List Border). bs ++ new) (sym f.are))
    (AreBorders.one before f.joint v (ws ++ w ∷ []) (f.rest ++ new) f.joined
    (found_after (before ++ v ∷ []) ws a w f.rest f.more further))

pub record IsLastOf (before ws : List Written) (w : Written) (found : List Border) : Type 0 where
  pub rest : List Border
  pub those : AreBorders before ws rest
  pub joint : Written
  pub joined : AreJoined nothing (before ++ ws) joint
  pub are : found ≡ rest ++ borders_with joint.part w.part.channels

pub last_found : (before ws : List Written) (w : Written) (found : List Border) → AreBorders before (ws ++ w ∷ []) found
    → IsLastOf before ws w found
last_found before [] w found b =
    let f : IsFirstOf before w [] found = first_found before w [] found b in
    let new : List Border = borders_with f.joint.part w.part.channels in record {
      rest = [];
      those = AreBorders.none before;
      joint = f.joint;
      joined = subst (λ (ts : List Written). AreJoined nothing ts f.joint) (sym (append-nil before)) f.joined;
      are = f.are ∙ ap (λ (bs : List Border). new ++ bs) (none_found (before ++ w ∷ []) f.rest f.more)
          ∙ append-nil new;
    }
last_found before (v ∷ ws) w found b =
    let f : IsFirstOf before v (ws ++ w ∷ []) found = first_found before v (ws ++ w ∷ []) found b in
    let l : IsLastOf (before ++ v ∷ []) ws w f.rest = last_found (before ++ v ∷ []) ws w f.rest f.more in
    let old : List Border = borders_with f.joint.part v.part.channels in record {
      rest = old ++ l.rest;
      those = AreBorders.one before f.joint v ws l.rest f.joined l.those;
      joint = l.joint;
      joined = subst (λ (ts : List Written). AreJoined nothing ts l.joint) (append_assoc before (v ∷ []) ws) l.joined;
      are = f.are ∙ ap (λ (bs : List Border). old ++ bs) l.are
          ∙ sym (append_assoc old l.rest (borders_with l.joint.part w.part.channels));
    }

-- ---- of the parts so far
-- after a fault the last doesn't count, and others may stand there
pub skipped : (past : Bool) (over vs us : List Written) (h : Written) (f : StreamFault) → h.end ≡ Some f
    → IsJointOf past over h → (found : List Border) → AreBordersOf past (over ++ vs) found
    → AreBordersOf past (over ++ us) (found ++ [])
skipped past over vs us h f n j found b =
    search (arith, found_same, append-nil, counted_stop)

-- the last, and another in its place
pub replaced : (past : Bool) (over : List Written) (w v u h : Written) → IsLast past over w h → w.end ≡ None
    → counted past (v ∷ []) ≡ u ∷ [] → (further found : List Border)
    → ((a : Written) → IsJointOf past over a
    → borders_with a.part u.part.channels ≡ borders_with a.part w.part.channels ++ further)
    → AreBordersOf past (over ++ w ∷ []) found → AreBordersOf past (over ++ v ∷ []) (found ++ further)
replaced past over w v u h l e one further found same b =
    search (arith, last_found, counted_on, counts_one, append_assoc, found_same, found_after)

-- ---- a header
begins : (past : Bool) (ws : List Written) (h : Written) → IsJointOf past ws h → (found : List Border)
    → AreBordersOf past ws found → AreBordersOf past (ws ++ begun_part [] ∷ []) (found ++ [])
begins past ws h j found b = by h.end refl
  where
    by : (o : Option StreamFault) → h.end ≡ o → AreBordersOf past (ws ++ begun_part [] ∷ []) (found ++ [])
    by (Some f) n =
        skipped past ws [] (begun_part [] ∷ []) h f n j found
        (subst (λ (ts : List Written). AreBordersOf past ts found) (sym (append-nil ws)) b)
    by None n =
        subst (λ (ts : List Written). AreBorders [] ts (found ++ []))
        (sym (counted_on past ws (begun_part [] ∷ []) h n j))
        (found_after [] (counted past ws) h (begun_part []) found b j)

pub header_borders : (past : Bool) (over : List Written) (b : OpenPart) (h : Written) → Onward b header
    → IsJointOf past (over ++ open_part b) h → (found : List Border) → AreBordersOf past (over ++ open_part b) found
    → AreBordersOf past (parts_at (goes over b header)) (found ++ [])
header_borders past over b h o j found c = rw (header_are over b o) (begins past (over ++ open_part b) h j found c)

-- ---- a channel
pub with_one : (a : Written) (cs : Entries) (e : List ℕ × Channel)
    → borders_with a.part (cs ++ e ∷ []) ≡ borders_with a.part cs ++ border_with a.part e
with_one a [] e = append-nil (border_with a.part e)
with_one a (d ∷ cs) e = search (arith, append_assoc, with_one a cs e)

-- what is found after the channels before it is found after the parts before
pub same_border : (a h : Written) (key : List ℕ) (c : Channel) → LeavesKept key a.part h.part
    → border_with h.part (key, c) ≡ border_with a.part (key, c)
same_border a h key c left = search arith

-- ---- their lines
pub lines_append : (bs ds : List Border) → border_lines (bs ++ ds) ≡ border_lines bs ++ border_lines ds
lines_append = rows_append border_line border_lines refl (λ b bs. refl)

-- ---- there is one list of them
found_one_from : (before ws : List Written) (found other : List Border) → AreBorders before ws found
    → AreBorders before ws other → found ≡ other
found_one_from before [] found other b d = none_found before found b ∙ sym (none_found before other d)
found_one_from before (w ∷ ws) found other b d =
    let f : IsFirstOf before w ws found = first_found before w ws found b in
    let g : IsFirstOf before w ws other = first_found before w ws other d in
    let same : f.joint ≡ g.joint = joined_one nothing before f.joint g.joint f.joined g.joined in
    let rest : f.rest ≡ g.rest = found_one_from (before ++ w ∷ []) ws f.rest g.rest f.more g.more in
    f.are ∙ (λ i. borders_with (same i).part w.part.channels ++ rest i) ∙ sym g.are

pub found_one : (past : Bool) (ws : List Written) (found other : List Border)
    → AreBordersOf past ws found → AreBordersOf past ws other → found ≡ other
found_one past ws found other b d = found_one_from [] (counted past ws) found other b d

-- and there is one list where the parts can be joined
some_found : (before ws : List Written) (a h : Written) → AreJoined nothing before a → AreJoined a ws h
    → (found : List Border) × AreBorders before ws found
some_found before [] a h j k = ([], AreBorders.none before)
some_found before (w ∷ ws) a h j k =
    let f : IsFirst a w ws h = first_of a w h ws k in
    let more = some_found (before ++ w ∷ []) ws f.between h (joined_one_more nothing a f.between w before j f.next)
    f.more in
    (borders_with a.part w.part.channels ++ more.0, AreBorders.one before a w ws more.0 j more.1)

pub found_some : (past : Bool) (ws : List Written) (h : Written) → IsJointOf past ws h
    → (found : List Border) × AreBordersOf past ws found
found_some past ws h j = some_found [] (counted past ws) nothing h (AreJoined.none nothing) j
