-- What is reported of archives one after another.
use Rattle.std.proofs.Common.{◌≡◌, ℕ, ◌+◌, List, [], ◌∷◌, ◌++◌, Option, None, refl, sym, ap, ◌∙◌, subst, append_assoc}
use Rattle.std.proofs.Common.{append-nil, arith, IsPermutation, false}
use Rattle.std.specs.List.{AllByRecursion}
use Rattle.std.specs.Option.{option_map}
use Rattle.std.proofs.lemmas.List.{map-append}
use Rattle.std.proofs.lemmas.List.Sorted.{IsPermutation-append_comm, IsPermutation-append_left}
use Rattle.std.proofs.lemmas.List.Sorted.{IsPermutation-append_right, IsPermutation-refl, IsPermutation-trans}
use Rattle.mseed_record.specs.View.{View, IsView}
use Rattle.mseed_record.proofs.Called.{record_long}
use Rattle.mseed_stream.specs.Device.{BytesRead}
use Rattle.mseed_stream.specs.declared.fault.StreamFault.{StreamFault}
use Rattle.mseed_stream.proofs.Records.{view_record}
use Rattle.mseed_audit.specs.Channels.{Added, added_from}
use Rattle.mseed_audit.specs.Each.{AuditedEach}
use Rattle.mseed_audit.specs.Text.{reported_line, reported_lines}
use Rattle.mseed_audit.specs.Reported.{Reported, AreReportedOf, none as nothing_reported}
use Rattle.mseed_join.specs.PartBorders.{borders_with}
use Rattle.mseed_join.specs.Notices.{AreMerged, HaveBytes, Notice, border_notice, border_notices, moved_notice}
use Rattle.mseed_join.specs.Notices.{moved_notices, notices_of}
use Rattle.mseed_join.specs.Parts.{Held, IsPartOf}
use Rattle.mseed_join.proofs.Rising.{reported_first, reported_rise}
use Rattle.mseed_join.specs.AuditPart.{ReportedPart}
use Rattle.mseed_join.specs.Borders.{AreBorders, AreBordersOf, Border, border_line, border_lines, notice_lines}
use Rattle.mseed_join.specs.Headline.{AreParted, EndsByBytes, IsReadOf, SaysAudit}
use Rattle.mseed_join.specs.HeadlineEach.{AreReportedApart, SaysEach, last, more, none as none_apart}
use Rattle.mseed_join.specs.Joined.{AreJoined, IsJointOf, IsNext, counted, counted_by, moved_fault, nothing}
use Rattle.mseed_join.specs.Written.{Written}
use Rattle.mseed_join.proofs.Bordering.{first_found, none_found}
use Rattle.mseed_join.proofs.Cuts.{IsKnown, known, one_known}
use Rattle.mseed_join.proofs.Pieces.{AddUp, HaveOneVerdicts, HaveVerdicts, IsSoFar, at_first, counted_last, further}
use Rattle.mseed_join.proofs.Pieces.{joined_more, of_nothing, says}
use Rattle.mseed_join.proofs.Sums.{joined_one, joined_one_more, none_of}

abbrev pub AddFindings : Type 0
AddFindings = (a b : Held) (xs ys : List View) (first second whole : List Reported) → IsPartOf a xs → IsPartOf b ys
    → HaveBytes (xs ++ ys) → AreReportedOf (added_from 0 xs) first → AreReportedOf (added_from 0 ys) second
    → AreReportedOf (added_from 0 (xs ++ ys)) whole
    → AreMerged (notices_of first ++ moved_notices a.records a.bytes (notices_of second))
    (border_notices (borders_with a b.channels)) (notices_of whole)

-- records aren't empty
have_bytes : (views : List View) → AllByRecursion IsView views → HaveBytes views
have_bytes [] all = tt
have_bytes (v ∷ views) all =
    search (arith, record_long, view_record, have_bytes views all.1)

-- ---- notices that go up
moved_same : (d e k l : ℕ) (ns : List Notice) → d ≡ k → e ≡ l → moved_notices d e ns ≡ moved_notices k l ns
moved_same d e k l ns p q = λ i. moved_notices (p i) (q i) ns

-- a notice whose number and offset are so
abbrev noticed : Notice → ℕ → ℕ → Notice
noticed n number offset = record {
  key = n.key;
  fault = n.fault;
  start = n.start;
  finding = record { number = number; offset = offset; why = n.finding.why };
}

noticed_same : (n : Notice) (d e k l : ℕ) (ns ms : List Notice) → d ≡ k → e ≡ l → ns ≡ ms
    → noticed n d e ∷ ns ≡ noticed n k l ∷ ms
noticed_same n d e k l ns ms p q r = λ i. noticed n (p i) (q i) ∷ r i

moved_twice : (d e f g : ℕ) (ns : List Notice)
    → moved_notices d e (moved_notices f g ns) ≡ moved_notices (d + f) (e + g) ns
moved_twice d e f g [] = refl
moved_twice d e f g (n ∷ ns) = search (arith, noticed_same, moved_twice d e f g ns)

moved_still : (ns : List Notice) → moved_notices 0 0 ns ≡ ns
moved_still [] = refl
moved_still (n ∷ ns) = search (arith, noticed_same, moved_still ns)

-- ---- of all archives so far, with more after
pub record IsMergedTo (before archive : List ℕ) (reported : List Notice) (found : List Border) (a joint : Written)
    (so : IsSoFar before a) : Type 0 where
  pub all : IsSoFar (before ++ archive) joint
  pub rest : List View
  pub those_after : all.views ≡ so.views ++ rest
  pub merged : (first whole : List Reported) → AreReportedOf (added_from 0 so.views) first
      → AreReportedOf (added_from 0 all.views) whole
      → IsPermutation (notices_of first ++ (moved_notices a.part.records a.part.bytes reported ++ border_notices found))
      (notices_of whole)

abbrev pub HaveOneReport : Type 0
HaveOneReport = (added : List Added) (a b : List Reported) → AreReportedOf added a → AreReportedOf added b → a ≡ b

-- the same part, and the same bytes
abbrev as_joint : (bytes : List ℕ) (a joint : Written) → a ≡ joint → IsSoFar bytes a → IsSoFar bytes joint
as_joint bytes a joint same so = record {
  views = so.views;
  are_known = subst (λ (w : Written). IsKnown bytes so.views w.end) same so.are_known;
  part = subst (λ (w : Written). IsPartOf w.part so.views) same so.part;
  faults = ap (λ (w : Written). w.faults) (sym same) ∙ so.faults;
}

abbrev as_bytes : (bytes others : List ℕ) (a : Written) → bytes ≡ others → IsSoFar bytes a → IsSoFar others a
as_bytes bytes others a same so = record {
  views = so.views;
  are_known = subst (λ (xs : List ℕ). IsKnown xs so.views a.end) same so.are_known;
  part = so.part;
  faults = so.faults;
}

-- nothing is after
ends_here : HaveOneReport → (before : List ℕ) (a joint : Written) (so : IsSoFar before a) → a ≡ joint
    → IsMergedTo before [] [] [] a joint so
ends_here single before a joint so same = record {
  all = as_joint (before ++ []) a joint same (as_bytes before (before ++ []) a (sym (append-nil before)) so);
  rest = [];
  those_after = sym (append-nil so.views);
  merged = λ first whole one all.
      let reported : first ≡ whole = single (added_from 0 so.views) first whole one all in
      subst (λ (ns : List Notice). IsPermutation ns (notices_of whole)) (sym (append-nil (notices_of first)))
      (rw (← reported) (IsPermutation-refl (notices_of first)));
}

-- one archive is after
piece : AddFindings → (before : List ℕ) (a : Written) (so : IsSoFar before a) (h : BytesRead) (p : ReportedPart h)
    → AllByRecursion IsView (so.views ++ p.parted.audited.views) → (first whole : List Reported)
    → AreReportedOf (added_from 0 so.views) first
    → AreReportedOf (added_from 0 (so.views ++ p.parted.audited.views)) whole
    → IsPermutation (notices_of first ++ (moved_notices a.part.records a.part.bytes (notices_of p.reported)
    ++ border_notices (borders_with a.part p.parted.written.part.channels))) (notices_of whole)
piece add before a so h p views first whole here all =
    let moved : List Notice = moved_notices a.part.records a.part.bytes (notices_of p.reported) in
    let between : List Notice = border_notices (borders_with a.part p.parted.written.part.channels) in
    let both : List View = so.views ++ p.parted.audited.views in
    let merged : AreMerged (notices_of first ++ moved) between (notices_of whole) =
    add a.part p.parted.written.part so.views p.parted.audited.views first p.reported whole so.part p.parted.part
    (have_bytes both views) here p.are_reported all in
    rw (← (append_assoc (notices_of first) moved between)) merged.members

-- ---- in another order
grouped : (fs ms ns bs rs : List Notice) → fs ++ ((ms ++ ns) ++ (bs ++ rs)) ≡ (fs ++ ms) ++ ((ns ++ bs) ++ rs)
grouped fs ms ns bs rs = search (arith, append_assoc)

shuffled : (fs ms ns bs rs : List Notice)
    → IsPermutation (fs ++ ((ms ++ ns) ++ (bs ++ rs))) ((fs ++ (ms ++ bs)) ++ (ns ++ rs))
shuffled fs ms ns bs rs =
    let other = append_assoc fs (ms ++ bs) (ns ++ rs) ∙ grouped fs ms bs ns rs in
    subst (λ (xs : List Notice). IsPermutation xs ((fs ++ (ms ++ bs)) ++ (ns ++ rs))) (sym (grouped fs ms ns bs rs))
    (subst (λ (xs : List Notice). IsPermutation ((fs ++ ms) ++ ((ns ++ bs) ++ rs)) xs) (sym other)
    (IsPermutation-append_right (fs ++ ms) ((ns ++ bs) ++ rs) ((bs ++ ns) ++ rs)
    (IsPermutation-append_left rs (ns ++ bs) (bs ++ ns) (IsPermutation-append_comm ns bs))))

-- what is reported after what is reported of all so far
carried : (fs ms ns bs rs mid whole : List Notice) → IsPermutation (fs ++ (ms ++ bs)) mid
    → IsPermutation (mid ++ (ns ++ rs)) whole → IsPermutation (fs ++ ((ms ++ ns) ++ (bs ++ rs))) whole
carried fs ms ns bs rs mid whole first those_after =
    IsPermutation-trans (fs ++ ((ms ++ ns) ++ (bs ++ rs))) ((fs ++ (ms ++ bs)) ++ (ns ++ rs)) whole
    (shuffled fs ms ns bs rs)
    (IsPermutation-trans ((fs ++ (ms ++ bs)) ++ (ns ++ rs)) (mid ++ (ns ++ rs)) whole
    (IsPermutation-append_left (ns ++ rs) (fs ++ (ms ++ bs)) mid first) those_after)

-- ---- the borders of one part among all
pub record IsBordered (befores : List Written) (a w : Written) (ws : List Written) (found : List Border) : Type 0 where
  pub rest : List Border
  pub more : AreBorders (befores ++ w ∷ []) ws rest
  pub are : found ≡ borders_with a.part w.part.channels ++ rest

bordered : (befores : List Written) (a w : Written) (ws : List Written) (found : List Border)
    → AreJoined nothing befores a → AreBorders befores (w ∷ ws) found → IsBordered befores a w ws found
bordered befores a w ws found joined borders =
    search (arith, first_found, joined_one)

-- ---- all archives
one_piece : AddUp → AddFindings → (archive before : List ℕ) (befores : List Written)
    (found : List Border) (a joint : Written) (so : IsSoFar before a) (h : BytesRead) (p : ReportedPart h)
    → IsReadOf archive h → EndsByBytes p.parted.written.end → a.end ≡ None → AreJoined nothing befores a
    → AreJoined a (p.parted.written ∷ []) joint → AreBorders befores (p.parted.written ∷ []) found
    → IsMergedTo before archive (notices_of p.reported) found a joint so
one_piece add_up add archive before befores found a joint so h p read by clear joined parts borders =
    let w : Written = p.parted.written in
    let first = joined_more a w joint [] parts in
    let now = further add_up before archive a first.0 h p.parted so clear read by first.1.0 in
    let b : IsBordered befores a w [] found = bordered befores a w [] found joined borders in
    let are = b.are ∙ ap (λ (bs : List Border). borders_with a.part w.part.channels ++ bs)
    (none_found (befores ++ w ∷ []) b.rest b.more)
    ∙ append-nil (borders_with a.part w.part.channels) in record {
      all = as_joint (before ++ archive) first.0 joint (none_of first.0 joint first.1.1) now;
      rest = p.parted.audited.views;
      those_after = refl;
      merged = λ one whole reported all.
          rw are (piece add before a so h p now.are_known.cut.views_are one whole reported all);
    }

more_pieces : AddUp → AddFindings → (archive others before : List ℕ) (reported : List Notice) (found rest : List Border)
    (a b joint : Written) (so : IsSoFar before a) (h : BytesRead) (p : ReportedPart h)
    (now : IsSoFar (before ++ archive) b) → now.views ≡ so.views ++ p.parted.audited.views
    → IsNext a p.parted.written b → found ≡ borders_with a.part p.parted.written.part.channels ++ rest
    → IsMergedTo (before ++ archive) others reported rest b joint now
    → IsMergedTo before (archive ++ others) (notices_of p.reported
    ++ moved_notices p.parted.written.part.records p.parted.written.part.bytes reported) found a joint so
more_pieces add_up add archive others before reported found rest a b joint so h p now views next are m =
    let w : Written = p.parted.written in
    let d : ℕ = a.part.records in
    let e : ℕ = a.part.bytes in
    let own : List Notice = notices_of p.reported in
    let later : List Notice = moved_notices w.part.records w.part.bytes reported in
    let between : List Notice = border_notices (borders_with a.part w.part.channels) in
    let known = subst (λ (vs : List View). AllByRecursion IsView vs) views now.are_known.cut.views_are in
    let there = moved_twice d e w.part.records w.part.bytes reported
    ∙ moved_same (d + w.part.records) (e + w.part.bytes) b.part.records b.part.bytes reported (sym next.part.records)
    (sym next.part.bytes) in
    let notices : moved_notices d e (own ++ later) ++ border_notices found
    ≡ (moved_notices d e own ++ moved_notices b.part.records b.part.bytes reported)
    ++ (between ++ border_notices rest) =
    (λ i. map-append (moved_notice d e) own later i
    ++ (ap border_notices are ∙ map-append border_notice (borders_with a.part w.part.channels) rest) i)
    ∙ ap (λ (ns : List Notice). (moved_notices d e own ++ ns) ++ (between ++ border_notices rest)) there in record {
      all = as_bytes ((before ++ archive) ++ others) (before ++ (archive ++ others)) joint
          (append_assoc before archive others) m.all;
      rest = p.parted.audited.views ++ m.rest;
      those_after = m.those_after ∙ ap (λ (vs : List View). vs ++ m.rest) views
          ∙ append_assoc so.views p.parted.audited.views m.rest;
      merged = λ first whole one all.
          let mid = reported_first now.views m.rest whole
          (subst (λ (vs : List View). AreReportedOf (added_from 0 vs) whole) m.those_after all) in
          let near = subst (λ (vs : List View). AreReportedOf (added_from 0 vs) mid.0) views mid.1 in
          subst (λ (ns : List Notice). IsPermutation (notices_of first ++ ns) (notices_of whole)) (sym notices)
          (carried (notices_of first) (moved_notices d e own) (moved_notices b.part.records b.part.bytes reported)
          between
          (border_notices rest) (notices_of mid.0) (notices_of whole)
          (piece add before a so h p known first mid.0 one near) (m.merged mid.0 whole mid.1 all));
    }

merge_all : HaveOneReport → AddUp → AddFindings → (archive before : List ℕ) (ws befores : List Written)
    (reported : List Notice) (found : List Border) (a joint : Written) (so : IsSoFar before a)
    → AreReportedApart archive ws reported → a.end ≡ None → AreJoined nothing befores a
    → AreJoined a (counted false ws) joint
    → AreBorders befores (counted false ws) found → IsMergedTo before archive reported found a joint so
merge_all single add_up add _ before _ befores _ found a joint so none_apart clear joined parts borders =
    rw (none_found befores found borders) (ends_here single before a joint so (none_of a joint parts))
merge_all single add_up add _ before _ befores _ found a joint so (last archive h p read by) clear joined parts
    borders =
    let one = counted_last p.parted.written p.parted.written.end in
    one_piece add_up add archive before befores found a joint so h p read by clear joined
    (subst (λ (ws : List Written). AreJoined a ws joint) one parts)
    (subst (λ (ws : List Written). AreBorders befores ws found) one borders)
merge_all single add_up add _ before _ befores _ found a joint so
    (more archive others h p ws reported read end apart)
    clear joined parts borders =
    let w : Written = p.parted.written in
    let on : AreJoined a (w ∷ counted false ws) joint =
    subst (λ (o : Option StreamFault). AreJoined a (counted_by false w o (counted false ws)) joint) end parts in
    let along : AreBorders befores (w ∷ counted false ws) found =
    subst (λ (o : Option StreamFault). AreBorders befores (counted_by false w o (counted false ws)) found) end
    borders in
    let first = joined_more a w joint (counted false ws) on in
    let b : Written = first.0 in
    let now = further add_up before archive a b h p.parted so clear read (subst EndsByBytes (sym end) tt) first.1.0 in
    let goes_on : b.end ≡ None = first.1.0.end
    ∙ ap (λ (o : Option StreamFault). option_map (moved_fault a.part.bytes) o) end in
    let c = bordered befores a w (counted false ws) found joined along in
    more_pieces add_up add archive others before reported found c.rest a b joint so h p now refl first.1.0 c.are
    (merge_all single add_up add others (before ++ archive) ws (befores ++ w ∷ []) reported c.rest b joint now
    apart
    goes_on (joined_one_more nothing a b w befores joined first.1.0) first.1.1 c.more)

-- ---- their lines
pub reported_text : (reported : List Reported) → notice_lines (notices_of reported) ≡ reported_lines reported
reported_text [] = refl
reported_text (t ∷ reported) = ap (λ (xs : List ℕ). reported_line t ++ xs) (reported_text reported)

pub border_text : (found : List Border) → notice_lines (border_notices found) ≡ border_lines found
border_text [] = refl
border_text (b ∷ found) = ap (λ (xs : List ℕ). border_line b ++ xs) (border_text found)

-- ---- what the audit of all says
pub parted_of_reported : (archive : List ℕ) (ws : List Written) (reported : List Notice)
    → AreReportedApart archive ws reported
    → AreParted archive ws
parted_of_reported _ _ _ none_apart = AreParted.none
parted_of_reported _ _ _ (last archive h a read by) = AreParted.last archive h a.parted read by
parted_of_reported _ _ _ (more archive others h a ws reported read end apart) =
    AreParted.more archive others h a.parted ws read end (parted_of_reported others ws reported apart)

pub each_says : HaveOneReport → AddUp → AddFindings → HaveVerdicts → HaveOneVerdicts
    → (archive : List ℕ) (ws : List Written) (reported : List Notice) (found : List Border) (joint : Written)
    (h : BytesRead) (a : AuditedEach h) → AreReportedApart archive ws reported → IsJointOf false ws joint
    → AreBordersOf false ws found → IsReadOf archive h → EndsByBytes a.audited.end → SaysEach reported found joint a
each_says single add_up add verdicts one archive ws reported found joint h a apart joined borders read by =
    let m = merge_all single add_up add archive [] ws [] reported found nothing joint (at_first nothing.part of_nothing)
    apart
    refl (AreJoined.none nothing) joined borders in
    let both = one_known archive m.all.views a.audited.views joint.end a.audited.end m.all.are_known
    (known archive h a.audited.views a.audited.end read a.audited.all by) in
    let whole = subst (λ (vs : List View). AreReportedOf (added_from 0 vs) a.reported) (sym both.0) a.are_reported in
    let says_it : SaysAudit joint a.audited =
    says add_up verdicts one archive ws joint h a.audited (parted_of_reported archive ws reported apart) joined read
    by in
    record {
      merged = notices_of a.reported;
      are_merged = record {
        members = rw (← (moved_still reported)) (m.merged [] a.reported (nothing_reported []) whole);
        rise = reported_rise m.all.views a.reported (have_bytes m.all.views m.all.are_known.cut.views_are) whole;
      };
      text = λ i. reported_text a.reported i ++ says_it.text i;
    }
