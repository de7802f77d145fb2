-- Parts of archives can be joined.
use Rattle.std.proofs.Common.{◌≡◌, ℕ, ◌+◌, ◌^◌, ◌<◌, ◌≤◌, ◌++◌, List, [], ◌∷◌, length, map, Option, Some, None, IfSome}
use Rattle.std.proofs.Common.{false, refl, sym, ap, ◌∙◌, subst, arith, length-append}
use Rattle.std.proofs.ByRecursion.{All-append}
use Rattle.std.proofs.lemmas.List.{length-map}
use Rattle.std.specs.List.{AllByRecursion, concat}
use Rattle.std.specs.Option.{option_map}
use Rattle.mseed_record.specs.View.{View, IsView}
use Rattle.mseed_stream.specs.Device.{BytesRead}
use Rattle.mseed_stream.specs.Walk.{bytes_in}
use Rattle.mseed_stream.specs.declared.fault.StreamFault.{StreamFault}
use Rattle.mseed_audit.specs.declared.channel.Channel.{Channel}
use Rattle.mseed_audit.specs.declared.channel.Findings.{Findings}
use Rattle.mseed_audit.specs.declared.channel.Head.{Head}
use Rattle.mseed_audit.specs.Audit.{StandsAt, head_in}
use Rattle.mseed_audit.specs.Channels.{Placed, added_from, records_of}
use Rattle.mseed_audit.specs.Summary.{Audited}
use Rattle.mseed_join.specs.Joining.{channel_then, channel_joined, moved_channel, moved_findings, moved_head}
use Rattle.mseed_join.specs.Parts.{CountFits, CountsFit, FirstFits, Fits, FitsAt, HeadFits, Held, IsJoint, IsPartOf}
use Rattle.mseed_join.specs.Parts.{bytes_in as size_of, kept_of}
use Rattle.mseed_join.proofs.Moving.{stands_at_moved}
use Rattle.mseed_join.proofs.Placing.{bytes_append, moved}
use Rattle.mseed_join.specs.Lines.{HasChannelLine, HasFindings, HasHead}
use Rattle.mseed_join.specs.AuditPart.{AuditedPart}
use Rattle.mseed_join.specs.Headline.{AreParted, EndsByBytes, IsReadOf, last, more, none as no_pieces}
use Rattle.mseed_join.specs.Joined.{AreJoined, IsJointOf, IsNext, counted, counted_by, moved_fault, none, nothing, one}
use Rattle.mseed_join.specs.Written.{Written}
use Rattle.mseed_join.proofs.Cuts.{IsKnown, known, known_after, known_none, one_known}
use Rattle.mseed_join.proofs.Merging.{joint_of}
use Rattle.mseed_join.proofs.Parting.{sizes}
use Rattle.mseed_join.proofs.Pieces.{AddUp, IsSoFar, at_first, counted_last, further, of_nothing}
use Rattle.mseed_join.proofs.Readable.{IsOne, count_of_key, has_channel, has_line, ones_of}

-- ---- no number passes the limit
if_head : (d e : ℕ) (o : Option Head) → IfSome (option_map (moved_head d e) o) HasHead → HeadFits d e o
if_head d e o h1 = grind arith

findings_move : (d e : ℕ) (f : Findings) → HasFindings (moved_findings d e f)
    → (HeadFits d e (head_in f) × FirstFits d e f) × CountFits f
findings_move d e f h1 = grind (arith, if_head)

counts_of : (key : List ℕ) (c : Channel) → HasChannelLine key c → CountsFit c
counts_of key c l = grind arith

-- the records of a channel, after others
ones_moved : (key : List ℕ) (n size d e all whole : ℕ) (ps : List Placed) → d + n ≤ all → e + size ≤ whole
    → AllByRecursion (IsOne key n size) ps → AllByRecursion (IsOne key all whole) (map (moved d e) ps)
ones_moved key n size d e all whole [] few small h = tt
ones_moved key n size d e all whole (p ∷ ps) few small h =
    search (arith, ones_moved key n size d e all whole ps few small h.1)

module _ (a w b : Held) (vs xs : List View) (p : IsPartOf a vs) (q : IsPartOf w xs) (j : IsJoint a w b)
    (whole : IsPartOf b (vs ++ xs)) (first : AllByRecursion IsView vs) (second : AllByRecursion IsView xs)
    (few : length vs + length xs < 2 ^ 40) (small : size_of vs + size_of xs < 2 ^ 63) where
  -- a channel of the second, moved
  moved_line : (key : List ℕ) (o : Channel) → kept_of key w.channels ≡ Some o
      → HasChannelLine key (moved_channel a.records a.bytes o)
  moved_line key o e =
      let n : ℕ = length vs + length xs in
      let size : ℕ = size_of vs + size_of xs in
      let ps : List Placed = records_of key (added_from 0 xs) in
      let stands : StandsAt (Some o) ps = subst (λ (x : Option Channel). StandsAt x ps) e (q.each key) in
      let moves = stands_at_moved a.records a.bytes (Some o) ps stands in
      has_line key n size few small (moved_channel a.records a.bytes o) (map (moved a.records a.bytes) ps)
      (ones_moved key (length xs) (size_of xs) a.records a.bytes n size ps (omega (arith, p.records))
      (omega (arith, p.bytes)) (ones_of key (size_of xs) xs second (omega arith)))
      (omega (arith, length-map ps (moved a.records a.bytes), count_of_key key xs)) moves

  -- a channel of both
  joint_line : (key : List ℕ) (c : Channel) → kept_of key b.channels ≡ Some c → HasChannelLine key c
  joint_line key c e =
      has_channel (vs ++ xs) (size_of vs + size_of xs) key c (kept_of key b.channels)
      (All-append IsView vs xs first second)
      (omega (arith, length-append vs xs, few)) (omega (arith, bytes_append vs xs)) small e (whole.each key)

  fits_at : (key : List ℕ) (c o : Option Channel) → kept_of key a.channels ≡ c → kept_of key w.channels ≡ o
      → FitsAt a.records a.bytes c o
  fits_at key None (Some o) e f =
      let line = moved_line key o f in
      let moves = findings_move a.records a.bytes o.findings line.findings in
      (moves.0, (line.records, line.samples, moves.1))
  fits_at key (Some c) (Some o) e f =
      let line = moved_line key o f in
      let both = j.each key ∙ (λ i. channel_joined (e i) (option_map (moved_channel a.records a.bytes) (f i))) in
      let joint = joint_line key (channel_then c (moved_channel a.records a.bytes o)) both in (
        (findings_move a.records a.bytes o.findings line.findings).0,
        counts_of key (channel_then c (moved_channel a.records a.bytes o)) joint,
      )
  fits_at key _ None e f = tt

  fits_of : Fits a w
  fits_of = search (arith, fits_at)

-- the records of all
abbrev pub views_of : (archive : List ℕ) (ws : List Written) → AreParted archive ws → List View
views_of _ _ no_pieces = []
views_of _ _ (last archive h p read by) = p.audited.views
views_of _ _ (more archive others h p ws read end parted) = p.audited.views ++ views_of others ws parted

-- ---- one more part
module _ (add_up : AddUp) where
  next_of : (before : List ℕ) (a : Written) (h : BytesRead) (p : AuditedPart h) (so : IsSoFar before a)
      → length so.views + length p.audited.views < 2 ^ 40 → size_of so.views + size_of p.audited.views < 2 ^ 63
      → (b : Written) × IsNext a p.written b
  next_of before a h p so few small =
      let joint = joint_of a.part p.written.part so.part.ascending p.part.ascending in
      let whole : IsPartOf joint.0 (so.views ++ p.audited.views) = search arith in (
        record {
          part = joint.0;
          faults = a.faults + p.written.faults;
          end = option_map (moved_fault a.part.bytes) p.written.end;
        },
        record {
          part = joint.1;
          fits = fits_of a.part p.written.part joint.0 so.views p.audited.views so.part p.part joint.1 whole
              so.are_known.cut.views_are p.audited.all.records.each few small;
          faults = refl;
          faults_fit = omega (arith, so.faults, p.faults);
          end = refl;
        },
      )

  -- ---- all parts
  join_all : (archive before : List ℕ) (ws : List Written) (a : Written) (parted : AreParted archive ws)
      (so : IsSoFar before a) → a.end ≡ None → length so.views + length (views_of archive ws parted) < 2 ^ 40
      → size_of so.views + size_of (views_of archive ws parted) < 2 ^ 63
      → (joint : Written) × AreJoined a (counted false ws) joint
  join_all _ before _ a no_pieces so clear few small = (a, none a)
  join_all _ before _ a (last archive h p read by) so clear few small =
      let it = next_of before a h p so few small in (
        it.0,
        rw (counted_last p.written p.written.end) (one a p.written it.0 it.0 [] it.1 (none it.0)),
      )
  join_all _ before _ a (more archive others h p ws read end parted) so clear few small =
      let later : List View = views_of others ws parted in
      let it = next_of before a h p so (omega (arith, few, length-append p.audited.views later))
      (omega (arith, small, bytes_append p.audited.views later)) in
      let by : EndsByBytes p.written.end = subst EndsByBytes (sym end) tt in
      let now : IsSoFar (before ++ archive) it.0 = further add_up before archive a it.0 h p so clear read by it.1 in
      let goes_on : it.0.end ≡ None = search arith in
      let rest = join_all others (before ++ archive) ws it.0 parted now goes_on
      (omega (arith, few, length-append p.audited.views later, length-append so.views p.audited.views))
      (omega (arith, small, bytes_append p.audited.views later, bytes_append so.views p.audited.views)) in (
        rest.0,
        subst (λ (o : Option StreamFault). AreJoined a (counted_by false p.written o (counted false ws)) rest.0)
            (sym end) (one a p.written it.0 rest.0 (counted false ws) it.1 rest.1),
      )

  -- ---- the records of all
  whole_of : (archive : List ℕ) (ws : List Written) (parted : AreParted archive ws)
      → (end : Option StreamFault) × IsKnown archive (views_of archive ws parted) end
  whole_of _ _ no_pieces = (None, known_none)
  whole_of _ _ (last archive h p read by) = (
    p.audited.end,
    known archive h p.audited.views p.audited.end read p.audited.all (subst EndsByBytes p.end by),
  )
  whole_of _ _ (more archive others h p ws read end parted) =
      let later = whole_of others ws parted in
      let clear : p.audited.end ≡ None = sym p.end ∙ end in (
        option_map (moved_fault (size_of p.audited.views)) later.0,
        known_after archive others p.audited.views (views_of others ws parted) p.audited.end later.0 clear
            (known archive h p.audited.views p.audited.end read p.audited.all
            (subst EndsByBytes (sym clear) tt)) later.1,
      )

  pub can_join : (archive : List ℕ) (ws : List Written) (h : BytesRead) (a : Audited h) → AreParted archive ws
      → length archive < 2 ^ 63 → IsReadOf archive h → EndsByBytes a.end → (joint : Written) × IsJointOf false ws joint
  can_join archive ws h a parted size read by =
      let views : List View = views_of archive ws parted in
      let all = whole_of archive ws parted in
      let both = one_known archive views a.views all.0 a.end all.1 (known archive h a.views a.end read a.all by) in
      let count : length views ≡ length a.views = ap (λ (vs : List View). length vs) both.0 in
      let sum : length archive ≡ length (concat (bytes_in views)) + length all.1.rest = search (arith, length-append) in
      join_all archive [] ws nothing parted (at_first nothing.part of_nothing) refl
      (omega (arith, count, a.all.few)) (omega (arith, sum, sizes views, size))
