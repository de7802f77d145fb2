-- What is reported of a channel in two archives one after another: of each alone, and between them.
use Rattle.std.proofs.Common.{◌≡◌, ℕ, List, [], ◌∷◌, ◌++◌, map, true, Option, Some, None, refl, sym}
use Rattle.std.proofs.Common.{ap, ◌∙◌, subst, append-nil, arith}
use Rattle.std.specs.List.{filter}
use Rattle.std.specs.Option.{option_map}
use Rattle.std.proofs.lemmas.List.{map-append}
use Rattle.std.proofs.ByRecursion.{kept_by_passes}
use Rattle.std.specs.List.{AllByRecursion}
use Rattle.mseed_record.specs.Header.{key_at}
use Rattle.mseed_record.specs.View.{View}
use Rattle.mseed_time.specs.Rate.{Ratio}
use Rattle.mseed_time.specs.declared.fault.TimeFault.{TimeFault}
use Rattle.mseed_audit.specs.declared.channel.Channel.{Channel}
use Rattle.mseed_audit.specs.declared.channel.Head.{Head}
use Rattle.mseed_audit.specs.declared.finding.Finding.{Finding}
use Rattle.mseed_audit.specs.declared.finding.Why.{Why}
use Rattle.mseed_audit.specs.declared.tail.Tail.{Tail}
use Rattle.mseed_audit.specs.Audit.{IsHeadOf, Stands, StandsAt, break_by, head_in, tail_in}
use Rattle.mseed_audit.specs.Channels.{Placed, added_from, is_of_channel, records_of, same_key}
use Rattle.mseed_audit.specs.Judging.{rate_in, rate_unless, time_fault_of}
use Rattle.mseed_audit.specs.Reported.{Reported, AreReportedOf, last_of, reported_with}
use Rattle.mseed_audit.proofs.Maps.{same_is}
use Rattle.mseed_audit.proofs.OneReport.{AreReportedIn, channel_reported, key_of}
use Rattle.mseed_join.specs.PartBorders.{border_at, border_with}
use Rattle.mseed_join.specs.Joining.{border_between, border_of, found_at, moved_channel, moved_head}
use Rattle.mseed_join.specs.Notices.{Notice, border_notices, moved_notices, notice_of, notices_of}
use Rattle.mseed_join.specs.Parts.{Held, IsPartOf, kept_of}
use Rattle.mseed_join.proofs.Following.{HaveOneFinding, last_is}
use Rattle.mseed_join.proofs.Moving.{head_moves, stands_at_moved}
use Rattle.mseed_join.proofs.Placing.{filter_map_same, moved, records_append}
use Rattle.mseed_join.proofs.Reporting.{border_reported, moved_reported, reported_append, reported_border}
use Rattle.mseed_join.proofs.Reporting.{reported_moved, reported_one}

-- ---- those with a key
abbrev pub with_key : List ℕ → List Notice → List Notice
with_key key ns = filter (λ n. same_key key n.key) ns

pub with_reported : (key : List ℕ) (reported : List Reported)
    → with_key key (notices_of reported) ≡ notices_of (reported_with key reported)
with_reported key reported = search (arith, filter_map_same)

pub with_moved : (key : List ℕ) (d e : ℕ) (ns : List Notice)
    → with_key key (moved_notices d e ns) ≡ moved_notices d e (with_key key ns)
with_moved key d e ns = search (arith, filter_map_same)

pub notices_moved : (d e : ℕ) (reported : List Reported)
    → notices_of (map (moved_reported d e) reported) ≡ moved_notices d e (notices_of reported)
notices_moved d e [] = refl
notices_moved d e (t ∷ reported) = search (arith, notices_moved d e reported)

-- ---- a border
-- a record whose rate is known begins in its range
in_range : (fault : Option TimeFault) (rate : Option Ratio) (known : Ratio) → rate_unless fault rate ≡ Some known
    → fault ≡ None
in_range fault rate known h1 = grind arith

-- what is reported of it
same_notice : (key : List ℕ) (t : Option Tail) (h : Option Head) (q : Placed) → key ≡ key_at q.view.bytes
    → IsHeadOf h q → notices_of (border_reported q (border_of t h)) ≡ border_notices (border_at key h (border_of t h))
same_notice key None None q e is = refl
same_notice key None (Some h) q e is = refl
same_notice key (Some t) None q e is = refl
same_notice key (Some t) (Some h) q e is = by (break_by t h.start h.rate)
  where
    by : (why : Option Why) → notices_of (border_reported q (found_at h why))
        ≡ border_notices (border_at key (Some h) (found_at h why))
    by None = refl
    by (Some why) =
        let fault : time_fault_of q.view ≡ None = in_range (time_fault_of q.view) (rate_in q.view) h.rate is.rate in
        λ i. record {
          key = sym e i;
          fault = fault i;
          start = sym is.start i;
          finding = record { number = h.number; offset = h.offset; why = why };
        } ∷ []

-- between a channel and its further records
abbrev pub border_in : List ℕ → Option Channel → Option Channel → List Notice
border_in key c None = []
border_in key c (Some o) = border_notices (border_at key (head_in o.findings) (border_between c o))

same_start : (key : List ℕ) (d e : ℕ) (h : Option Head) (found : Option Finding)
    → border_at key (option_map (moved_head d e) h) found ≡ border_at key h found
same_start key d e h found = grind arith

pub border_is_in : (key : List ℕ) (a : Held) (o : Option Channel) (c : Channel) → o ≡ Some c
    → border_in key (kept_of key a.channels) (option_map (moved_channel a.records a.bytes) o)
    ≡ border_notices (border_with a (key, c))
border_is_in key a o c e = search (arith, head_moves, same_start)

-- ---- records with further ones after
pub record IsReportedWith (key : List ℕ) (c o : Option Channel) (ps qs : List Placed)
    (reported further : List Reported) : Type 0
  where
    pub between : List Reported
    pub all : AreReportedIn None (ps ++ qs) (reported ++ (between ++ further))
    pub notices : notices_of between ≡ border_in key c o

none_reported : (ps : List Placed) (reported : List Reported) → ps ≡ [] → AreReportedIn None ps reported → reported ≡ []
none_reported ps reported h1 h2 = grind arith

-- after none, and before none
reported_after : (ps qs : List Placed) (reported further : List Reported) → ps ≡ [] → AreReportedIn None ps reported
    → AreReportedIn None qs further → AreReportedIn None (ps ++ qs) (reported ++ further)
reported_after ps qs reported further e are more = search (arith, none_reported)

reported_before : (ps qs : List Placed) (reported further : List Reported) → qs ≡ [] → AreReportedIn None ps reported
    → AreReportedIn None qs further → AreReportedIn None (ps ++ qs) (reported ++ further)
reported_before ps qs reported further e are more =
    search (arith, none_reported, append-nil)

no_border : (key : List ℕ) (h : Option Head) → border_at key h None ≡ []
no_border key h = grind arith

reported_both : HaveOneFinding → (key : List ℕ) (c o : Channel) (ps qs : List Placed) (reported further : List Reported)
    → Stands c ps → Stands o qs → ((q : Placed) (rest : List Placed) → qs ≡ q ∷ rest → key ≡ key_at q.view.bytes)
    → AreReportedIn None ps reported → AreReportedIn None qs further
    → IsReportedWith key (Some c) (Some o) ps qs reported further
reported_both only key c o ps qs reported further s t keys are more =
    let border : Option Finding = border_of (tail_in c.findings) (head_in o.findings) in
    let between : List Reported = border_reported t.first border in
    let alone : AreReportedIn None (t.first ∷ t.rest) further = search arith in
    let after_last : AreReportedIn (Some s.last.view) (t.first ∷ t.rest) (between ++ further) =
    search (arith, reported_border) in
    let all : AreReportedIn (last_of None ps) qs (between ++ further) = search (arith, last_is) in
    record {
      between = between;
      all = reported_append None ps qs reported (between ++ further) are all;
      notices = same_notice key (tail_in c.findings) (head_in o.findings) t.first (keys t.first t.rest t.begins)
          t.head;
    }

reported_joined : HaveOneFinding → (key : List ℕ) (c o : Option Channel) (ps qs : List Placed)
    (reported further : List Reported)
    → StandsAt c ps → StandsAt o qs
    → ((q : Placed) (rest : List Placed) → qs ≡ q ∷ rest → key ≡ key_at q.view.bytes)
    → AreReportedIn None ps reported → AreReportedIn None qs further → IsReportedWith key c o ps qs reported further
reported_joined only key None None ps qs reported further s t keys are more =
    search (arith, reported_after)
reported_joined only key None (Some o) ps qs reported further s t keys are more =
    search (arith, reported_after, no_border)
reported_joined only key (Some c) None ps qs reported further s t keys are more =
    search (arith, reported_before)
reported_joined only key (Some c) (Some o) ps qs reported further s t keys are more =
    search (arith, reported_both)

-- the first record of a channel has its key
first_with : (key : List ℕ) (ps : List Placed) (q : Placed) (rest : List Placed)
    → filter (λ p. is_of_channel key p.view) ps ≡ q ∷ rest → is_of_channel key q.view ≡ true
first_with key ps q rest e =
    (subst (λ (qs : List Placed). AllByRecursion (λ p. is_of_channel key p.view ≡ true) qs) e
    (kept_by_passes (λ p. is_of_channel key p.view) ps)).0

moved_first : (key : List ℕ) (d e : ℕ) (ps : List Placed)
    → ((q : Placed) (rest : List Placed) → ps ≡ q ∷ rest → key ≡ key_at q.view.bytes)
    → (q : Placed) (rest : List Placed) → map (moved d e) ps ≡ q ∷ rest → key ≡ key_at q.view.bytes
moved_first key d e [] keys q rest is = cc (is)
moved_first key d e (p ∷ ps) keys q rest is = search arith

-- ---- of two archives one after another
pub reported_at_key : HaveOneFinding → (key : List ℕ) (a b : Held) (xs ys : List View)
    (first second whole : List Reported)
    → IsPartOf a xs → IsPartOf b ys → AreReportedOf (added_from 0 xs) first → AreReportedOf (added_from 0 ys) second
    → AreReportedOf (added_from 0 (xs ++ ys)) whole
    → with_key key (notices_of whole) ≡ with_key key (notices_of first)
    ++ (border_in key (kept_of key a.channels) (option_map (moved_channel a.records a.bytes) (kept_of key b.channels))
    ++ with_key key (moved_notices a.records a.bytes (notices_of second)))
reported_at_key only key a b xs ys first second whole p q alone other all =
    let d : ℕ = a.records in
    let e : ℕ = a.bytes in
    let c : Option Channel = kept_of key a.channels in
    let o : Option Channel = option_map (moved_channel d e) (kept_of key b.channels) in
    let ours : List Placed = records_of key (added_from 0 xs) in
    let theirs : List Placed = records_of key (added_from 0 ys) in
    let ones : List Reported = reported_with key first in
    let twos : List Reported = reported_with key second in
    let keys : (r : Placed) (rest : List Placed) → map (moved d e) theirs ≡ r ∷ rest → key ≡ key_at r.view.bytes =
    search (arith, moved_first, same_is, key_of, first_with) in
    let j : IsReportedWith key c o ours (map (moved d e) theirs) ones (map (moved_reported d e) twos) =
    search (arith, reported_joined, stands_at_moved, channel_reported, reported_moved) in
    let records : ours ++ map (moved d e) theirs ≡ records_of key (added_from 0 (xs ++ ys)) =
    (λ i. ours ++ map (moved (p.records i) (p.bytes i)) theirs) ∙ sym (records_append key xs ys) in
    let same = reported_one only None (records_of key (added_from 0 (xs ++ ys))) (reported_with key whole)
    (ones ++ (j.between ++ map (moved_reported d e) twos))
    (channel_reported (added_from 0 (xs ++ ys)) whole key all)
    (subst (λ (ps : List Placed). AreReportedIn None ps (ones ++ (j.between ++ map (moved_reported d e) twos))) records
    j.all) in
    let last : notices_of (map (moved_reported d e) twos) ≡ with_key key (moved_notices d e (notices_of second)) =
    search (arith, notices_moved, with_reported, with_moved) in
    with_reported key whole ∙ ap notices_of same
    ∙ map-append notice_of ones (j.between ++ map (moved_reported d e) twos)
    ∙ ap (λ (ns : List Notice). notices_of ones ++ ns)
    (map-append notice_of j.between (map (moved_reported d e) twos))
    ∙ (λ i. sym (with_reported key first) i ++ (j.notices i ++ last i))
