-- The part of what was read has a text that can be read.
use Rattle.std.proofs.Common.{◌≡◌, ℕ, zero, suc, ◌+◌, ◌-◌, ◌*◌, ◌^◌, ◌<◌, ◌≤◌, List, [], ◌∷◌, ◌++◌, length, drop}
use Rattle.std.proofs.Common.{ltb, Bool, true, false, cond, Option, Some, None, IfSome, refl, sym, ap, subst, ◌∙◌}
use Rattle.std.proofs.Common.{arith, length-append}
use Rattle.std.specs.Prelude.{⊤, slice_range}
use Rattle.std.specs.List.{All, AllByRecursion, concat, filter}
use Rattle.std.specs.Map.{keys_of}
use Rattle.std.specs.Ordering.{nat_cmp}
use Rattle.std.specs.Cmp.Lexicographic.{slice_cmp}
use Rattle.std.proofs.lemmas.Bool.{and_parts, ltb-true}
use Rattle.std.proofs.lemmas.List.{get_or-drop, length-drop}
use Rattle.std.proofs.lemmas.List.Sums.{count_by-le-length, length-filter}
use Rattle.std.proofs.lemmas.List.Elements.{All-append, All-drop, All-from_get_or, All-take, recursion_from_All}
use Rattle.std.proofs.lemmas.Map.Entries.{lookup_head, lookup_tail}
use Rattle.std.proofs.lemmas.Map.Keys.{sorted_tail}
use Rattle.mseed_time.specs.Btime.{IsInstant}
use Rattle.mseed_time.specs.declared.order.Order.{Order}
use Rattle.mseed_record.specs.Chain.{next_at}
use Rattle.mseed_record.specs.Header.{key_at}
use Rattle.mseed_record.specs.Scan.{Decides, DecidesFrom, at_1000, at_offset}
use Rattle.mseed_record.specs.View.{View, IsView}
use Rattle.mseed_record.specs.declared.fault.FrameFault.{FrameFault}
use Rattle.mseed_record.specs.declared.fault.FrameFault.TheVariants.{Chain, Length, No1000, Outside}
use Rattle.mseed_record.specs.declared.framer.Scan.{Scan}
use Rattle.mseed_record.specs.declared.framer.Scan.TheVariants.{Need, Record, Not}
use Rattle.mseed_record.proofs.Bytes.{key_long}
use Rattle.mseed_record.proofs.Called.{record_long}
use Rattle.mseed_steim.specs.Reading.{count_of}
use Rattle.mseed_stream.specs.Archive.{IsEndOf, is_truncated, truncated}
use Rattle.mseed_stream.specs.Cutting.{read_from}
use Rattle.mseed_stream.specs.Device.{BytesRead}
use Rattle.mseed_stream.specs.Walk.{IsEnd, bytes_in}
use Rattle.mseed_stream.specs.declared.fault.StreamFault.{StreamFault}
use Rattle.mseed_stream.proofs.OneInput.{refused_of}
use Rattle.mseed_stream.proofs.Records.{view_record}
use Rattle.mseed_audit.specs.declared.channel.Channel.{Channel}
use Rattle.mseed_audit.specs.declared.channel.Findings.{Findings}
use Rattle.mseed_audit.specs.declared.channel.Head.{Head}
use Rattle.mseed_audit.specs.declared.finding.Finding.{Finding}
use Rattle.mseed_audit.specs.declared.finding.Why.{Why}
use Rattle.mseed_audit.specs.declared.tail.Tail.{Tail}
use Rattle.mseed_audit.specs.Audit.{AreCounted, IsHead, IsHeadOf, IsTail, IsTailOf, Stands, StandsAt, head_in, tail_in}
use Rattle.mseed_audit.specs.Channels.{Placed, added_from, is_of_channel, numbered, records_of, same_key, sample_count}
use Rattle.mseed_audit.specs.Verdict.{AreFindings, finding_at, none, one}
use Rattle.mseed_audit.proofs.Maps.{same_is, same_itself}
use Rattle.mseed_audit.proofs.Outcomes.{numbered_length}
use Rattle.mseed_audit.proofs.Views.{added_length}
use Rattle.mseed_join.specs.Parts.{IsAscending, bytes_in as size_of, kept_of}
use Rattle.mseed_join.proofs.Turns.{past_head}
use Rattle.mseed_join.specs.Lines.{HasChannelLine, HasFaultLine, HasFinding, HasFindings, HasFrameFault, HasHead}
use Rattle.mseed_join.specs.Lines.{HasTail, HasWhy}
use Rattle.mseed_join.specs.AuditPart.{AuditedPart}
use Rattle.mseed_join.specs.Headline.{IsWithinLimits}
use Rattle.mseed_join.specs.Written.{HasText}
use Rattle.mseed_join.proofs.Cuts.{read_joined, read_size}
use Rattle.mseed_join.proofs.Faults.{found_has, middle}
use Rattle.mseed_join.proofs.Parting.{sizes}
use Rattle.mseed_join.proofs.Ranges.{AreOctets, count_small, octets_of, rate_within, start_within}

-- ---- records among others
pub record IsPlaced (n size : ℕ) (p : Placed) : Type 0 where
  pub is_view : IsView p.view
  pub number : p.number ≤ n
  pub offset : p.offset ≤ size

all_placed : (k o n size : ℕ) (views : List View) → AllByRecursion IsView views → k + length views ≤ n + 1
    → o + size_of views ≤ size → AllByRecursion (IsPlaced n size) (numbered k (added_from o views))
all_placed k o n size [] h few small = tt
all_placed k o n size (v ∷ views) h few small =
    search (arith, all_placed (k + 1) (o + length v.bytes) n size views h.1 (omega (arith, few)) (omega (arith, small)))

-- and of a channel
pub record IsOne (key : List ℕ) (n size : ℕ) (p : Placed) : Type 0 where
  pub placed : IsPlaced n size p
  pub some : 0 < count_of p.view
  pub key_is : key ≡ key_at p.view.bytes

one_of : (key : List ℕ) (n size : ℕ) (p : Placed) → IsPlaced n size p → is_of_channel key p.view ≡ true
    → IsOne key n size p
one_of key n size p placed e =
    let both = and_parts (ltb 0 (count_of p.view)) (same_key key (key_at p.view.bytes)) e in
    record {
      placed = placed;
      some = ltb-true 0 (count_of p.view) both.0;
      key_is = same_is key (key_at p.view.bytes) both.1;
    }

all_ones : (key : List ℕ) (n size : ℕ) (ps : List Placed) → AllByRecursion (IsPlaced n size) ps
    → AllByRecursion (IsOne key n size) (filter (λ p. is_of_channel key p.view) ps)
all_ones key n size [] h = tt
all_ones key n size (p ∷ ps) h = by (is_of_channel key p.view) refl (all_ones key n size ps h.1)
  where
    by : (b : Bool) → is_of_channel key p.view ≡ b
        → AllByRecursion (IsOne key n size) (filter (λ p. is_of_channel key p.view) ps)
        → AllByRecursion (IsOne key n size)
        (cond b (p ∷ filter (λ p. is_of_channel key p.view) ps) (filter (λ p. is_of_channel key p.view) ps))
    by true e rest = (one_of key n size p h.0 e, rest)
    by false e rest = rest

-- the records of a channel
pub ones_of : (key : List ℕ) (size : ℕ) (views : List View) → AllByRecursion IsView views → size_of views ≤ size
    → AllByRecursion (IsOne key (length views) size) (records_of key (added_from 0 views))
ones_of key size views all fits =
    all_ones key (length views) size (numbered 1 (added_from 0 views))
    (all_placed 1 0 (length views) size views all (omega arith) (omega (arith, fits)))

pub count_of_key : (key : List ℕ) (views : List View) → length (records_of key (added_from 0 views)) ≤ length views
count_of_key key views =
    search (arith, length-filter, count_by-le-length, numbered_length, added_length)

-- ---- keys
abbrev IsByte : ℕ → Type 0
IsByte b = b < 2 ^ 8

part_bytes : (b : List ℕ) (i j : ℕ) → All IsByte b → All IsByte (slice_range b i j)
part_bytes b i j h = All-take IsByte (j - i) (drop i b) (All-drop IsByte i b h)

key_bytes : (b : List ℕ) → AreOctets b → AllByRecursion IsByte (key_at b)
key_bytes b octets =
    let all : All IsByte b = All-from_get_or IsByte b 0 (λ i l. octets i) in
    recursion_from_All IsByte (key_at b)
    (All-append IsByte (slice_range b 18 20 ++ slice_range b 8 13 ++ slice_range b 13 15) (slice_range b 15 18)
    (All-append IsByte (slice_range b 18 20 ++ slice_range b 8 13) (slice_range b 13 15)
    (All-append IsByte (slice_range b 18 20) (slice_range b 8 13) (part_bytes b 18 20 all) (part_bytes b 8 13 all))
    (part_bytes b 13 15 all)) (part_bytes b 15 18 all))

-- ---- a channel
module _ (key : List ℕ) (n size : ℕ) (few : n < 2 ^ 40) (small : size < 2 ^ 63) where
  abbrev Ones : List Placed → Type 0
  Ones ps = AllByRecursion (IsOne key n size) ps

  has_head : (h : Head) (p : Placed) → IsOne key n size p → IsHead h p → HasHead h
  has_head h p is begins = record {
    number = omega (arith, begins.number, is.placed.number, few);
    offset = omega (arith, begins.offset, is.placed.offset, small);
    start = subst IsInstant (sym begins.start) (start_within p.view h.rate is.placed.is_view begins.rate);
    rate = rate_within p.view h.rate is.placed.is_view begins.rate;
  }

  has_tail : (t : Tail) (p : Placed) → IsOne key n size p → IsTail t p.view → HasTail t
  has_tail t p is ends = record {
    start = subst IsInstant (sym ends.start) (start_within p.view t.rate is.placed.is_view ends.rate);
    some = omega (arith, ends.samples, is.some);
    samples = omega (arith, ends.samples, count_small p.view is.placed.is_view);
    rate = rate_within p.view t.rate is.placed.is_view ends.rate;
  }

  if_head : (o : Option Head) (p : Placed) → IsOne key n size p → IsHeadOf o p → IfSome o HasHead
  if_head o p h1 h2 = grind (arith, has_head)

  if_tail : (o : Option Tail) (p : Placed) → IsOne key n size p → IsTailOf o p.view → IfSome o HasTail
  if_tail o p h1 h2 = grind (arith, has_tail)

  -- the findings of its records
  abbrev AreHad : List Placed → List Finding → Type 0
  AreHad ps found = AllByRecursion HasFinding found × (length found ≤ length ps)

  had_more : (p : Placed) (ps : List Placed) (why : Option Why) (found : List Finding) → IsOne key n size p
      → IfSome why HasWhy → AreHad ps found → AreHad (p ∷ ps) (finding_at p why ++ found)
  had_more p ps why found h1 h2 h3 = grind arith

  all_had : (before : Option View) (ps : List Placed) (found : List Finding) → IfSome before IsView → Ones ps
      → AreFindings before ps found → AreHad ps found
  all_had before _ _ b h (none _) = (tt, omega arith)
  all_had before _ _ b h (one _ p ps why found is rest) =
      search (arith, had_more, found_has, all_had (Some p.view) ps found h.0.placed.is_view h.1 rest)

  has_findings : (f : Findings) (first last : Placed) (ps : List Placed) (found : List Finding)
      → IsOne key n size first → IsOne key n size last → IsHeadOf (head_in f) first → IsTailOf (tail_in f) last.view
      → AreCounted f found → AreHad ps found → length ps ≤ n → HasFindings f
  has_findings f first last ps found h1 h2 h3 h4 h5 h6 h7 = grind (arith, has_head, has_tail, if_head, if_tail)

  few_samples : (ps : List Placed) → Ones ps → sample_count ps ≤ 2 ^ 16 * length ps
  few_samples [] h = omega arith
  few_samples (p ∷ ps) h = omega (arith, count_small p.view h.0.placed.is_view, few_samples ps h.1)

  pub has_line : (c : Channel) (ps : List Placed) → Ones ps → length ps ≤ n → Stands c ps → HasChannelLine key c
  has_line c ps h l s =
      let first = middle (IsOne key n size) [] s.first s.rest (subst (λ (qs : List Placed). Ones qs) s.begins h) in
      let last = middle (IsOne key n size) s.prefix s.last [] (subst (λ (qs : List Placed). Ones qs) s.ends h) in
      let bytes : List ℕ = s.first.view.bytes in
      let is : IsView s.first.view = first.placed.is_view in
      record {
        key_length = ap (λ (k : List ℕ). length k) first.key_is
            ∙ key_long bytes (omega (arith, record_long bytes (view_record s.first.view is)));
        key_bytes = rw first.key_is (key_bytes bytes (octets_of s.first.view is));
        records = omega (arith, s.records, l, few);
        samples = omega (arith, s.samples, few_samples ps h, l, few);
        findings = has_findings c.findings s.first s.last ps s.found first last s.head s.tail s.counted
            (all_had None ps s.found tt h s.are_found) l;
      }

-- ---- what is kept of each key
after_head : (x : List ℕ × Channel) (rest : List (List ℕ × Channel)) (key : List ℕ) (c : Channel)
    → IsAscending (x ∷ rest) → kept_of key rest ≡ Some c → kept_of key (x ∷ rest) ≡ Some c
after_head x rest key c s is = search (arith, past_head, lookup_tail)

each_kept : (P : List ℕ → Channel → Type 0) (es : List (List ℕ × Channel)) → IsAscending es
    → ((key : List ℕ) (c : Channel) → kept_of key es ≡ Some c → P key c)
    → AllByRecursion (λ (e : List ℕ × Channel). P e.0 e.1) es
each_kept P [] s f = tt
each_kept P (e ∷ es) s f = (
  f e.0 e.1 (lookup_head (same_key e.0) e es (same_itself e.0)),
  each_kept P es (sorted_tail (slice_cmp nat_cmp) e.0 (keys_of es) s)
      (λ key c is. f key c (after_head e es key c s is)),
)

-- ---- the end
octets_in : (bytes : List ℕ) → AllByRecursion (λ b. b < 2 ^ 8) bytes → AreOctets bytes
octets_in [] h i = omega arith
octets_in (b ∷ bytes) h zero = h.0
octets_in (b ∷ bytes) h (suc i) = octets_in bytes h.1 i

abbrev AnswerFits : Scan → Type 0
AnswerFits (Not f) = HasFrameFault f
AnswerFits _ = ⊤

at_1000_by : (low short long : Bool) (e k : ℕ) → e < 2 ^ 8
    → AnswerFits (cond low (Not (Length e)) (cond short (Not Outside) (cond long (Need k) (Record k))))
at_1000_by low short long e k h1 = grind arith

at_1000_fits : (b : List ℕ) (o : ℕ) → AreOctets b → AnswerFits (at_1000 b o)
at_1000_fits b o octets = search (arith, at_1000_by)

at_offset_by : (none back four other eight : Bool) (k n : ℕ) (x : Scan) → AnswerFits x
    → IfSome (cond none (Some (Not No1000)) (cond back (Some (Not Chain)) (cond four (Some (Need k))
    (cond other None (cond eight (Some (Need n)) (Some x)))))) AnswerFits
at_offset_by false false false false false k n x h = h
at_offset_by _ _ _ _ _ k n x h = tt

at_offset_fits : (order : Order) (b : List ℕ) (below o : ℕ) → AreOctets b
    → IfSome (at_offset order b below o) AnswerFits
at_offset_fits order b below o octets = search (arith, at_offset_by, at_1000_fits)

by_offset : (o : Option Scan) (f : FrameFault) → IfSome o AnswerFits → o ≡ Some (Not f) → HasFrameFault f
by_offset o f h e = search arith

from_fits : (order : Order) (b : List ℕ) (below o : ℕ) (os : List ℕ) (f : FrameFault) → AreOctets b
    → DecidesFrom order b below o os (Not f) → HasFrameFault f
from_fits order b below o [] f octets d = search (arith, by_offset, at_offset_fits)
from_fits order b below o (p ∷ os) f octets d = from_fits order b (o + 4) (next_at order b o) os f octets d.2

frame_fits : (b : List ℕ) (f : FrameFault) → AreOctets b → Decides b (Not f) → HasFrameFault f
frame_fits b f h1 h2 = grind (arith, from_fits)

truncated_in : (rest : List ℕ) (have : ℕ) → IsEndOf rest (truncated have) → have ≡ length rest
truncated_in rest _ (is_truncated k l d) = refl

has_end : (end : Option StreamFault) (offset bytes : ℕ) (h : BytesRead) → IsWithinLimits h.bytes → offset ≡ bytes
    → bytes < 2 ^ 63 → IsEnd end offset h → IfSome end (λ fault. HasFaultLine bytes fault)
has_end end offset bytes h h1 h2 h3 h4 =
    grind (arith, get_or-drop, octets_in, frame_fits, refused_of, truncated_in, length-drop)

-- ---- the whole
pub has_channel : (views : List View) (size : ℕ) (key : List ℕ) (c : Channel) (o : Option Channel)
    → AllByRecursion IsView views → length views < 2 ^ 40 → size_of views ≤ size → size < 2 ^ 63 → o ≡ Some c
    → StandsAt o (records_of key (added_from 0 views)) → HasChannelLine key c
has_channel views size key c o all few fits small e stands =
    let is = subst (λ (x : Option Channel). StandsAt x (records_of key (added_from 0 views))) e stands in
    has_line key (length views) size few small c (records_of key (added_from 0 views)) (ones_of key size views all fits)
    (count_of_key key views) is

pub has_text : (h : BytesRead) (a : AuditedPart h) → IsWithinLimits h.bytes → HasText a.written
has_text h a fits =
    let views : List View = a.audited.views in
    let all = a.audited.all in
    let rest : List ℕ = read_from all.offset h in
    let whole = ap (λ (xs : List ℕ). length xs) (read_joined h views a.audited.end all)
    ∙ length-append (concat (bytes_in views)) rest in
    let size : size_of views < 2 ^ 63 = omega (arith, whole, sizes views, fits.size) in
    let end = has_end a.audited.end all.offset a.written.part.bytes h fits
    (read_size h views a.audited.end all ∙ sym a.part.bytes) (omega (arith, a.part.bytes, size)) all.ends in
    record {
      ascending = a.part.ascending;
      channels = each_kept HasChannelLine a.written.part.channels a.part.ascending
          (λ key c is. has_channel views (size_of views) key c (kept_of key a.written.part.channels)
          all.records.each all.few (omega arith) size is (a.part.each key));
      counts = record {
        records_fit = omega (arith, a.part.records, all.few);
        bytes_fit = omega (arith, a.part.bytes, size);
      };
      faults = omega (arith, a.faults);
      end = rw a.end end;
    }
