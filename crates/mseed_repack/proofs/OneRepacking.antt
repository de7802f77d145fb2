-- Packing an archive anew comes to one thing.
use Rattle.mseed_pack.proofs.Called.{OneSeries}
use Rattle.mseed_audit.proofs.OneAudit.{HasOneInput}
use Rattle.std.specs.Prelude.{⊤}
use Rattle.std.proofs.Common.{◌≡◌, ◌≢◌, ℕ, ℤ, ◌+◌, ◌≤◌, ◌<◌, ◌^◌, ◌⊎◌, inl, inr, List, [], ◌∷◌, ◌++◌, length, min}
use Rattle.std.proofs.Common.{length-append, length-take, take, drop, All, Option, Some, None, Result, Ok, Err}
use Rattle.std.proofs.Common.{IsTrue, refl, sym, ap, subst, ◌∙◌, arith, append_assoc, append-nil}
use Rattle.std.proofs.lemmas.Bool.{false≢true}
use Rattle.std.proofs.lemmas.List.{length-drop, length-map, take-append-drop, take_all, drop_all, take_min}
use Rattle.std.proofs.lemmas.List.Elements.{recursion_from_All}
use Rattle.std.proofs.Math.Seq.{take-append_seam}
use Rattle.std.proofs.lemmas.List.Folds.{concat-append}
use Rattle.std.specs.List.{AllByRecursion, concat}
use Rattle.std.proofs.ByRecursion.{All-push}
use Rattle.std.proofs.lemmas.Option.{none-some}
use Rattle.mseed_record.specs.Record.{IsRecord}
use Rattle.mseed_record.specs.View.{View}
use Rattle.mseed_record.proofs.Called.{record_long}
use Rattle.mseed_record.proofs.OneRecord.{one_first}
use Rattle.mseed_stream.specs.Archive.{End, HasNoFurther, IsArchive, clean, frame, truncated, is_clean}
use Rattle.mseed_stream.specs.Device.{BytesRead, BytesWritten, IsPrefixOf, nothing_read}
use Rattle.mseed_stream.specs.Fault.{IsStreamFault}
use Rattle.mseed_stream.specs.Split.{EndsAfter, GoesOnAfter, IsSplitFault}
use Rattle.mseed_stream.specs.Walk.{AreAllViews, bytes_in}
use Rattle.mseed_stream.specs.declared.fault.StreamFault.{StreamFault}
use Rattle.mseed_stream.specs.declared.fault.StreamFault.TheVariants.{Frame, Truncated, Read, Turns, Memory as NoMemory}
use Rattle.mseed_stream.proofs.Ends.{one_end}
use Rattle.mseed_stream.proofs.Records.{one_archive}
use Rattle.mseed_audit.specs.Channels.{Added, Placed, added_from, channel_in}
use Rattle.mseed_audit.specs.Follows.{IsContinuous}
use Rattle.mseed_audit.specs.Scope.{placed_of}
use Rattle.mseed_audit.specs.Series.{Trace}
use Rattle.mseed_audit.specs.Verdict.{AreFindings, AreVerdicts}
use Rattle.mseed_audit.specs.declared.finding.Finding.{Finding}
use Rattle.mseed_audit.specs.declared.verdict.Verdict.{Verdict}
use Rattle.mseed_pack.specs.Fitting.{Fits, IsMisfit}
use Rattle.mseed_pack.specs.Prefixes.{ArePrefixes, HaveTakenPrefixes}
use Rattle.mseed_pack.specs.Packing.{IsPacking, PacksUpTo}
use Rattle.mseed_pack.specs.declared.fault.PackFault.{PackFault}
use Rattle.mseed_pack.specs.declared.options.Options.{Options}
use Rattle.mseed_pack.proofs.Prefixes.{either_bytes}
use Rattle.mseed_repack.specs.OneRepacking.{ComeToOne, FailsBeside, HasWrittenPrefix}
use Rattle.mseed_repack.specs.Repack.{ArePackedInto, CanBePacked, CantBePacked, Channel, IsArchiveOf, IsFirst}
use Rattle.mseed_repack.specs.Repack.{IsFirstFinding}
use Rattle.mseed_repack.specs.Repack.{IsPackedInPart, IsPartPacked, IsRepacking, IsSeriesText, IsUnread, IsWhole}
use Rattle.mseed_repack.specs.Repack.{Wrote, records_in}
use Rattle.mseed_repack.specs.declared.fault.RepackFault.{RepackFault}
use Rattle.mseed_repack.specs.declared.fault.RepackFault.TheVariants.{Stream, Broken, Misfit, Write, Memory}
use Rattle.mseed_repack.proofs.Each.{each_at_back}
use Rattle.mseed_repack.proofs.Texts.{AreEither, AreParts, HasOne, either_part, one_text, part_prefix}

-- Where a whole archive was read, it is one.

all_views : (h : BytesRead) (views : List View) → IsWhole h views → AreAllViews h views None
all_views h views w =
    let whole : h.bytes ≡ concat (bytes_in views) = w.archive.joined ∙ append-nil (concat (bytes_in views)) in
    let behind = drop_all (length h.bytes) h.bytes (omega arith) in
    record {
      offset = length h.bytes;
      records = record {
        each = w.each;
        records = record { joined = take_all (length h.bytes) h.bytes (omega arith) ∙ whole; each = w.archive.each };
        offset_is = sym (ap (λ (xs : List ℕ). length xs) whole);
      };
      ends = ((is_clean behind, w.ended), w.fine);
      few = w.few;
    }

-- How bytes end that are no whole archive.

abbrev at : ℕ → End → Option StreamFault
at n clean = None
at n (frame f) = Some (Frame n f)
at n (truncated have) = Some (Truncated n have)

data Broke (bytes : List ℕ) (fault : StreamFault) : Type 0 where
  by_end : (n : ℕ) (records : List (List ℕ)) (end : End) → EndsAfter bytes n records end → at n end ≡ Some fault
      → Broke bytes fault
  by_turns : (n : ℕ) (records : List (List ℕ)) → GoesOnAfter bytes n records → length records + 1 ≡ 2 ^ 40
      → fault ≡ Turns n → Broke bytes fault

broke : (bytes : List ℕ) (fault : StreamFault) → fault ≢ NoMemory → IsSplitFault fault bytes → Broke bytes fault
broke bytes (Frame n f) other is = by_end n is.0 (frame f) is.1 refl
broke bytes (Truncated n have) other is = by_end n is.0 (truncated have) is.1 refl
broke bytes (Read n) other is = absurd is
broke bytes (Turns n) other is = by_turns n is.0 is.1 is.2 refl
broke bytes NoMemory other is = absurd (other refl)

-- Records that stand one after another at the beginning of an archive are its first.
no_more : (rest r tail : List ℕ) → HasNoFurther rest → IsRecord r → rest ≡ r ++ tail → ⊥
no_more rest r tail ends is e =
    let prefix : take (length r) rest ≡ r = ap (take (length r)) e ∙ take-append_seam r tail in
    ends (length r) (omega (arith, ap (λ (xs : List ℕ). length xs) e, length-append r tail))
    (subst IsRecord (sym prefix) is)

fewer : (bytes tail rest : List ℕ) (xs all : List (List ℕ)) → AllByRecursion IsRecord xs → bytes ≡ concat xs ++ tail
    → IsArchive bytes all rest → length xs ≤ length all
fewer bytes tail rest [] all each e a = omega arith
fewer bytes tail rest (x ∷ xs) [] each e a =
    absurd (no_more _ _ _ a.no_further each.0 (sym a.joined ∙ (e ∙ append_assoc x (concat xs) tail)))
fewer bytes tail rest (x ∷ xs) (r ∷ all) each e a =
    let first = one_first bytes x r (concat xs ++ tail) (concat all ++ rest) each.0 a.each.0
    (e ∙ append_assoc x (concat xs) tail) (a.joined ∙ append_assoc r (concat all) rest) in
    let less = fewer (concat xs ++ tail) tail rest xs all each.1 refl
    (record { joined = first.1; each = a.each.1; no_further = a.no_further }) in
    omega (arith, less)

as_many : (bytes tail rest : List ℕ) (xs ys : List (List ℕ)) → AllByRecursion IsRecord xs → AllByRecursion IsRecord ys
    → bytes ≡ concat xs ++ tail → bytes ≡ concat ys ++ rest → length xs ≡ length ys → xs ≡ ys
as_many bytes tail rest [] [] a b d e same = refl
as_many bytes tail rest (x ∷ xs) (y ∷ ys) a b d e same =
    let first = one_first bytes x y (concat xs ++ tail) (concat ys ++ rest) a.0 b.0
    (d ∙ append_assoc x (concat xs) tail) (e ∙ append_assoc y (concat ys) rest) in
    let others = as_many (concat xs ++ tail) tail rest xs ys a.1 b.1 refl first.1 (omega (arith, same)) in
    λ i. first.0 i ∷ others i
as_many bytes tail rest xs ys a b d e same = absurd (omega (arith, same))

-- and the further one after them is there
turns_fewer : (bytes rest : List ℕ) (n : ℕ) (records all : List (List ℕ)) → GoesOnAfter bytes n records
    → IsArchive bytes all rest → length records + 1 ≤ length all
turns_fewer bytes rest n records all g a =
    let behind : List ℕ = drop n bytes in
    let k : ℕ = g.further.0 in
    let last : List ℕ = take k behind in
    let one : concat (records ++ last ∷ []) ≡ concat records ++ last = concat-append records (last ∷ [])
    ∙ ap (λ (xs : List ℕ). concat records ++ xs) (append-nil last) in
    let joined : bytes ≡ concat (records ++ last ∷ []) ++ drop k behind =
    sym (take-append-drop n bytes) ∙ (ap (λ (xs : List ℕ). xs ++ behind) g.before.joined
    ∙ (ap (λ (xs : List ℕ). concat records ++ xs) (sym (take-append-drop k behind))
    ∙ (sym (append_assoc (concat records) last (drop k behind))
    ∙ ap (λ (xs : List ℕ). xs ++ drop k behind) (sym one)))) in
    let less : length (records ++ last ∷ []) ≤ length all =
    fewer bytes (drop k behind) rest (records ++ last ∷ []) all
    (All-push IsRecord records last g.before.each g.further.1.1) joined a in
    omega (arith, less, length-append records (last ∷ []))

turns_at : (bytes : List ℕ) (n : ℕ) (records : List (List ℕ)) → GoesOnAfter bytes n records
    → length (concat records) ≡ n
turns_at bytes n records h = grind (arith, record_long, length-take, length-drop)

same_split : (bytes : List ℕ) (f g : StreamFault) → Broke bytes f → Broke bytes g → f ≡ g
same_split bytes f g (by_end n rs end a d) (by_end m qs other b e) =
    let both = one_archive bytes rs qs (drop n bytes) (drop m bytes) a.archive b.archive in
    let offset : n ≡ m = sym a.offset_is ∙ (ap (λ (xs : List (List ℕ)). length (concat xs)) both.0 ∙ b.offset_is) in
    let ends = one_end (drop m bytes) end other (rw both.1 at a.ends) b.ends in
    let one : Some f ≡ Some g = sym d ∙ (ap (λ (k : ℕ). at k end) offset ∙ (ap (at m) ends ∙ e)) in
    cc
same_split bytes f g (by_turns n rs a count d) (by_turns m qs b number e) =
    let same : rs ≡ qs = as_many _ _ _ _ _ a.before.each b.before.each (sym (take-append-drop n bytes) ∙ ap (λ (xs :
    List ℕ). xs ++ drop n bytes) a.before.joined) (sym (take-append-drop m bytes) ∙ ap (λ (xs : List ℕ). xs ++ drop m
    bytes) b.before.joined) (omega (arith, count, number)) in
    let offset : n ≡ m = sym (turns_at bytes n rs a)
    ∙ (ap (λ (xs : List (List ℕ)). length (concat xs)) same ∙ turns_at bytes m qs b) in
    d ∙ (ap Turns offset ∙ sym e)
same_split bytes f g (by_end n rs end a d) (by_turns m qs b count e) = grind (arith, turns_fewer)
same_split bytes f g (by_turns n rs a count d) (by_end m qs other b e) = grind (arith, turns_fewer)

-- How an input fails that isn't read to its end.
same_stream : (h : BytesRead) (f g : StreamFault) → f ≢ NoMemory → g ≢ NoMemory → IsStreamFault f nothing_read h
    → IsStreamFault g nothing_read h → f ≡ g
same_stream h f g h' h2 h3 h4 = grind (arith)

goes_on : (h : BytesRead) (f : StreamFault) → f ≢ NoMemory → IsStreamFault f nothing_read h → IsTrue h.is_at_end → ⊥
goes_on h f h' h2 h3 = grind (arith, false≢true)

one_unread : (h : BytesRead) (f g : StreamFault) → f ≢ NoMemory → g ≢ NoMemory → IsUnread f h → IsUnread g h → f ≡ g
one_unread h f g o p (inl a) (inl b) = same_stream h f g o p a b
one_unread h f g o p (inl a) (inr b) = absurd (goes_on h f o a b.0)
one_unread h f g o p (inr a) (inl b) = absurd (goes_on h g p b a.0)
one_unread h f g o p (inr a) (inr b) = same_split h.bytes f g (broke h.bytes f o a.2) (broke h.bytes g p b.2)

whole_end : (bytes : List ℕ) (f : StreamFault) (all : List (List ℕ)) → Broke bytes f → IsArchive bytes all []
    → length all < 2 ^ 40 → ⊥
whole_end bytes f all (by_end n rs end a d) archive few =
    let both = one_archive bytes rs all (drop n bytes) [] a.archive archive in
    let ends = one_end [] end clean (rw both.1 at a.ends) (is_clean refl) in
    none-some f (ap (at n) (sym ends) ∙ d)
whole_end bytes f all (by_turns n rs a count d) archive few = grind (arith, turns_fewer)

pub never_unread : (h : BytesRead) (f : StreamFault) (views : List View) → f ≢ NoMemory → IsUnread f h
    → IsWhole h views → ⊥
never_unread h f views o (inl a) w = goes_on h f o a w.ended
never_unread h f views o (inr a) w =
    whole_end _ _ _ (broke h.bytes f o a.2) w.archive (omega (arith, w.few, length-map views (λ (v : View). v.bytes)))

-- The first channel of a kind is one.
module _ (Before : List ℕ → Type 0) where
  first_alike : (xs ys : List Channel) (k l : List ℕ) (v w : Verdict) (a b : List Channel)
      → xs ++ (k, v) ∷ a ≡ ys ++ (l, w) ∷ b → AllByRecursion (λ (c : Channel). Before c.0) xs
      → AllByRecursion (λ (c : Channel). Before c.0) ys → ¬ (Before k) → ¬ (Before l) → k ≡ l
  first_alike [] [] k l v w a b e p q n m = let head : (k, v) ≡ (l, w) = cc in ap (λ (c : Channel). c.0) head
  first_alike [] (y ∷ ys) k l v w a b e p q n m = let head : (k, v) ≡ y = cc in absurd (n (rw (← head) at q.0))
  first_alike (x ∷ xs) [] k l v w a b e p q n m = let head : x ≡ (l, w) = cc in absurd (m (rw head at p.0))
  first_alike (x ∷ xs) (y ∷ ys) k l v w a b e p q n m =
      let tail : xs ++ (k, v) ∷ a ≡ ys ++ (l, w) ∷ b = cc in
      first_alike xs ys k l v w a b tail p.1 q.1 n m

  same_first : {At To : List ℕ → Type 0} {k l : List ℕ} {cs : List Channel} → IsFirst Before At k cs
      → IsFirst Before To l cs → (At k → ¬ (Before k)) → (To l → ¬ (Before l)) → k ≡ l
  same_first h h2 h3 h4 = grind (arith, first_alike, recursion_from_All)

  -- where all are of another kind, there is none
  pub none_first : {At : List ℕ → Type 0} {k : List ℕ} {cs : List Channel} → IsFirst Before At k cs
      → (At k → ¬ (Before k)) → All (λ (c : Channel). Before c.0) cs → ⊥
  none_first {k = k} is not all =
      not is.is_it (each_at_back (λ (c : Channel). Before c.0) is.prefix ((k, is.verdict) ∷ is.back)
      (recursion_from_All (λ (c : Channel). Before c.0) _ (rw is.parts at all))).0

abbrev Own : Options → List View → Channel → List ℕ → Type 0
Own o views c own = IsSeriesText o (records_in views c.0) own

abbrev Part : Options → List View → Channel → List ℕ → Type 0
Part o views c own = IsPackedInPart o (records_in views c.0) own

clipped : (xs : List ℕ) (n : ℕ) → (m : ℕ) × ((m ≤ length xs) × (take n xs ≡ take m xs))
clipped xs n = (min n (length xs), (omega arith, sym (take_min n xs)))

-- A continuous channel isn't broken, and one that can be packed isn't one that can't.

abbrev Whole : List View → List ℕ → Type 0
Whole views key = IsContinuous (records_in views key)

-- what the channels of an archive are found to be: all can be packed, or one is the first that isn't continuous, or
-- can't
abbrev Judged : Options → List View → List Channel → RepackFault → Type 0
Judged o views cs (Stream f) = ⊥
Judged o views cs (Broken key f) = IsFirst (Whole views) (λ k. ¬ (Whole views k)) key cs
    × IsFirstFinding (channel_in key (placed_of views)) f
Judged o views cs (Misfit key n f) = All (λ (c : Channel). Whole views c.0) cs
    × IsFirst (CanBePacked o views) (CantBePacked o views f) key cs × (n ≡ 1)
Judged o views cs Write = All (λ (c : Channel). Whole views c.0) cs
    × All (λ (c : Channel). CanBePacked o views c.0) cs
Judged o views cs Memory = ⊥

-- why nothing, or a part, was written
data Came (o : Options) (h : BytesRead) (f : RepackFault) : Type 0 where
  refused : f ≡ Memory → Came o h f
  unread : (g : StreamFault) → g ≢ NoMemory → IsUnread g h → f ≡ Stream g → Came o h f
  judged : (views : List View) (cs : List Channel) → IsArchiveOf h views cs → Judged o views cs f → Came o h f

came : (o : Options) (h : BytesRead) (f : RepackFault) (old new : BytesWritten)
    → IsRepacking {U = ⊤} o (Err f) h old new → Came o h f
came o h (Stream f) old new p = unread f p.0 p.1 refl
came o h (Broken key f) old new p = judged p.0 p.1.0 p.1.1.0 (p.1.1.1, p.1.1.2)
came o h (Misfit key n f) old new p = judged p.0 p.1.0 p.1.1.0 (p.1.1.1, p.1.1.2, p.1.1.3)
came o h Write old new p = judged p.0 p.1.0 p.1.1.0.archive (p.1.1.0.continuous, p.1.1.0.fit)
came o h Memory old new p = refused refl

-- By laws of lower crates.
module _
    (input : HasOneInput)
    (list : (added : List Added) (vs ws : List Channel) → AreVerdicts added vs → AreVerdicts added ws → vs ≡ ws)
    (finding : (before : Option View) (ps : List Placed) (a b : List Finding) → AreFindings before ps a
    → AreFindings before ps b → a ≡ b)
    (series : OneSeries)
    (packing : (s : Trace) (o : Options) (records others : List (List ℕ)) → IsPacking s o records
    → IsPacking s o others → records ≡ others)
    (prefix : (s : Trace) (o : Options) (leading records : List (List ℕ)) (left : List ℤ) → PacksUpTo s o leading left
    → IsPacking s o records → (rest : List (List ℕ)) × (records ≡ leading ++ rest))
    (prefixes : (s : Trace) (o : Options) (records others : List (List ℕ)) (left rest : List ℤ)
    → PacksUpTo s o records left → PacksUpTo s o others rest → ArePrefixes records others)
    (misfit : (s : Trace) (o : Options) (f g : PackFault) → IsMisfit s o f → IsMisfit s o g → f ≡ g)
    (fine : (s : Trace) (o : Options) (f : PackFault) → Fits s o → ¬ (IsMisfit s o f))
    (o : Options) (h : BytesRead) where
  -- what is so of one archive that was read is so of any other
  same_archive : (P : List View → List Channel → Type 0) {views others : List View} {cs ds : List Channel}
      → IsArchiveOf h views cs → IsArchiveOf h others ds → P views cs → P others ds
  same_archive P {views} {others} {cs} {ds} a b p =
      let same = (input h views others None None (all_views h views a.whole) (all_views h others b.whole)).0 in
      let channels = list (added_from 0 others) cs ds (rw same at a.verdicts) b.verdicts in
      rw (same, channels) at p

  cant : (views : List View) (f : PackFault) (key : List ℕ) → CantBePacked o views f key → ¬ (CanBePacked o views key)
  cant views f key is can =
      let same : is.trace ≡ can.trace = series is.trace can.trace (records_in views key) is.series can.series in
      fine can.trace o f can.fits (rw same at is.misfit)

  -- the text that is written, channel before channel
  one_own : (views : List View) → HasOne (Own o views)
  one_own views c t u a b =
      let p = a.packed in
      let q = b.packed in
      let same = series p.trace q.trace (records_in views c.0) p.series q.series in
      let one = packing q.trace o a.records b.records (rw same at p.packing) q.packing in
      a.text_is ∙ ap concat one ∙ sym b.text_is

  -- a part of the records is a prefix of them
  own_part : (views : List View) → AreParts (Own o views) (Part o views)
  own_part views c part own p a =
      let same = series a.packed.trace p.trace (records_in views c.0) a.packed.series p.series in
      let others = prefix p.trace o p.records a.records p.left p.packing (rw same at a.packed.packing) in
      let leading : List ℕ = take p.taken (concat p.records) in
      let behind : List ℕ = drop p.taken (concat p.records) in (
        behind ++ concat others.0,
        a.text_is ∙ ap concat others.1 ∙ concat-append p.records others.0
            ∙ ap (λ (xs : List ℕ). xs ++ concat others.0) (sym (take-append-drop p.taken (concat p.records)))
            ∙ append_assoc leading behind (concat others.0)
            ∙ ap (λ (xs : List ℕ). xs ++ (behind ++ concat others.0)) (sym p.text_is),
      )

  -- of two parts one is a prefix of the other
  two_own : (views : List View) → AreEither (Part o views)
  two_own views c own its p q =
      let same : q.trace ≡ p.trace = series q.trace p.trace (records_in views c.0) q.series p.series in
      let i = clipped (concat p.records) p.taken in
      let j = clipped (concat q.records) q.taken in
      rw (p.text_is, i.1.1, q.text_is, j.1.1)
      (either_bytes p.records q.records i.0 j.0 i.1.0 j.1.0
      (prefixes p.trace o p.records q.records p.left q.left p.packing (rw same at q.packing)))

  written_prefix : (views : List View) (cs : List Channel) (old new before after : BytesWritten)
      → Wrote (ArePackedInto o views cs) 0 old new → Wrote (IsPartPacked o views cs) 1 before after
      → HasWrittenPrefix old new before after
  written_prefix views cs old new before after w v =
      let found : IsPrefixOf v.text w.text = part_prefix _ _ (one_own views) (own_part views) _ _ _ w.text_is v.text_is
      in
      record {
        prefix = v.text;
        rest = found.0;
        here = w.bytes ∙ ap (λ (xs : List ℕ). old.bytes ++ xs) found.1;
        there = v.bytes;
      }

  -- what is found of the channels is one thing
  one_judged : (views : List View) (cs : List Channel) (f g : RepackFault) → Judged o views cs f → Judged o views cs g
      → f ≡ g
  one_judged views cs (Broken k d) (Broken l e) p q =
      let key : k ≡ l = same_first (Whole views) p.0 q.0 (λ no yes. no yes) (λ no yes. no yes) in
      let lists = finding None (channel_in l (placed_of views)) (d ∷ p.1.0) (e ∷ q.1.0) (rw key at p.1.1) q.1.1 in
      cc
  one_judged views cs (Misfit k m f) (Misfit l n g) p q =
      let key : k ≡ l = same_first (CanBePacked o views) p.1 q.1 (cant views f k) (cant views g l) in
      let at : CantBePacked o views f l = rw key at p.1.is_it in
      let its = q.1.is_it in
      let same : at.trace ≡ its.trace = series at.trace its.trace (records_in views l) at.series its.series in
      let fault : f ≡ g = misfit its.trace o f g (rw same at at.misfit) its.misfit in
      cc
  one_judged views cs Write Write p q = refl
  one_judged views cs (Broken k d) (Misfit l n g) p q = absurd (none_first (Whole views) p.0 (λ no yes. no yes) q.0)
  one_judged views cs (Broken k d) Write p q = absurd (none_first (Whole views) p.0 (λ no yes. no yes) q.0)
  one_judged views cs (Misfit k m f) (Broken l e) p q = absurd (none_first (Whole views) q.0 (λ no yes. no yes) p.0)
  one_judged views cs Write (Broken l e) p q = absurd (none_first (Whole views) q.0 (λ no yes. no yes) p.0)
  one_judged views cs (Misfit k m f) Write p q = absurd (none_first (CanBePacked o views) p.1 (cant views f k) q.1)
  one_judged views cs Write (Misfit l n g) p q = absurd (none_first (CanBePacked o views) q.1 (cant views g l) p.1)
  one_judged views cs f g p q = grind (arith)

  one_came : (f g : RepackFault) → Came o h f → Came o h g → (f ≡ Memory) ⊎ ((g ≡ Memory) ⊎ (f ≡ g))
  one_came f g (refused e) b = inl e
  one_came f g a (refused d) = inr (inl d)
  one_came f g (unread x n u e) (unread y m v d) = inr (inr (e ∙ ap Stream (one_unread h x y n m u v) ∙ sym d))
  one_came f g (unread x n u e) (judged ws ds b k) = absurd (never_unread h x ws n u b.whole)
  one_came f g (judged vs cs a j) (unread y m v d) = absurd (never_unread h y vs m v a.whole)
  one_came f g (judged vs cs a j) (judged ws ds b k) =
      inr (inr (one_judged ws ds f g (same_archive (λ us es. Judged o us es f) a b j) k))

  beside : (fault : RepackFault) (old new before after : BytesWritten) → IsRepacking {U = ⊤} o (Ok tt) h old new
      → IsRepacking {U = ⊤} o (Err fault) h before after → FailsBeside fault old new before after
  beside (Stream f) old new before after p q = absurd (never_unread h f p.0 q.0 q.1 p.1.1.0.archive.whole)
  beside (Broken key f) old new before after p q =
      let e = one_judged q.0 q.1.0 Write (Broken key f) (same_archive (λ us es. Judged o us es Write)
      p.1.1.0.archive q.1.1.0 (p.1.1.0.continuous, p.1.1.0.fit)) (q.1.1.1, q.1.1.2) in
      cc
  beside (Misfit key n f) old new before after p q =
      let e = one_judged q.0 q.1.0 Write (Misfit key n f) (same_archive (λ us es. Judged o us es Write)
      p.1.1.0.archive q.1.1.0 (p.1.1.0.continuous, p.1.1.0.fit)) (q.1.1.1, q.1.1.2, q.1.1.3) in
      cc
  beside Write old new before after p q = written_prefix q.0 q.1.0 old new before after
      (same_archive (λ vs xs. Wrote (ArePackedInto o vs xs) 0 old new) p.1.1.0.archive q.1.1.0.archive p.1.1.1) q.1.1.1
  beside Memory old new before after p q = tt

  failed_both : (f g : RepackFault) (old new before after : BytesWritten) → IsRepacking {U = ⊤} o (Err f) h old new
      → IsRepacking {U = ⊤} o (Err g) h before after → f ≡ Write → g ≡ Write → HaveTakenPrefixes old new before after
  failed_both f g old new before after p q d e =
      let mine : IsRepacking {U = ⊤} o (Err Write) h old new = rw d at p in
      let its : IsRepacking {U = ⊤} o (Err Write) h before after = rw e at q in
      let w = same_archive (λ vs xs. Wrote (IsPartPacked o vs xs) 1 old new) mine.1.1.0.archive its.1.1.0.archive
      mine.1.1.1 in
      let v = its.1.1.1 in
      let vs : List View = its.0 in
      record {
        here = w.text;
        there = v.text;
        bytes = w.bytes;
        others = v.bytes;
        prefixes = either_part (Own o vs) (Part o vs) (one_own vs) (own_part vs) (two_own vs) its.1.0 w.text v.text
            w.text_is v.text_is;
      }

  -- packing an archive anew comes to one text or to one fault, memory aside
  pub one_repacking : (result other : Result ⊤ RepackFault) (old new before after : BytesWritten)
      → IsRepacking o result h old new → IsRepacking o other h before after
      → ComeToOne result other old new before after
  one_repacking (Ok u) (Ok v) old new before after p q =
      let w = same_archive (λ vs xs. Wrote (ArePackedInto o vs xs) 0 old new) p.1.1.0.archive q.1.1.0.archive p.1.1.1 in
      let v = q.1.1.1 in
      let text : w.text ≡ v.text = one_text (Own o q.0) (one_own q.0) q.1.0 w.text v.text w.text_is v.text_is in
      record { text = v.text; here = w.bytes ∙ ap (λ (xs : List ℕ). old.bytes ++ xs) text; there = v.bytes }
  one_repacking (Ok u) (Err g) old new before after p q = beside g old new before after p q
  one_repacking (Err f) (Ok v) old new before after p q = beside f before after old new q p
  one_repacking (Err f) (Err g) old new before after p q = search (arith, one_came, came, failed_both)
