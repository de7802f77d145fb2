-- Reading goes along the lines of parts, and of no others.
use Rattle.std.proofs.Common.{◌≡◌, ℕ, ◌≤◌, List, [], ◌∷◌, ◌++◌, Option, Some, None}
use Rattle.std.proofs.Common.{inl, inr, refl, sym, ap, ◌∙◌, subst, arith, append_assoc, append-nil}
use Rattle.std.specs.List.{AllByRecursion}
use Rattle.std.specs.List.Sorted.{IsStrictlySortedBy}
use Rattle.mseed_stream.specs.declared.fault.StreamFault.{StreamFault}
use Rattle.mseed_audit.specs.declared.channel.Channel.{Channel}
use Rattle.mseed_join.specs.Parts.{IsAscending}
use Rattle.mseed_join.specs.Lines.{Line, header, counts}
use Rattle.mseed_join.specs.Written.{Written, HasText}
use Rattle.mseed_join.specs.Reached.{OpenPart, none, begun, whole, Stage, begun_part, open_part, parts_at}
use Rattle.mseed_join.specs.Reached.{IsWhere, start}
use Rattle.mseed_join.specs.private.Steps.{May, to, goes, counted_part}
use Rattle.mseed_join.proofs.Extended.{AllKeys}
use Rattle.mseed_join.proofs.Onward.{Onward, onward}
use Rattle.mseed_join.proofs.Machine.{Entries, all_rows, end_row, faults_row, part_rows, rows, open_rows, Runs}
use Rattle.mseed_join.proofs.Machine.{runs_on}

-- ---- ascending lists
keys_prefix : (P : List ℕ → Type 0) (xs ys : Entries) → AllKeys P (xs ++ ys) → AllKeys P xs
keys_prefix P [] ys h = tt
keys_prefix P (x ∷ xs) ys h = (h.0, keys_prefix P xs ys h.1)

pub ascending_prefix : (xs ys : Entries) → IsAscending (xs ++ ys) → IsAscending xs
unfolding IsStrictlySortedBy
ascending_prefix [] ys s = tt
ascending_prefix (x ∷ xs) ys s = (keys_prefix _ xs ys s.0, ascending_prefix xs ys s.1)

-- ---- along a part
begun_is : (over : List Written) (acc : Entries) (e : List ℕ × Channel) (es : Entries)
    → IsAscending (acc ++ e ∷ es) → IsAscending (acc ++ e ∷ [])
begun_is over acc e es s =
    ascending_prefix (acc ++ e ∷ []) es
    (subst (λ (xs : Entries). IsAscending xs) (sym (append_assoc acc (e ∷ []) es)) s)

rows_run : (over : List Written) (acc es : Entries) → IsAscending (acc ++ es)
    → Runs (record { over = over; last = begun acc }) (rows es) (record { over = over; last = begun (acc ++ es) })
rows_run over acc [] s = search (arith, append-nil)
rows_run over acc (e ∷ es) s =
    let t : IsAscending ((acc ++ e ∷ []) ++ es) = search (arith, append_assoc) in (
      begun_is over acc e es s,
      rw (← (append_assoc acc (e ∷ []) es)) (rows_run over (acc ++ e ∷ []) es t),
    )

-- where reading is after a part, by how it ends
abbrev open_by : List Written → Written → Option StreamFault → Stage
open_by before w None = record { over = before; last = whole w }
open_by before w (Some f) = record { over = before ++ w ∷ []; last = none }

-- a further part can begin
abbrev IsReady : OpenPart → Type 0
IsReady (begun channels) = ⊥
IsReady _ = Unit {0}

ready_by : (before : List Written) (w : Written) (end : Option StreamFault) → IsReady (open_by before w end).last
ready_by before w end = grind arith

parts_by : (before : List Written) (w : Written) (end : Option StreamFault)
    → parts_at (open_by before w end) ≡ before ++ w ∷ []
parts_by before w end = grind (arith, append-nil)

-- from the line of the counts on
ending_run : (before : List Written) (cs : Entries) (records bytes n : ℕ) (end : Option StreamFault)
    → Runs (record { over = before; last = whole (counted_part cs records bytes) })
    (faults_row n ++ end_row bytes end)
    (open_by before (record {
      part = record { channels = cs; records = records; bytes = bytes };
      faults = n;
      end = end;
    }) end)
ending_run before cs records bytes n end = grind arith

part_run_from : (before : List Written) (w : Written) → IsAscending w.part.channels
    → Runs (record { over = before; last = begun [] })
    (rows w.part.channels ++ counts w.part.records w.part.bytes ∷ (faults_row w.faults ++ end_row w.part.bytes w.end))
    (open_by before w w.end)
part_run_from before w s =
    runs_on (record { over = before; last = begun [] }) (record { over = before; last = begun w.part.channels })
    (open_by before w w.end) (rows w.part.channels)
    (counts w.part.records w.part.bytes ∷ (faults_row w.faults ++ end_row w.part.bytes w.end))
    (rows_run before [] w.part.channels s)
    (tt, ending_run before w.part.channels w.part.records w.part.bytes w.faults w.end)

part_run : (over : List Written) (b : OpenPart) (w : Written) → IsReady b → IsAscending w.part.channels
    → Runs (record { over = over; last = b }) (part_rows w) (open_by (over ++ open_part b) w w.end)
part_run over b w h1 h2 = grind (arith, rows, faults_row, end_row, append-nil, part_run_from)

-- ---- along parts
record RunsAll (s : Stage) (ws : List Written) : Type 0 where
  at : Stage
  runs : Runs s (all_rows ws) at
  ready : IsReady at.last
  parts : parts_at at ≡ parts_at s ++ ws

abbrev pub HaveTexts : List Written → Type 0
HaveTexts ws = AllByRecursion HasText ws

parts_run : (s : Stage) (ws : List Written) → IsReady s.last → HaveTexts ws → RunsAll s ws
parts_run s [] r h = record { at = s; runs = refl; ready = r; parts = sym (append-nil (parts_at s)) }
parts_run s (w ∷ ws) r h =
    let next : Stage = open_by (parts_at s) w w.end in
    let more : RunsAll next ws = parts_run next ws (ready_by (parts_at s) w w.end) h.1 in record {
      at = more.at;
      runs = runs_on s next more.at (part_rows w) (all_rows ws)
          (part_run s.over s.last w r h.0.ascending) more.runs;
      ready = more.ready;
      parts = more.parts ∙ ap (λ (vs : List Written). vs ++ ws) (parts_by (parts_at s) w w.end)
          ∙ append_assoc (parts_at s) (w ∷ []) ws;
    }

pub all_run : (ws : List Written) → HaveTexts ws → (at : Stage) × (Runs start (all_rows ws) at × (parts_at at ≡ ws))
all_run ws h = let r : RunsAll start ws = parts_run start ws tt h in (r.at, (r.runs, r.parts))

-- what holds of each of two lists holds of each of the first, and of each of the second
pub each_before : {X : Type 0} (P : X → Type 0) (xs ys : List X) → AllByRecursion P (xs ++ ys) → AllByRecursion P xs
each_before P [] ys all = tt
each_before P (x ∷ xs) ys all = (all.0, each_before P xs ys all.1)

pub each_after : {X : Type 0} (P : X → Type 0) (xs ys : List X) → AllByRecursion P (xs ++ ys) → AllByRecursion P ys
each_after P [] ys all = all
each_after P (x ∷ xs) ys all = each_after P xs ys all.1

-- the rows of two lists of parts, one after another
pub all_rows_append : (ws vs : List Written) → all_rows (ws ++ vs) ≡ all_rows ws ++ all_rows vs
all_rows_append [] vs = refl
all_rows_append (w ∷ ws) vs = search (arith, append_assoc, all_rows_append ws vs)

-- a header goes from after any parts to their being over
header_runs : (at : Stage) → IsReady at.last → to at header ≡ record { over = parts_at at; last = begun [] }
header_runs at r = search (arith, append-nil)

header_may : (b : OpenPart) → IsReady b → May b header
header_may b h1 = grind arith

-- what was read runs to where it is
ended_runs : (ws : List Written) (w : Written) (f : StreamFault) → HaveTexts (ws ++ w ∷ []) → w.end ≡ Some f
    → Runs start (all_rows (ws ++ w ∷ [])) (record { over = ws ++ w ∷ []; last = none })
ended_runs ws w f h e =
    let r : RunsAll start ws = parts_run start ws tt (each_before HasText ws (w ∷ []) h) in
    let has : HasText w = (each_after HasText ws (w ∷ []) h).0 in
    let last : Runs r.at (part_rows w) (record { over = ws ++ w ∷ []; last = none }) =
    subst (λ (t : Stage). Runs r.at (part_rows w) t)
    (ap (λ (o : Option StreamFault). open_by (parts_at r.at) w o) e
    ∙ ap (λ (vs : List Written). record { over = vs ++ w ∷ []; last = none }) r.parts)
    (part_run r.at.over r.at.last w r.ready has.ascending) in
    subst (λ (xs : List Line). Runs start xs (record { over = ws ++ w ∷ []; last = none }))
    (sym (all_rows_append ws (w ∷ [])))
    (runs_on start r.at (record { over = ws ++ w ∷ []; last = none }) (all_rows ws) (part_rows w ++ []) r.runs
    (subst (λ (xs : List Line). Runs r.at xs (record { over = ws ++ w ∷ []; last = none }))
    (sym (append-nil (part_rows w))) last))

pub stage_runs : (over : List Written) (b : OpenPart) → HaveTexts (over ++ open_part b) → IsWhere over b
    → Runs start (all_rows over ++ open_rows b) (record { over = over; last = b })
stage_runs over none h (inl e) =
    subst (λ (ws : List Written). Runs start (all_rows ws ++ []) (record { over = ws; last = none })) (sym e) refl
stage_runs over none h (inr q) =
    let texts : HaveTexts over = each_before HasText over [] h in
    subst (λ (xs : List Line). Runs start xs (record { over = over; last = none })) (sym (append-nil (all_rows over)))
    (subst (λ (ws : List Written). Runs start (all_rows ws) (record { over = ws; last = none })) (sym q.are)
    (ended_runs q.parts q.last q.fault (subst HaveTexts q.are texts) q.ends))
stage_runs over (begun channels) h w =
    let r : RunsAll start over = parts_run start over tt (each_before HasText over (begun_part channels ∷ []) h) in
    let has : HasText (begun_part channels) = (each_after HasText over (begun_part channels ∷ []) h).0 in
    let first : to r.at header ≡ record { over = over; last = begun [] } =
    header_runs r.at r.ready ∙ ap (λ (vs : List Written). record { over = vs; last = begun [] }) r.parts in
    runs_on start r.at (record { over = over; last = begun channels }) (all_rows over) (header ∷ rows channels)
    r.runs (
      header_may r.at.last r.ready,
      subst (λ (t : Stage). Runs t (rows channels) (record { over = over; last = begun channels })) (sym first)
          (rows_run over [] channels has.ascending),
    )
stage_runs over (whole v) h w =
    let r : RunsAll start over = parts_run start over tt (each_before HasText over (v ∷ []) h) in
    let has : HasText v = (each_after HasText over (v ∷ []) h).0 in
    let last : Runs r.at (part_rows v) (record { over = over; last = whole v }) =
    subst (λ (t : Stage). Runs r.at (part_rows v) t)
    (ap (λ (o : Option StreamFault). open_by (parts_at r.at) v o) w
    ∙ ap (λ (vs : List Written). record { over = vs; last = whole v }) r.parts)
    (part_run r.at.over r.at.last v r.ready has.ascending) in
    runs_on start r.at (record { over = over; last = whole v }) (all_rows over) (part_rows v) r.runs last

-- ---- parts that lie ahead
-- of a part that has begun, one that it can become
pub record Grows (w v : Written) : Type 0 where
  pub others : Entries
  pub channels : v.part.channels ≡ w.part.channels ++ others
  pub records : w.part.records ≤ v.part.records
  pub bytes : w.part.bytes ≤ v.part.bytes
  pub faults : w.faults ≤ v.faults

same_grows : (w : Written) → Grows w w
same_grows w = search (arith, append-nil)

-- a list of parts goes on from a part that has begun
pub record GoesOn (over : List Written) (w : Written) (parts : List Written) : Type 0 where
  pub part : Written
  pub others : List Written
  pub grows : Grows w part
  pub are : parts ≡ over ++ part ∷ others

abbrev pub Extends : List Written → OpenPart → List Written → Type 0
Extends over none parts = (others : List Written) × (parts ≡ over ++ others)
Extends over (begun channels) parts = GoesOn over (begun_part channels) parts
Extends over (whole w) parts = GoesOn over w parts

itself : (over : List Written) (b : OpenPart) → Extends over b (over ++ open_part b)
itself over b = grind (arith, same_grows)

back : (over : List Written) (b : OpenPart) (x : Line) (parts : List Written) → Onward b x
    → Extends (goes over b x).over (goes over b x).last parts → Extends over b parts
back over _ _ parts Onward.opens e = (e.part ∷ e.others, e.are)
back over _ _ parts (Onward.row cs k c m) e = search (arith, append_assoc)
back over _ _ parts (Onward.sums cs n l) e = search arith
back over _ _ parts (Onward.follows w) e = search (arith, same_grows, append_assoc)
back over _ _ parts (Onward.passes w n m) e = search arith
back over _ _ parts (Onward.ends w l f m) e =
    search (arith, append-nil, append_assoc)

pub extends : (s t : Stage) (xs : List Line) → Runs s xs t → Extends s.over s.last (parts_at t)
extends s t [] r = subst (λ (u : Stage). Extends s.over s.last (parts_at u)) r (itself s.over s.last)
extends s t (x ∷ xs) r = back s.over s.last x (parts_at t) (onward s.last x r.0) (extends (to s x) t xs r.1)
