-- Those records of an archive that are asked for.
use Rattle.std.proofs.Common.{◌≡◌, ◌≢◌, ℕ, ◌<◌, ◌≤◌, ◌^◌, List, [], ◌∷◌, ◌++◌, length, map, refl}
use Rattle.std.proofs.Common.{sym, ap, subst, arith}
use Rattle.std.specs.Prelude.{IfOk}
use Rattle.std.proofs.Common.{Bool, append-nil, length-append, Result, Ok, Err, ◌∙◌, zero, suc}
use Rattle.std.specs.List.{AllByRecursion, count_by, filter}
use Rattle.std.proofs.lemmas.List.{length-map}
use Rattle.std.proofs.lemmas.List.Sums.{count_by-le-length, length-filter}
use Rattle.mseed_record.specs.View.{View, IsView}
use Rattle.mseed_record.specs.Viewing.{view_of}
use Rattle.mseed_record.specs.declared.view.RecordView.{RecordView}
use Rattle.mseed_stream.specs.Device.{BytesRead, BytesWritten}
use Rattle.mseed_stream.specs.LineWritten.{WritesLine}
use Rattle.mseed_stream.specs.Archive.{IsArchive}
use Rattle.mseed_stream.specs.Split.{bytes_of_each}
use Rattle.mseed_stream.specs.declared.fault.StreamFault.{StreamFault}
use Rattle.mseed_stream.specs.declared.fault.StreamFault.TheVariants.{Memory as NoMemory}
use Rattle.mseed_select.specs.Select.{selected_bytes}
use Rattle.mseed_record.specs.Selection.{Selection, asks_for, lacks_time}
use Rattle.mseed_audit.specs.Channels.{Placed}
use Rattle.mseed_audit.specs.Scope.{asked_of}
use Rattle.mseed_steim.specs.declared.encoding.Encoding.{Encoding}
use Rattle.mseed_pack.specs.declared.options.Options.{Options}
use Rattle.mseed_repack.specs.ByStretches.{AreReported, AreReportsOf, IsRestretchingAmong, ReportsEach, WereStretched}
use Rattle.mseed_repack.specs.ByStretches.{also, left_out_of, silent, worse_of}
use Rattle.mseed_repack.specs.ReadBack.{IsReadOf}
use Rattle.mseed_repack.specs.Repack.{Channel, IsRepackingAmong, IsUnread, IsWhole}
use Rattle.mseed_repack.specs.Selected.{IsSelectedRepacking, IsSelectedRestretching}
use Rattle.mseed_repack.specs.Selected.{ReportsWithoutTime}
use Rattle.mseed_repack.specs.Selected.{read_of, without_time_line, without_time_lines}
use Rattle.mseed_repack.specs.private.Places.{ArePlaces}
use Rattle.mseed_repack.specs.private.Restretching.{AreAsked, IsPackedIfLeft, IsRestretchingIfLeft}
use Rattle.mseed_repack.specs.private.Restretching.{IsSelectedAs, ReportsAfter, ReportsUnlessLeft}
use Rattle.mseed_repack.specs.declared.fault.RepackFault.{RepackFault}
use Rattle.mseed_repack.specs.declared.fault.RepackFault.TheVariants.{Stream, Write, Memory}
use Rattle.mseed_repack.specs.declared.refusing.LeftOut.{LeftOut}
use Rattle.mseed_repack.specs.declared.refusing.LeftOut.TheVariants.{Nothing}
use Rattle.mseed_repack.specs.declared.packability.Packability.{Packability}
use Rattle.mseed_repack.specs.declared.packability.Packability.TheVariants.{Fit, Broken as BrokenChannel}
use Rattle.mseed_repack.specs.declared.stretching.Cutting.{Cutting}
use Rattle.std.proofs.ByRecursion.{all_kept_by}
use Rattle.mseed_repack.proofs.OneRepacking.{never_unread}
use Rattle.mseed_repack.proofs.InPlaces.{views_asked}
use Rattle.mseed_repack.proofs.Packabilities.{tells_one}
use Rattle.mseed_repack.proofs.Wholes.{all_of, whole_read, all_records}

-- the views of the records that are kept
pub kept_views : (p : View → Bool) (rs : List RecordView)
    → map view_of (filter (λ r. p (view_of r)) rs) ≡ filter p (map view_of rs)
kept_views p [] = refl
kept_views p (r ∷ rs) = grind (arith, kept_views p rs)

-- records that are kept of an archive are one themselves
pub whole_kept : (s : Selection) (h : BytesRead) (views : List View) → IsWhole h views
    → IsWhole (read_of (selected_bytes s views)) (filter (asks_for s) views)
whole_kept s h views h' = grind (arith, append-nil, all_records, all_kept_by, length-filter, count_by-le-length)

-- what was read is a whole archive, of whose records these are asked for
pub are_asked : (s : Selection) (rs kept : List RecordView) (count : ℕ) {h : BytesRead} {bytes : List ℕ}
    → IsReadOf bytes h → IsArchive bytes (bytes_of_each rs) []
    → AllByRecursion (λ (r : RecordView). IsView (view_of r)) rs → length rs < 2 ^ 40
    → kept ≡ filter (λ r. asks_for s (view_of r)) rs → count ≡ count_by (lacks_time s) (map view_of rs)
    → AreAsked s bytes h (map view_of kept) count
are_asked s rs kept count read archive each few kept_is count_is =
    let all = all_of rs archive each in
    record {
      views = map view_of rs;
      all = all;
      whole = whole_read rs read all few;
      kept_are = ap (λ (qs : List RecordView). map view_of qs) kept_is ∙ kept_views (asks_for s) rs;
      count_is = count_is;
    }

-- they are one themselves, each at its place among all
pub asked_whole : {s : Selection} {bytes : List ℕ} {h : BytesRead} {vs : List View} {count : ℕ}
    (a : AreAsked s bytes h vs count) → IsWhole (read_of (selected_bytes s a.views)) vs
asked_whole {s = s} {h = h} a = rw a.kept_are (whole_kept s h a.views a.whole)

pub asked_places : {s : Selection} {bytes : List ℕ} {h : BytesRead} {vs : List View} {count : ℕ}
    (a : AreAsked s bytes h vs count) → ArePlaces s bytes vs (asked_of s a.views)
asked_places a = grind (arith, views_asked)

pub asked_few : {s : Selection} {bytes : List ℕ} {h : BytesRead} {count : ℕ} (rs : List RecordView)
    → AreAsked s bytes h (map view_of rs) count → length rs < 2 ^ 40
asked_few rs a = let few = (asked_whole a).few in omega (arith, few, length-map rs view_of)

-- where no line is reported, nothing is written
pub silent_only : (lines : List (List ℕ)) (old new : BytesWritten) → ReportsEach lines old new → lines ≡ [] → new ≡ old
silent_only _ _ _ (silent s) none = refl
silent_only _ old new (also lines line _ between _ before told) none =
    let size = ap (λ (ls : List (List ℕ)). length ls) none in
    absurd (omega (arith, size, length-append lines (line ∷ [])))

-- where nothing is left out, no channel has a line
some_left : (left : LeftOut) → worse_of BrokenChannel left ≡ Nothing → ⊥
some_left left h = grind (arith)

pub lines_none : (encoding : Encoding) (cs : List Channel) (ss : List Packability) (lines : List (List ℕ))
    → left_out_of ss ≡ Nothing → AreReportsOf encoding cs ss lines → lines ≡ []
lines_none encoding (c ∷ cs) (Fit ∷ ss) lines e (own, (rest, (joined, none, others))) =
    joined ∙ ap (λ (ls : List (List ℕ)). ls ++ rest) none ∙ lines_none encoding cs ss rest e others
lines_none encoding (c ∷ cs) (s ∷ ss) lines e are = grind (arith, some_left)
lines_none encoding cs ss lines e are = are

module _ (s : Selection) (o : Options) (h : BytesRead) (views : List View) (whole : IsWhole h views)
    (old new : BytesWritten) where
  abbrev count : ℕ
  count = count_by (lacks_time s) views

  abbrev read : BytesRead
  read = read_of (selected_bytes s views)

  abbrev place : List View → List Placed
  place vs = asked_of s views

  -- no archive of the records that are asked for is refused for a fault of the input
  never : {X : Type 0} (fault : StreamFault) → fault ≢ NoMemory → IsUnread fault read → X
  never fault is_input unread =
      absurd (never_unread read fault (filter (asks_for s) views) is_input unread (whole_kept s h views whole))

  -- each channel whole
  repacked_asked : {U : Type 0} (result : Result U RepackFault) (first last : BytesWritten)
      → IsRepackingAmong place o result read old new → ReportsAfter result count first last
      → IsSelectedRepacking s o result h old new first last
  repacked_asked (Ok u) first last is told = record { views = views; whole = whole; is_so = (is, told) }
  repacked_asked (Err (Stream fault)) first last is told = never fault is.0 is.1
  repacked_asked (Err Write) first last is told = record { views = views; whole = whole; is_so = (is, told) }
  repacked_asked result first last is told = grind (arith)

  -- of which none is left out
  told_after : (result : Result LeftOut RepackFault) (first last : BytesWritten) → IfOk result (λ left. left ≡ Nothing)
      → ReportsUnlessLeft result count first last → ReportsAfter result count first last
  told_after result first last h h2 = grind (arith)

  -- the lines of channels that are left out, where none is
  all_kept : (left between last : BytesWritten) (cs : List Channel) (ss : List Packability) → left_out_of ss ≡ Nothing
      → AreReported o.encoding cs ss left between → ReportsWithoutTime count between last
      → ReportsWithoutTime count left last × AreReported o.encoding cs ss last last
  all_kept left between last cs ss none nothing told =
      let no_lines = lines_none o.encoding cs ss nothing.lines none nothing.are in
      let still = subst (λ (ls : List (List ℕ)). ReportsEach ls last last) (sym no_lines) (silent last) in
      let reported : AreReported o.encoding cs ss last last =
      record { lines = nothing.lines; are = nothing.are; each = still } in
      (rw (silent_only nothing.lines left between nothing.each no_lines) at told, reported)

  none_left : (leave : Bool) (first between last : BytesWritten)
      → IsRestretchingAmong place o leave (Ok Nothing) read old new first between
      → ReportsWithoutTime count between last
      → ReportsWithoutTime count first last × IsRestretchingAmong place o leave (Ok Nothing) read old new last last
  none_left leave first between last came told =
      let cs = came.1.0 in
      let is = came.1.1.1 in
      let kept = is.kept in
      let both = all_kept first between last cs is.packabilities (sym is.left_is) kept.reported told in
      let were : WereStretched o leave came.0 cs Nothing old new last last = record {
        packabilities = is.packabilities;
        kept = record { are = kept.are; whole = kept.whole; reported = both.1; wrote = kept.wrote };
        left_is = is.left_is;
      } in
      (both.0, (came.0, (cs, (came.1.1.0, were))))

  -- by stretches
  restretched_asked : (leave : Bool) (result : Result LeftOut RepackFault) (first between last : BytesWritten)
      → IsRestretchingIfLeft place o leave count result read old new first between
      → ReportsUnlessLeft result count between last → IsSelectedRestretching s o leave result h old new first last
  restretched_asked leave (Ok Nothing) first between last is told =
      let all = none_left leave first between last (rw is.1.0 at is.1.1) told in
      record { views = views; whole = whole; is_so = (last, (all.0, all.1)) }
  restretched_asked leave (Err (Stream fault)) first between last is told = never fault is.0 is.1
  restretched_asked leave (Err Memory) first between last is same = (is.0, same ∙ is.1)
  restretched_asked leave result first between last came told = grind (arith)

  -- either way
  pub packed_asked : (cutting : Cutting) (leave : Bool) (result : Result LeftOut RepackFault)
      (first between last : BytesWritten) → IsPackedIfLeft cutting place o leave count result read old new first between
      → ReportsUnlessLeft result count between last → IsSelectedAs cutting s o leave result h old new first last
  packed_asked cutting leave result first between last h' h2 =
      grind (arith, repacked_asked, told_after, restretched_asked)

-- what is told of how many lack a time
pub none_lacks : (count : ℕ) (s : BytesWritten) → count ≤ 0 → ReportsEach (without_time_lines count) s s
none_lacks zero s h = silent s
none_lacks (suc n) s h = absurd (omega (arith, h))

pub some_lack : (count : ℕ) (old new : BytesWritten) → 0 < count → WritesLine (without_time_line count) old new
    → ReportsEach (without_time_lines count) old new
some_lack count old new h h2 = grind (arith, tells_one)
