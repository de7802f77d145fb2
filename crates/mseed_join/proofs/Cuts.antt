-- Bytes that are records and what is left after them.
use Rattle.std.proofs.Common.{◌≡◌, ℕ, ◌+◌, ◌++◌, List, [], ◌∷◌, Option, Some, None, true, refl, sym, arith}
use Rattle.std.proofs.Common.{ap, ◌∙◌, append_assoc, append-nil}
use Rattle.std.proofs.ByRecursion.{All-append}
use Rattle.std.proofs.lemmas.Bool.{both_ways}
use Rattle.std.proofs.lemmas.List.{take-append-drop}
use Rattle.std.specs.List.{concat, AllByRecursion}
use Rattle.std.specs.Option.{option_map}
use Rattle.mseed_record.specs.Record.{IsRecord}
use Rattle.mseed_record.specs.View.{View, IsView}
use Rattle.mseed_stream.specs.Archive.{End, IsArchive, IsEndOf, frame, is_clean, is_frame}
use Rattle.mseed_stream.specs.Cutting.{read_from}
use Rattle.mseed_stream.specs.Device.{BytesRead}
use Rattle.mseed_stream.specs.Walk.{AreAllViews, IsEnd, bytes_in}
use Rattle.mseed_stream.specs.declared.fault.StreamFault.{StreamFault}
use Rattle.mseed_stream.specs.declared.fault.StreamFault.TheVariants.{Frame, Truncated, Read}
use Rattle.mseed_stream.proofs.Ends.{one_end}
use Rattle.mseed_stream.proofs.Handed.{no_further}
use Rattle.mseed_stream.proofs.OneInput.{ended, refused_of, same_views}
use Rattle.mseed_stream.proofs.Records.{one_archive, view_record}
use Rattle.mseed_join.specs.Parts.{bytes_in as size_of}
use Rattle.mseed_join.proofs.Placing.{bytes_append}
use Rattle.mseed_join.specs.Headline.{EndsByBytes, IsReadOf}
use Rattle.mseed_join.specs.Joined.{moved_fault}
use Rattle.mseed_join.proofs.Longer.{refused_more}
use Rattle.mseed_join.proofs.Parting.{sizes}

-- ---- how bytes end
pub record EndsSo (offset : ℕ) (rest : List ℕ) (end : Option StreamFault) : Type 0 where
  pub at : End
  pub is : IsEndOf rest at
  pub end_is : end ≡ ended offset at

-- what is left of an archive ends so, by what was read of it: no bytes more change why none begin a record
ends_so : (end : Option StreamFault) (offset : ℕ) (h : BytesRead) (rest : List ℕ) → EndsByBytes end
    → IsEnd end offset h → (h.is_at_end ≡ true → rest ≡ []) → EndsSo offset (read_from offset h ++ rest) end
ends_so None offset h rest by is all = search (arith, append-nil)
ends_so (Some (Frame n f)) offset h rest by is all = record {
  at = frame f;
  is = is_frame f (refused_more (read_from offset h) rest f (refused_of (read_from offset h) f is.0.1));
  end_is = ap (λ (k : ℕ). Some (Frame k f)) is.0.0;
}
ends_so (Some (Truncated n have)) offset h rest by is all =
    search (arith, append-nil)
ends_so (Some (Read n)) offset h rest by is all = absurd by
ends_so _ offset h rest by is all = absurd by

-- and so it does once it was read to its end
pub at_end_by : (end : Option StreamFault) (offset : ℕ) (h : BytesRead) → h.is_at_end ≡ true → IsEnd end offset h
    → EndsByBytes end
at_end_by end offset h h1 h2 = grind (arith, both_ways)

moved_ended : (e offset : ℕ) (at : End) → option_map (moved_fault e) (ended offset at) ≡ ended (e + offset) at
moved_ended e offset at = grind arith

-- after so many more bytes
ends_moved : (e offset : ℕ) (rest : List ℕ) (end : Option StreamFault) → EndsSo offset rest end
    → EndsSo (e + offset) rest (option_map (moved_fault e) end)
ends_moved e offset rest end so = search (arith, moved_ended)

nothing_left : (offset : ℕ) (rest : List ℕ) (at : End) → IsEndOf rest at → None ≡ ended offset at → rest ≡ []
nothing_left offset rest at h1 h2 = grind arith

-- where there is no fault, nothing is left
none_left : (offset : ℕ) (rest : List ℕ) (end : Option StreamFault) → EndsSo offset rest end → end ≡ None
    → rest ≡ []
none_left offset rest end so none = nothing_left offset rest so.at so.is (sym none ∙ so.end_is)

-- ---- records and what is left
pub record IsCut (bytes : List ℕ) (views : List View) (rest : List ℕ) : Type 0 where
  pub views_are : AllByRecursion IsView views
  pub joined : bytes ≡ concat (bytes_in views) ++ rest

-- what was read is the records, and what is left after them
pub read_joined : (h : BytesRead) (views : List View) (end : Option StreamFault) (all : AreAllViews h views end)
    → h.bytes ≡ concat (bytes_in views) ++ read_from all.offset h
read_joined h views end all = search (arith, take-append-drop)

-- the records have so many bytes
pub read_size : (h : BytesRead) (views : List View) (end : Option StreamFault) (all : AreAllViews h views end)
    → all.offset ≡ size_of views
read_size h views end all = sym all.records.offset_is ∙ sizes views

joined_append : (xs ys : List View) → concat (bytes_in (xs ++ ys)) ≡ concat (bytes_in xs) ++ concat (bytes_in ys)
joined_append [] ys = refl
joined_append (x ∷ xs) ys = search (arith, append_assoc, joined_append xs ys)

-- records after records
cut_after : (first second : List ℕ) (xs ys : List View) (rest : List ℕ) → IsCut first xs [] → IsCut second ys rest
    → IsCut (first ++ second) (xs ++ ys) rest
cut_after first second xs ys rest a b = record {
  views_are = All-append IsView xs ys a.views_are b.views_are;
  joined = (λ i. (a.joined ∙ append-nil (concat (bytes_in xs))) i ++ b.joined i)
      ∙ sym (append_assoc (concat (bytes_in xs)) (concat (bytes_in ys)) rest)
      ∙ ap (λ (zs : List ℕ). zs ++ rest) (sym (joined_append xs ys));
}

-- ---- there is one such list
records_in : (views : List View) → AllByRecursion IsView views → AllByRecursion IsRecord (bytes_in views)
records_in [] h = tt
records_in (v ∷ views) h = (view_record v h.0, records_in views h.1)

archive_of : (bytes : List ℕ) (views : List View) (rest : List ℕ) (at : End) → IsCut bytes views rest → IsEndOf rest at
    → IsArchive bytes (bytes_in views) rest
archive_of bytes views rest at cut is = search (arith, records_in, no_further)

-- bytes are records and a rest in one way, and end in one way
one_cut : (bytes : List ℕ) (vs ws : List View) (rest left : List ℕ) (a b : Option StreamFault)
    → IsCut bytes vs rest → IsCut bytes ws left → EndsSo (size_of vs) rest a → EndsSo (size_of ws) left b
    → (vs ≡ ws) × (a ≡ b)
one_cut bytes vs ws rest left a b c d so to =
    let both = one_archive bytes (bytes_in vs) (bytes_in ws) rest left (archive_of bytes vs rest so.at c so.is)
    (archive_of bytes ws left to.at d to.is) in
    let views : vs ≡ ws = same_views vs ws c.views_are d.views_are both.0 in
    let at : so.at ≡ to.at = search (arith, one_end) in
    (views, so.end_is ∙ (λ i. ended (size_of (views i)) (at i)) ∙ sym to.end_is)

-- ---- archives
-- an archive is these records, and ends so after them
pub record IsKnown (archive : List ℕ) (views : List View) (end : Option StreamFault) : Type 0 where
  pub rest : List ℕ
  pub cut : IsCut archive views rest
  pub ends : EndsSo (size_of views) rest end

pub known : (archive : List ℕ) (h : BytesRead) (views : List View) (end : Option StreamFault) → IsReadOf archive h
    → AreAllViews h views end → EndsByBytes end → IsKnown archive views end
known archive h views end read all by =
    let left : List ℕ = read_from all.offset h in
    record {
      rest = left ++ read.rest;
      cut = record {
        views_are = all.records.each;
        joined = read.bytes ∙ ap (λ (xs : List ℕ). xs ++ read.rest) (read_joined h views end all)
            ∙ append_assoc (concat (bytes_in views)) left read.rest;
      };
      ends = rw (← (read_size h views end all)) (ends_so end all.offset h read.rest by all.ends read.all);
    }

-- nothing
pub known_none : IsKnown [] [] None
known_none = search (arith, is_clean)

-- an archive after another, which ends without a fault
pub known_after : (first second : List ℕ) (xs ys : List View) (before end : Option StreamFault) → before ≡ None
    → IsKnown first xs before → IsKnown second ys end
    → IsKnown (first ++ second) (xs ++ ys) (option_map (moved_fault (size_of xs)) end)
known_after first second xs ys before end none a b =
    let whole : IsCut first xs [] = search (arith, none_left) in
    record {
      rest = b.rest;
      cut = cut_after first second xs ys b.rest whole b.cut;
      ends = rw (bytes_append xs ys) (ends_moved (size_of xs) (size_of ys) b.rest end b.ends);
    }

-- an archive is one list of records, and ends in one way
pub one_known : (archive : List ℕ) (vs ws : List View) (a b : Option StreamFault) → IsKnown archive vs a
    → IsKnown archive ws b → (vs ≡ ws) × (a ≡ b)
one_known archive vs ws a b p q = one_cut archive vs ws p.rest q.rest a b p.cut q.cut p.ends q.ends
