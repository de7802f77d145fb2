-- What was read of an input has one list of records, and one end after them.
use Rattle.std.proofs.Common.{◌≡◌, ℕ, suc, ◌<◌, ◌≤◌, false, List, [], ◌∷◌, length, take, drop, Option}
use Rattle.std.proofs.Common.{◌⊎◌}
use Rattle.std.proofs.Common.{zero, inl, inr, Some, None, refl, sym, ap, ◌∙◌, arith, ⊎_elim, append-nil, length-take}
use Rattle.std.proofs.lemmas.Bool.{both_ways, cases_lt}
use Rattle.std.proofs.lemmas.List.{take-append-drop}
use Rattle.std.proofs.Math.Seq.{take-length}
use Rattle.std.specs.List.{concat, AllByRecursion}
use Rattle.mseed_record.specs.declared.framer.Scan.TheVariants.{Need, Not}
use Rattle.mseed_record.specs.declared.fault.FrameFault.{FrameFault}
use Rattle.mseed_record.specs.Scan.{Decides}
use Rattle.mseed_record.specs.View.{View, IsView}
use Rattle.mseed_record.proofs.Called.{record_long}
use Rattle.mseed_record.proofs.OneAnswer.{one_answer}
use Rattle.mseed_record.proofs.Viewed.{view_once}
use Rattle.mseed_stream.specs.Device.{BytesRead}
use Rattle.mseed_stream.specs.Archive.{HasNoFurther, IsArchive, End, clean, frame, truncated, IsEndOf, is_frame}
use Rattle.mseed_stream.specs.Cutting.{IsStop, at_start, called_for, FallsShort, read_from}
use Rattle.mseed_stream.specs.Walk.{bytes_in, AreViews, IsEnd, AreAllViews}
use Rattle.mseed_stream.specs.declared.fault.StreamFault.{StreamFault}
use Rattle.mseed_stream.specs.declared.fault.StreamFault.TheVariants.{Frame, Truncated, Read, Turns, Memory}
use Rattle.mseed_stream.proofs.Ends.{one_end}
use Rattle.mseed_stream.proofs.Handed.{no_further}
use Rattle.mseed_stream.proofs.Records.{one_archive}
use Rattle.mseed_stream.proofs.Stops.{none_short}

-- how many stops there are before one
abbrev index : (b : List ℕ) (n : ℕ) → IsStop b n → ℕ
index b _ at_start = 0
index b n (called_for m _ s l d) = suc (index b m s)

same_stop : (b : List ℕ) (n m : ℕ) (s : IsStop b n) (t : IsStop b m) → index b n s ≡ index b m t → n ≡ m
same_stop b _ _ at_start at_start e = refl
same_stop b _ m at_start (called_for k _ t l d) e = absurd (omega arith)
same_stop b n _ (called_for k _ s l d) at_start e = absurd (omega arith)
same_stop b n m (called_for k _ s l d) (called_for j _ t w c) e =
    let before : k ≡ j = same_stop b k j s t (omega arith) in
    cc (one_answer (take k b) (Need n) (Need m) d (rw before c))

-- a stop before another is within the bytes, and more is requested there
abbrev Earlier : List ℕ → ℕ → Type 0
Earlier b n = (n ≤ length b) × ((next : ℕ) × Decides (take n b) (Need next))

earlier : (b : List ℕ) (n m : ℕ) (s : IsStop b n) (t : IsStop b m) → index b n s < index b m t → Earlier b n
earlier b n _ s at_start less = absurd (omega arith)
earlier b n m s (called_for k _ t l d) less = ⊎_elim
    (λ (more : index b n s < index b k t). earlier b n k s t more)
    (λ (last : index b k t ≤ index b n s).
    let same : n ≡ k = same_stop b n k s t (omega (arith, less, last)) in
    rw same (l, (m, d)))
    (cases_lt (index b n s) (index b k t))

-- two stops are one, or one of them is before the other
apart : (b : List ℕ) (n m : ℕ) → IsStop b n → IsStop b m → (n ≡ m) ⊎ (Earlier b n ⊎ Earlier b m)
apart b n m s t = ⊎_elim
    (λ (less : index b n s < index b m t). inr (inl (earlier b n m s t less)))
    (λ (other : index b m t ≤ index b n s). ⊎_elim
    (λ (less : index b m t < index b n s). inr (inr (earlier b m n t s less)))
    (λ (last : index b n s ≤ index b m t). inl (same_stop b n m s t (omega (arith, other, last))))
    (cases_lt (index b m t) (index b n s)))
    (cases_lt (index b n s) (index b m t))

-- bytes fall short of one stop
pub one_stop : (b : List ℕ) (n m : ℕ) → IsStop b n → IsStop b m → length b < n → length b < m → n ≡ m
one_stop b n m s t past over = grind (arith, apart b n m s t)

-- what is refused at a stop falls short of none
refused_whole : (b : List ℕ) (f : FrameFault) → IsStop b (length b) → Decides b (Not f) → FallsShort b → ⊥
refused_whole b f s d (n, (t, past)) = ⊎_elim
    (λ (same : length b ≡ n). omega (arith, past))
    (λ others. ⊎_elim
    (λ (one : Earlier b (length b)). cc (one_answer b (Not f) (Need one.1.0) d (rw (take-length b) at one.1.1)))
    (λ (other : Earlier b n). omega (arith, other.0, past)) others)
    (apart b (length b) n s t)

-- records of the same bytes have the same views
pub same_views : (vs ws : List View) → AllByRecursion IsView vs → AllByRecursion IsView ws
    → bytes_in vs ≡ bytes_in ws
    → vs ≡ ws
same_views [] [] h k e = refl
same_views [] (w ∷ ws) h k e = cc
same_views (v ∷ vs) [] h k e = cc
same_views (v ∷ vs) (w ∷ ws) h k e = cc (view_once w v k.0 h.0 (cc), same_views vs ws h.1 k.1 (cc))

none_in : HasNoFurther []
none_in k within r = omega (arith, record_long (take k []) r, length-take {A = ℕ} k [])

archive_to : (bytes : List ℕ) (offset : ℕ) (views : List View) → AreViews bytes offset views
    → IsArchive (take offset bytes) (bytes_in views) []
archive_to bytes offset views are = record {
  joined = are.records.joined ∙ sym (append-nil (concat (bytes_in views)));
  each = are.records.each;
  no_further = none_in;
}

-- the bytes up to an offset are those of one list of views
pub one_views : (bytes : List ℕ) (offset : ℕ) (vs ws : List View) → AreViews bytes offset vs
    → AreViews bytes offset ws
    → vs ≡ ws
one_views bytes offset vs ws a b =
    same_views vs ws a.each b.each (one_archive _ _ _ _ _ (archive_to _ _ _ a) (archive_to _ _ _ b)).0

-- how the input ends, by how its bytes end
abbrev pub ended : ℕ → End → Option StreamFault
ended offset clean = None
ended offset (frame f) = Some (Frame offset f)
ended offset (truncated have) = Some (Truncated offset have)

-- and where the source stopped before: at the last read, or as reads failed
abbrev stopped : ℕ → ℕ → StreamFault
stopped offset zero = Turns offset
stopped offset (suc n) = Read offset

data Ended (offset : ℕ) (h : BytesRead) (end : Option StreamFault) : Type 0 where
  by_bytes : (e : End) → IsEndOf (read_from offset h) e
      → (h.is_at_end ≡ false → ¬ (FallsShort (read_from offset h)))
      → end ≡ ended offset e → Ended offset h end
  by_source : h.is_at_end ≡ false → FallsShort (read_from offset h) → end ≡ Some (stopped offset h.failures)
      → Ended offset h end

pub refused_of : (bytes : List ℕ) (f : FrameFault) → IsEndOf bytes (frame f) → Decides bytes (Not f)
refused_of bytes f (is_frame _ d) = d

ends : (end : Option StreamFault) (offset : ℕ) (h : BytesRead) → IsEnd end offset h → Ended offset h end
ends None offset h is = by_bytes clean is.0.0 (λ going. absurd (both_ways h.is_at_end going is.0.1)) refl
ends (Some (Frame n f)) offset h is =
    let decides = refused_of (read_from offset h) f is.0.1 in
    by_bytes (frame f) is.0.1 (λ going. refused_whole (read_from offset h) f (rw going at is.0.2) decides) (rw is.0.0)
ends (Some (Truncated n have)) offset h is =
    by_bytes (truncated have) is.0.1 (λ going. absurd (both_ways h.is_at_end going is.0.2)) (rw is.0.0)
ends (Some (Read n)) offset h is = by_source is.0.2 is.0.3 (rw (is.0.0, is.2))
ends (Some (Turns n)) offset h is = by_source is.0.2 is.0.3 (rw (is.0.0, is.2))
ends (Some Memory) offset h is = absurd (is.1 refl)

-- no record begins after the last
nothing_further : (end : Option StreamFault) (offset : ℕ) (h : BytesRead) → Ended offset h end
    → HasNoFurther (read_from offset h)
nothing_further end offset h (by_bytes e is never at) = no_further (read_from offset h) e is
nothing_further end offset h (by_source going short at) = none_short (read_from offset h) short

pub archive_is : (offset : ℕ) (views : List View) (end : Option StreamFault) (h : BytesRead)
    → AreViews h.bytes offset views → IsEnd end offset h
    → IsArchive h.bytes (bytes_in views) (drop offset h.bytes)
archive_is offset views end h are is = record {
  joined = rw (← are.records.joined) (sym (take-append-drop offset h.bytes));
  each = are.records.each;
  no_further = nothing_further end offset h (ends end offset h is);
}

same_end : (offset : ℕ) (h : BytesRead) (a b : Option StreamFault) → Ended offset h a → Ended offset h b → a ≡ b
same_end offset h a b (by_bytes e is never at) (by_bytes d are nor to) =
    at ∙ ap (ended offset) (one_end (read_from offset h) e d is are) ∙ sym to
same_end offset h a b (by_bytes e is never at) (by_source going short to) = absurd (never going short)
same_end offset h a b (by_source going short at) (by_bytes e is never to) = absurd (never going short)
same_end offset h a b (by_source going short at) (by_source goes less to) = at ∙ sym to

-- all records of what was read, and its end, are the only ones
pub one_input : (h : BytesRead) (vs ws : List View) (a b : Option StreamFault) → AreAllViews h vs a
    → AreAllViews h ws b
    → (vs ≡ ws) × (a ≡ b)
one_input h vs ws a b p q =
    let both = one_archive h.bytes (bytes_in vs) (bytes_in ws) (drop p.offset h.bytes) (drop q.offset h.bytes)
    (archive_is p.offset vs a h p.records p.ends) (archive_is q.offset ws b h q.records q.ends) in
    let views : vs ≡ ws = same_views vs ws p.records.each q.records.each both.0 in
    let offset : p.offset ≡ q.offset = rw (← p.records.offset_is, ← q.records.offset_is, views) in
    (views, same_end q.offset h a b (ends a q.offset h (rw offset at p.ends)) (ends b q.offset h q.ends))
