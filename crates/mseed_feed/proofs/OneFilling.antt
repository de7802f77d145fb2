-- What was read of an input is one filling of a feed.
use Rattle.std.proofs.Common.{◌≡◌, ℕ, suc, ◌⊎◌, inl, inr, List, [], ◌∷◌, ◌++◌, length, length-append, drop, Option}
use Rattle.std.proofs.Common.{Some, None, Result, Ok, Err, refl, sym, ap, subst, ◌∙◌, arith, append_assoc}
use Rattle.std.proofs.lemmas.List.{take-append-drop}
use Rattle.std.specs.List.{AllByRecursion, concat}
use Rattle.mseed_record.specs.Record.{IsRecord}
use Rattle.mseed_record.specs.View.{View}
use Rattle.mseed_record.proofs.OneRecord.{one_first, prefix_is}
use Rattle.mseed_stream.specs.Archive.{HasNoFurther}
use Rattle.mseed_stream.specs.Device.{BytesRead}
use Rattle.mseed_stream.specs.Walk.{AreAllViews, bytes_in}
use Rattle.mseed_stream.specs.declared.fault.StreamFault.{StreamFault}
use Rattle.mseed_stream.specs.declared.fault.StreamFault.TheVariants.{Memory}
use Rattle.mseed_stream.proofs.OneInput.{archive_is, one_input}
use Rattle.slink_wire.specs.Place.{Fields}
use Rattle.slink_feed.specs.Intake.{IsOfFeed}
use Rattle.slink_feed.specs.Window.{Window}
use Rattle.slink_feed.specs.declared.input.ForeignRecord.{ForeignRecord}
use Rattle.slink_feed.specs.declared.input.InputFault.{InputFault}
use Rattle.slink_feed.specs.declared.input.InputFault.TheVariants.{Stream, Foreign}
use Rattle.mseed_words.specs.declared.request.Serving.{Serving}
use Rattle.mseed_feed.specs.Filling.{AreOfFeed, IsFilling, IsForeign, IsOneFilling, feed_of, served}

-- These bytes begin with the record.
record Begins (bytes x : List ℕ) : Type 0 where
  tail : List ℕ
  joined : bytes ≡ x ++ tail
  whole : IsRecord x

abbrev begins : (bytes x more rest : List ℕ) → bytes ≡ (x ++ more) ++ rest → IsRecord x → Begins bytes x
begins bytes x more rest is whole =
    record { tail = more ++ rest; joined = is ∙ append_assoc x more rest; whole = whole }

none_begins : (bytes x : List ℕ) → Begins bytes x → HasNoFurther bytes → ⊥
none_begins bytes x b none =
    none (length x) (omega (arith, ap (λ (xs : List ℕ). length xs) b.joined, length-append x b.tail))
    (rw (prefix_is x b.tail bytes b.joined) b.whole)

one_begins : (bytes x y : List ℕ) (a : Begins bytes x) (b : Begins bytes y) → (x ≡ y) × (a.tail ≡ b.tail)
one_begins bytes x y a b = one_first bytes x y a.tail b.tail a.whole b.whole a.joined b.joined

-- These bytes are records of the feed, up to a record that isn't one or to where none begins.
abbrev Cut : List Fields → List ℕ → List View → Option (List ℕ) → Type 0
Cut places bytes [] None = HasNoFurther bytes
Cut places bytes [] (Some x) = Begins bytes x × (¬ (IsOfFeed places x))
Cut places bytes (v ∷ vs) end = (b : Begins bytes v.bytes) × IsOfFeed places v.bytes × Cut places b.tail vs end

-- there is one way to cut them
one_cut : (places : List Fields) (bytes : List ℕ) (vs ws : List View) (x y : Option (List ℕ)) → Cut places bytes vs x
    → Cut places bytes ws y → (length vs ≡ length ws) × (x ≡ y)
one_cut places bytes [] [] None None c d = (refl, refl)
one_cut places bytes [] [] None (Some y) c d = absurd (none_begins bytes y d.0 c)
one_cut places bytes [] [] (Some x) None c d = absurd (none_begins bytes x c.0 d)
one_cut places bytes [] [] (Some x) (Some y) c d = (refl, ap Some (one_begins bytes x y c.0 d.0).0)
one_cut places bytes [] (w ∷ ws) None y c d = absurd (none_begins bytes w.bytes d.0 c)
one_cut places bytes [] (w ∷ ws) (Some x) y c d =
    absurd (c.1 (subst (IsOfFeed places) (one_begins bytes w.bytes x d.0 c.0).0 d.1))
one_cut places bytes (v ∷ vs) [] x None c d = absurd (none_begins bytes v.bytes c.0 d)
one_cut places bytes (v ∷ vs) [] x (Some y) c d =
    absurd (d.1 (subst (IsOfFeed places) (one_begins bytes v.bytes y c.0 d.0).0 c.1))
one_cut places bytes (v ∷ vs) (w ∷ ws) x y c d =
    let same = one_begins bytes v.bytes w.bytes c.0 d.0 in
    let more = one_cut places c.0.tail vs ws x y c.2
    (subst (λ (tail : List ℕ). Cut places tail ws y) (sym same.1) d.2) in
    (ap suc more.0, more.1)

cut_whole : (places : List Fields) (bytes rest : List ℕ) (vs : List View) → bytes ≡ concat (bytes_in vs) ++ rest
    → AllByRecursion IsRecord (bytes_in vs) → AreOfFeed places (bytes_in vs) → HasNoFurther rest
    → Cut places bytes vs None
cut_whole places bytes rest [] is each of none = subst HasNoFurther (sym is) none
cut_whole places bytes rest (v ∷ vs) is each of none = (
  begins bytes v.bytes (concat (bytes_in vs)) rest is each.0,
  of.0,
  cut_whole places (concat (bytes_in vs) ++ rest) rest vs refl each.1 of.1 none,
)

cut_short : (places : List Fields) (bytes rest : List ℕ) (vs : List View) (v : View)
    → bytes ≡ concat (bytes_in (vs ++ v ∷ [])) ++ rest → AllByRecursion IsRecord (bytes_in (vs ++ v ∷ []))
    → AreOfFeed places (bytes_in vs) → ¬ (IsOfFeed places v.bytes) → Cut places bytes vs (Some v.bytes)
cut_short places bytes rest [] v is each of other =
    (begins bytes v.bytes [] rest is each.0, other)
cut_short places bytes rest (w ∷ vs) v is each of other =
    let more = concat (bytes_in (vs ++ v ∷ [])) in (
      begins bytes w.bytes more rest is each.0,
      of.0,
      cut_short places (more ++ rest) rest vs v refl each.1 of.1 other,
    )

abbrev result_of : Serving → List View → Option StreamFault → Result (List Window) InputFault
result_of s views None = Ok (feed_of s (bytes_in views))
result_of s views (Some fault) = Err (Stream fault)

-- What filling came to: memory was refused, or the input was read to its end, or it was cut short.
data Came (s : Serving) (h : BytesRead) (a : Result (List Window) InputFault) : Type 0 where
  refused : a ≡ Err (Stream Memory) → Came s h a
  read : (views : List View) (end : Option StreamFault) → AreAllViews h views end
      → AreOfFeed (served s) (bytes_in views) → a ≡ result_of s views end → Came s h a
  short : (n : ForeignRecord) → IsForeign s n h → a ≡ Err (Foreign n) → Came s h a

came : (s : Serving) (h : BytesRead) (a : Result (List Window) InputFault) → IsFilling s a h → Came s h a
came s h (Ok feed) p = read p.views None p.all p.each (ap Ok p.feed_is)
came s h (Err (Stream Memory)) p = refused refl
came s h (Err (Stream fault)) p = read p.views (Some fault) p.all p.each refl
came s h (Err (Foreign n)) p = short n p refl

cut_at : (s : Serving) (n : ForeignRecord) (h : BytesRead) (f : IsForeign s n h)
    → Cut (served s) h.bytes f.before (Some f.view.bytes)
cut_at s n h f = cut_short (served s) h.bytes (drop f.offset h.bytes) f.before f.view
    (rw (← f.views.records.joined) (sym (take-append-drop f.offset h.bytes))) f.views.records.each f.each f.other

-- what is read to its end isn't cut short
never_short : (s : Serving) (n : ForeignRecord) (h : BytesRead) (views : List View) (end : Option StreamFault)
    → IsForeign s n h → AreAllViews h views end → AreOfFeed (served s) (bytes_in views) → ⊥
never_short s n h views end f all each =
    let whole = archive_is all.offset views end h all.records all.ends in
    let cut = cut_whole (served s) h.bytes _ views whole.joined whole.each each whole.no_further in
    cc (one_cut (served s) h.bytes f.before views (Some f.view.bytes) None (cut_at s n h f) cut).1

-- what filling a feed comes to is determined, but for memory
one_came : (s : Serving) (h : BytesRead) (a b : Result (List Window) InputFault) → Came s h a → Came s h b
    → (a ≡ Err (Stream Memory)) ⊎ ((b ≡ Err (Stream Memory)) ⊎ (a ≡ b))
one_came s h a b (refused is) q = inl is
one_came s h a b p (refused is) = inr (inl is)
one_came s h a b (read vs x p of is) (read ws y q fit are) =
    let one = one_input h vs ws x y p q in inr (inr (cc (is, are, one.0, one.1)))
one_came s h a b (read vs x p of is) (short n f are) = absurd (never_short s n h vs x f p of)
one_came s h a b (short n f is) (read vs x p of are) = absurd (never_short s n h vs x f p of)
one_came s h a b (short n f is) (short m g are) =
    let one = one_cut (served s) h.bytes f.before g.before (Some f.view.bytes) (Some g.view.bytes) (cut_at s n h f)
    (cut_at s m h g) in
    inr (inr (cc (is, are, f.foreign_is, g.foreign_is, one.0, one.1)))

pub only_filling : (s : Serving) (h : BytesRead) (a : Result (List Window) InputFault) → IsFilling s a h
    → IsOneFilling s a h
only_filling s h a p b q = one_came s h a b (came s h a p) (came s h b q)
