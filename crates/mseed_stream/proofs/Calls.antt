-- What a device gave or accepted by two calls, and what it is then known to have left or to hold.
use Rattle.std.proofs.Common.{◌≡◌, ◌<◌, ◌++◌, [], ◌∙◌, ℕ, List, length, take, sym}
use Rattle.std.proofs.Common.{refl, false, IsTrue, None, Option, Result, Ok, Err}
use Rattle.std.proofs.Common.{append-nil, arith}
use Rattle.std.proofs.KnownBytes.{Appends-nil, Appends-trans, Consumes-kept, Consumes-nil, Consumes-trans}
use Rattle.std.proofs.lemmas.Bool.Decides.{nat_tests}
use Rattle.std.proofs.lemmas.Grind.{common_steps}
use Rattle.std.proofs.lemmas.List.{append_cancel_left}
use Rattle.std.specs.Io.KnownBytes.{Appends, Consumes, ReadConsumes}
use Rattle.mseed_stream.specs.Calls.{ReadsOn, TakesMore, WritesOn}
use Rattle.mseed_record.specs.declared.view.RecordView.{RecordView}
use Rattle.mseed_stream.specs.CutterState.{CutterState}
use Rattle.mseed_stream.specs.Cutting.{GivesMore, IsNextAnswer, lent_whole}
use Rattle.mseed_stream.specs.Device.{Beside, BytesRead, BytesWritten, read_also}
use Rattle.mseed_stream.specs.declared.fault.StreamFault.{StreamFault}

-- what was read by two calls
pub tells_on : (a b c : BytesRead) (p q r : Option (List ℕ)) → GivesMore a b p q → GivesMore b c q r
    → GivesMore a c p r
tells_on a b c p q r one two =
    (one.0 ++ two.0, grind (arith, common_steps), Consumes-trans _ _ _ _ _ one.2 two.2)

-- what a sink accepted by two calls
pub takes_on : (a b c : BytesWritten) (p q r : Option (List ℕ)) → TakesMore a b p q → TakesMore b c q r
    → TakesMore a c p r
takes_on a b c p q r one two =
    (one.0 ++ two.0, grind (arith, common_steps), Appends-trans _ _ _ _ _ one.2 two.2)

-- and by none
pub takes_none : (s : BytesWritten) (p : Option (List ℕ)) → TakesMore s s p p
takes_none s p = ([], sym (append-nil s.bytes), Appends-nil p)

-- a call that reads on after others
pub reads_on : (a b c : BytesRead) (p q r : Option (List ℕ)) (x y z : Beside) → GivesMore a b p q → y ≡ x
    → ReadsOn b c q r y z → ReadsOn a c p r x z
reads_on a b c p q r x y z more beside one = record {
  more = tells_on a b c p q r more one.more;
  known = one.known;
  beside = one.beside ∙ beside;
}

-- and one that doesn't read
pub reads_none : (h : BytesRead) (left : Option (List ℕ)) (x : Beside) → h.is_at_end ≡ false
    → ReadsOn h h left left x x
reads_none h left x goes_on =
    record { more = ([], sym (append-nil h.bytes), Consumes-nil left); known = λ e. cc; beside = refl }

-- a call by which a source gave a record that it held whole
pub reads_whole : (old new : BytesRead) (bytes : List ℕ) (left rest : Option (List ℕ)) (x y : Beside)
    → new ≡ lent_whole old bytes → Consumes left rest bytes → y ≡ x → old.is_at_end ≡ false
    → ReadsOn old new left rest x y
reads_whole old new bytes left rest x y e consumes beside goes_on = grind (arith, common_steps)

-- and one by which a cutter answered
pub reads_next : (result : Result (Option RecordView) StreamFault) (c : CutterState) (old new : BytesRead)
    (left rest : Option (List ℕ)) (apart later : Beside) → IsNextAnswer result c old new left rest
    → later ≡ apart → c.answer ≡ None → ReadsOn old new left rest apart later
reads_next result c old new left rest apart later is beside goes_on = record {
  more = is.more;
  known = is.known goes_on;
  beside = beside;
}

-- what one read gave
pub gives_pull : {E : Type 0} (h new : BytesRead) (left rest : Option (List ℕ)) (r : Result ℕ E) (buf : List ℕ)
    → new ≡ read_also h r buf → ReadConsumes left rest r buf → GivesMore h new left rest
gives_pull h new left rest (Ok n) buf e consumes = (take n buf, cc, consumes.0)
gives_pull h new left rest (Err x) buf e keeps =
    ([], cc, Consumes-kept left left rest [] (Consumes-nil left) keeps)

-- a read after what was read before
pub reads_pull : {E : Type 0} (a b c : BytesRead) (p q r : Option (List ℕ)) (x y z : Beside) (result : Result ℕ E)
    (buf : List ℕ) → GivesMore a b p q → y ≡ x → c ≡ read_also b result buf → ReadConsumes q r result buf
    → (IsTrue b.is_at_end → result ≡ Ok 0) → 0 < length buf → z ≡ y → ReadsOn a c p r x z
reads_pull a b c p q r x y z result buf more same e consumes silent some beside =
    reads_on a b c p q r x y z more same (record {
      more = gives_pull b c q r result buf e consumes;
      known = grind (arith, nat_tests);
      beside = beside;
    })

-- two calls that write
pub writes_on : (a b c : BytesWritten) (p q r : Option (List ℕ)) (x y z : BytesRead) → WritesOn a b p q x y
    → WritesOn b c q r y z → WritesOn a c p r x z
writes_on a b c p q r x y z one two = record {
  contents = takes_on a b c p q r one.contents two.contents;
  beside = two.beside ∙ one.beside;
}

-- and none
pub writes_none : (s : BytesWritten) (p : Option (List ℕ)) (x : BytesRead) → WritesOn s s p p x x
writes_none s p x = record { contents = takes_none s p; beside = refl }

-- of the bytes that a sink accepted there is one list
pub grown : (old new : BytesWritten) (held holds : Option (List ℕ)) (x y : BytesRead) (bytes : List ℕ)
    → WritesOn old new held holds x y → new.bytes ≡ old.bytes ++ bytes → Appends held holds bytes
grown old new held holds x y bytes one same =
    let takes = one.contents in
    rw (append_cancel_left old.bytes takes.0 bytes (sym takes.1 ∙ same)) at takes.2
