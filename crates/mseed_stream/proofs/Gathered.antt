-- A text that is gathered, and written some at a time.
use Rattle.std.proofs.Common.{◌≡◌, ℕ, ◌+◌, ◌++◌, List, [], length, refl, sym}
use Rattle.std.proofs.Common.{◌∷◌, ◌≤◌, append-nil, arith}
use Rattle.std.proofs.lemmas.Grind.{common_steps}
use Rattle.std.proofs.Math.Seq.{take-append-add, take-append_seam}
use Rattle.mseed_stream.specs.Device.{BytesWritten}
use Rattle.mseed_stream.specs.Gathered.{AreGathered, EmittedFirst, EmittedPart, IsCutOff}

-- nothing was taken
pub gathered_all : (s : BytesWritten) (text : List ℕ) → AreGathered s s text text
gathered_all s text = record { taken = []; bytes = sym (append-nil s.bytes); joined = refl }

-- what was taken is a prefix
pub gathered_first : (first old : BytesWritten) (text lines : List ℕ) → AreGathered first old text lines
    → EmittedFirst first old lines
gathered_first first old text lines g = (length g.taken, grind (arith, common_steps, take-append_seam))

-- lines were added to what is gathered, and perhaps written
pub gathered_more : (first old new : BytesWritten) (text next lines line : List ℕ)
    → AreGathered first old text lines → AreGathered old new next (text ++ line)
    → AreGathered first new next (lines ++ line)
gathered_more first old new text next lines line before after = record {
  taken = before.taken ++ after.taken;
  bytes = grind (arith, common_steps);
  joined = grind (arith, common_steps);
}

-- what is gathered was written
pub gathered_written : (first old new : BytesWritten) (text rest lines : List ℕ)
    → AreGathered first old text lines
    → new.bytes ≡ old.bytes ++ text → rest ≡ [] → AreGathered first new rest lines
gathered_written first old new text rest lines before written none = record {
  taken = before.taken ++ text;
  bytes = grind (arith, common_steps);
  joined = grind (arith, common_steps);
}

-- the whole was written, with what follows
pub all_behind : (first old new : BytesWritten) (text lines tail : List ℕ) → AreGathered first old text lines
    → new.bytes ≡ old.bytes ++ (text ++ tail) → new.bytes ≡ first.bytes ++ (lines ++ tail)
all_behind first old new text lines tail before written = grind (arith, common_steps)

-- or the first bytes of it
pub first_behind : (first old new : BytesWritten) (text lines tail : List ℕ) → AreGathered first old text lines
    → EmittedFirst old new (text ++ tail) → EmittedFirst first new (lines ++ tail)
first_behind first old new text lines tail before emitted =
    (length before.taken + emitted.0, grind (arith, common_steps, take-append-add))

pub part_after : (first old new : BytesWritten) (text lines tail : List ℕ) → AreGathered first old text lines
    → EmittedPart old new (text ++ tail) → EmittedPart first new (lines ++ tail)
part_after first old new text lines tail before emitted =
    (length before.taken + emitted.0, grind (arith, common_steps, take-append-add))

-- with nothing after
pub part_of : (first old new : BytesWritten) (text lines : List ℕ) → AreGathered first old text lines
    → EmittedPart old new text → EmittedPart first new lines
part_of first old new text lines before emitted =
    (length before.taken + emitted.0, grind (arith, common_steps, take-append-add))

-- the output failed as it took some of what is gathered: that is a part of the whole
pub cut_part : (first old new : BytesWritten) (taken : ℕ) (text lines tail : List ℕ)
    → AreGathered first old text lines
    → IsCutOff taken (text ++ tail) old new → EmittedPart first new (lines ++ tail)
cut_part first old new taken text lines tail before cut =
    part_after first old new text lines tail before (taken, (cut.part, cut.text))

-- all that was gathered was written
pub all_written : (old new : BytesWritten) (text rest : List ℕ) → AreGathered old new rest text → rest ≡ []
    → new.bytes ≡ old.bytes ++ text
all_written old new text rest written none = grind (arith, common_steps)

-- some more was added to what is gathered, and perhaps written
pub gathered_also : (first old new : BytesWritten) (text next lines line whole : List ℕ)
    → AreGathered first old text lines → AreGathered old new next (text ++ line) → whole ≡ lines ++ line
    → AreGathered first new next whole
gathered_also first old new text next lines line whole before after e =
    rw e (gathered_more first old new text next lines line before after)

-- some of what is gathered was written
pub gathered_on : (first old new : BytesWritten) (text rest lines : List ℕ) → AreGathered first old text lines
    → AreGathered old new rest text → AreGathered first new rest lines
gathered_on first old new text rest lines before written = record {
  taken = before.taken ++ written.taken;
  bytes = grind (arith, common_steps);
  joined = grind (arith, common_steps);
}

-- none is left
pub none_left : (text : List ℕ) → length text ≤ 0 → text ≡ []
none_left [] few = refl
none_left (c ∷ cs) few = absurd (omega (arith, few))
