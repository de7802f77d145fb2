-- What a call that takes bytes of a stream says.
use Rattle.std.specs.Prelude.{◌≡◌, ℕ, true, false, List, [], ◌∷◌, ◌++◌}
use Rattle.slink_wire.specs.declared.lines.LineOutcome.{LineOutcome}
use Rattle.slink_wire.specs.declared.lines.LineOutcome.TheVariants.{More, Line, TooLong}
use Rattle.slink_wire.specs.Lines.{YieldsNothing, lines_of}

-- from the one stream to the other: no line more, this line more, or one that is too long
abbrev pub Yields : LineOutcome → List ℕ → List ℕ → Type 0
Yields More before after = YieldsNothing before after
Yields (Line line) before after = ((lines_of after).lines ≡ (lines_of before).lines ++ line.items ∷ [])
    × ((lines_of after).is_too_long ≡ false)
Yields TooLong before after = ((lines_of after).lines ≡ (lines_of before).lines) × ((lines_of after).is_too_long ≡ true)

-- a call: the bytes that it accepted, and what was read of it
pub record Call : Type 0 where
  pub bytes : List ℕ
  pub what : LineOutcome

-- calls one after another, after this stream
abbrev pub AreCalls : List ℕ → List Call → Type 0
AreCalls stream [] = Unit {0}
AreCalls stream (call ∷ calls) = Yields call.what stream (stream ++ call.bytes) × AreCalls (stream ++ call.bytes) calls

-- the bytes that calls accepted
abbrev pub bytes_in : List Call → List ℕ
bytes_in [] = []
bytes_in (call ∷ calls) = call.bytes ++ bytes_in calls

-- the lines that they reported
abbrev pub line_in : LineOutcome → List (List ℕ)
line_in (Line line) = line.items ∷ []
line_in what = []

abbrev pub lines_in : List Call → List (List ℕ)
lines_in [] = []
lines_in (call ∷ calls) = line_in call.what ++ lines_in calls
