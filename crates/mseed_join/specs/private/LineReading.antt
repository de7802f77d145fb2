-- Lines that are read out of a source, and what was read and not passed yet.
use Rattle.std.specs.Prelude.{⊤, ◌≡◌, ◌≢◌, ◌<◌, ◌≤◌, ◌^◌, ℕ, ◌+◌, Bool, true, false, List, [], ◌∷◌, ◌++◌, length, take}
use Rattle.std.specs.Prelude.{Option, Result, Ok, Err, OnOk, IfErr, OnErr}
use Rattle.std.specs.Io.KnownBytes.{Consumes, IsAtEnd}
use Rattle.mseed_stream.specs.Device.{BytesRead}
use Rattle.mseed_stream.specs.declared.fault.StreamFault.{StreamFault}
use Rattle.mseed_stream.specs.declared.fault.StreamFault.TheVariants.{Frame, Truncated, Read, Turns, Memory}
use Rattle.mseed_join.specs.Joined.{AreLines, HasNoEnd}
use Rattle.mseed_join.specs.declared.line_reader.NextLine.{NextLine}
use Rattle.mseed_join.specs.declared.line_reader.NextLine.TheVariants.{Line, TooLong, Unended, Nothing}

-- the bytes that were read and not passed, the length of the line that begins them where one was found, the room
-- after them, how many lines were passed, how many bytes were read in all, and by how many reads
pub record LinesRead : Type 0 where
  pub held : List ℕ
  pub size : ℕ
  pub room : ℕ
  pub lines : ℕ
  pub bytes : ℕ
  pub reads : ℕ

-- an LF ends them, and none stands before
abbrev pub IsWholeLine : List ℕ → Type 0
IsWholeLine bytes = (body : List ℕ) × HasNoEnd body × (bytes ≡ body ++ 10 ∷ [])

-- the first bytes are a line, so many of them
pub record IsLineAhead (size : ℕ) (held : List ℕ) : Type 0 where
  pub line : IsWholeLine (take size held)
  pub within : size ≤ length held
  pub short : size ≤ 512

-- no line is whole, and none is too long
abbrev pub IsOpen : List ℕ → Type 0
IsOpen held = (length held < 512) × HasNoEnd held

-- what lies ahead, by what was read and not passed, and whether the input is at its end
abbrev pub LiesAhead : NextLine → LinesRead → Bool → Type 0
LiesAhead Line r at_end = IsLineAhead r.size r.held
LiesAhead TooLong r at_end = HasNoEnd (take 512 r.held) × (512 ≤ length r.held)
LiesAhead Unended r at_end = (at_end ≡ true) × HasNoEnd r.held × (r.held ≢ []) × (length r.held < 512)
LiesAhead Nothing r at_end = (at_end ≡ true) × (r.held ≡ [])

-- what more was read, and is held after what was held before, and so many lines, bytes and reads
pub record GrowsTo (old new : BytesRead) (left rest : Option (List ℕ)) (before after : List ℕ)
    (lines_before bytes_before reads_before lines_after bytes_after reads_after : ℕ) : Type 0 where
  pub more : List ℕ
  pub called : ℕ
  pub reported : new.bytes ≡ old.bytes ++ more
  pub known : Consumes left rest more
  pub held : after ≡ before ++ more
  pub lines : lines_after ≡ lines_before
  pub bytes : bytes_after ≡ bytes_before + length more
  pub calls : new.calls ≡ old.calls + called
  pub reads : reads_after ≡ reads_before + called

abbrev pub Grows : BytesRead → BytesRead → Option (List ℕ) → Option (List ℕ) → LinesRead → LinesRead → Type 0
Grows old new left rest r after =
    GrowsTo old new left rest r.held after.held r.lines r.bytes r.reads after.lines after.bytes after.reads

-- what was read, from nothing on, is whole lines that were passed, and what is held
pub record IsReadBy (now : BytesRead) (r : LinesRead) : Type 0 where
  pub passed : List ℕ
  pub reported : now.bytes ≡ passed ++ r.held
  pub lines : AreLines passed r.lines
  pub bytes : r.bytes ≡ length passed + length r.held
  pub calls : now.calls ≡ r.reads

-- no read failed, or reported the input's end
pub record GoesOn (now : BytesRead) : Type 0 where
  pub failures : now.failures ≡ 0
  pub is_at_end : now.is_at_end ≡ false

-- the answer is neither the input's end nor a fault
abbrev pub IfGoesOn : Result NextLine StreamFault → Type 0 → Type 0
IfGoesOn (Ok Line) X = X
IfGoesOn (Ok TooLong) X = X
IfGoesOn (Ok Unended) X = ⊤
IfGoesOn (Ok Nothing) X = ⊤
IfGoesOn (Err e) X = ⊤

-- what a fault means of one read
abbrev pub IsFaultOfOneRead : StreamFault → LinesRead → BytesRead → BytesRead → Type 0
IsFaultOfOneRead (Frame n f) after old new = ⊥
IsFaultOfOneRead (Truncated n have) after old new = ⊥
IsFaultOfOneRead (Read n) after old new = (n ≡ after.bytes) × (new.failures ≡ old.failures + 1)
    × (new.is_at_end ≡ false)
IsFaultOfOneRead (Turns n) after old new = (n ≡ after.bytes) × (after.reads ≡ 2 ^ 40) × (new ≡ old)
IsFaultOfOneRead Memory after old new = ⊥

-- What one read answers, by what was read of the source before and after, what that is known to have left, and what was
-- held before and after: whether the input ended, and nothing more is held then, or why it failed.
pub record IsOneRead (answer : Result Bool StreamFault) (old new : BytesRead) (rest : Option (List ℕ))
    (r after : LinesRead) : Type 0 where
  pub called : OnOk answer (after.reads ≡ r.reads + 1)
  pub whole : answer ≡ Ok false → new.is_at_end ≡ false
  pub ended : answer ≡ Ok true → (new.is_at_end ≡ true) × (after.held ≡ r.held) × IsAtEnd rest
  pub fine : OnOk answer (new.failures ≡ old.failures)
  pub fault : IfErr answer (λ e. IsFaultOfOneRead e after old new)
  pub held : OnErr answer (after.held ≡ r.held)
