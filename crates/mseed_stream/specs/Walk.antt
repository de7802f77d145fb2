-- The records that a cutter handed out so far, by their views, and all of them up to an input's end.
use Rattle.std.specs.Prelude.{⊤, ◌≡◌, ◌≢◌, ℕ, ◌+◌, ◌*◌, ◌^◌, ◌<◌, ◌≤◌, List, [], ◌∷◌, map, length, Option, Some, None}
use Rattle.std.specs.Prelude.{Result, Ok, Err}
use Rattle.std.specs.List.{AllByRecursion, concat}
use Rattle.mseed_record.specs.View.{View, IsView}
use Rattle.mseed_record.specs.Viewing.{view_of}
use Rattle.mseed_record.specs.declared.view.RecordView.{RecordView}
use Rattle.mseed_stream.specs.Device.{BytesRead}
use Rattle.mseed_stream.specs.CutterState.{CutterState}
use Rattle.mseed_stream.specs.Archive.{HasRecords}
use Rattle.mseed_stream.specs.Cutting.{IsAlong, IsCleanEnd, IsCutFault, held_of, asks_of, failed_reads}
use Rattle.mseed_stream.specs.declared.fault.StreamFault.{StreamFault}
use Rattle.mseed_stream.specs.declared.fault.StreamFault.TheVariants.{Frame, Truncated, Read, Turns, Memory}

-- the bytes of each view
abbrev pub bytes_in : List View → List (List ℕ)
bytes_in views = map (λ v. v.bytes) views

-- the records of the bytes up to an offset, by their views
pub record AreViews (bytes : List ℕ) (offset : ℕ) (views : List View) : Type 0 where
  pub each : AllByRecursion IsView views
  pub records : HasRecords bytes offset (bytes_in views)
  pub offset_is : length (concat (bytes_in views)) ≡ offset

-- how an input ends after them: where a record ended, or by a fault; no read failed before
abbrev pub IsEnd : Option StreamFault → ℕ → BytesRead → Type 0
IsEnd None offset h = IsCleanEnd offset h × (h.failures ≡ 0)
IsEnd (Some fault) offset h = IsCutFault fault offset h × (fault ≢ Memory) × (h.failures ≡ failed_reads fault)

-- A cutter that goes on has handed out these records, each for two calls of its source at least, and no read failed.
pub record HasHandedOut (h : BytesRead) (c : CutterState) (views : List View) : Type 0 where
  pub along : IsAlong h c
  pub goes_on : c.answer ≡ None
  pub fine : h.failures ≡ 0
  pub records : AreViews h.bytes c.offset views
  pub called : 2 * length views + asks_of (held_of c) ≤ h.calls

-- these are all the records of an input, fewer than 2^40, and it ends so after them
pub record AreAllViews (h : BytesRead) (views : List View) (end : Option StreamFault) : Type 0 where
  pub offset : ℕ
  pub records : AreViews h.bytes offset views
  pub ends : IsEnd end offset h
  pub few : length views < 2 ^ 40

-- the records that a result of a cutter that goes on adds to those handed out
abbrev pub IfGoesOn : Result (Option RecordView) StreamFault → (List View → Type 0) → Type 0
IfGoesOn (Ok (Some r)) P = P (view_of r ∷ [])
IfGoesOn (Ok None) P = ⊤
IfGoesOn (Err Memory) P = P []
IfGoesOn (Err (Frame n f)) P = ⊤
IfGoesOn (Err (Truncated n have)) P = ⊤
IfGoesOn (Err (Read n)) P = ⊤
IfGoesOn (Err (Turns n)) P = ⊤

-- with which fault a result ends the input, if with any
abbrev pub end_of : {X : Type 0} → Result (Option X) StreamFault → Option StreamFault
end_of (Ok o) = None
end_of (Err fault) = Some fault
