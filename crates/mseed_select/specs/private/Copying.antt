-- What was written of the records that are asked for, and what is gathered of them.
use Rattle.std.specs.Prelude.{◌≡◌, ℕ, ◌<◌, if◌then◌else◌, List, [], ◌∷◌, ◌++◌, Result, Ok, Err}
use Rattle.mseed_record.specs.View.{View}
use Rattle.mseed_stream.specs.Device.{BytesRead, BytesWritten}
use Rattle.mseed_stream.specs.Gathered.{AreGathered}
use Rattle.mseed_stream.specs.CutterState.{CutterState}
use Rattle.mseed_stream.specs.Walk.{AreAllViews, HasHandedOut}
use Rattle.mseed_record.specs.declared.answer.Answer.{Answer}
use Rattle.mseed_select.specs.declared.copying.Step.{Step}
use Rattle.mseed_select.specs.declared.copying.Step.TheVariants.{Judged, Ended}
use Rattle.mseed_select.specs.declared.fault.SelectFault.{SelectFault}
use Rattle.mseed_select.specs.declared.selected.Selected.{Selected}
use Rattle.mseed_select.specs.Formatted.{IsFormatted, IsFound, Texts, asked_text}
use Rattle.mseed_record.specs.Selection.{Selection, answer_of, asks_for}

-- the bytes of each record, and nothing at the end
abbrev pub bytes_alone : Texts
bytes_alone = record { of_record = λ _ v. v.bytes; at_end = λ _. [] }

-- what is written of a record where it is asked for
abbrev pub text_by : Texts → Selection → ℕ → View → List ℕ
text_by t s offset v = if asks_for s v then t.of_record offset v else []

-- what is written of these records was written or is gathered
pub record IsHeld (t : Texts) (s : Selection) (first now : BytesWritten) (text : List ℕ) (views : List View)
    : Type 0 where
  pub gathered : AreGathered first now text (asked_text t s views)
  pub fine : now.failures ≡ first.failures

-- a record more was handed out than these
pub record IsOneMore (t : Texts) (s : Selection) (answer : Answer) (views : List View) (old new : BytesRead)
    (c : CutterState) (first now : BytesWritten) (text : List ℕ) : Type 0 where
  pub view : View
  pub handed : HasHandedOut new c (views ++ view ∷ [])
  pub called : old.calls < new.calls
  pub answered : answer ≡ answer_of s view
  pub held : IsHeld t s first now text (views ++ view ∷ [])

-- What comes next of an input, after these records: one more, its end, so that they are all, or a fault.
abbrev pub IsNext : Texts → Selection → Result Step SelectFault → List View → BytesRead → BytesRead → CutterState
    → BytesWritten → BytesWritten → List ℕ → Type 0
IsNext t s (Ok (Judged answer)) views old new c first now text =
    IsOneMore t s answer views old new c first now text
IsNext t s (Ok (Ended end)) views old new c first now text =
    AreAllViews new views end × IsHeld t s first now text views
IsNext t s (Err fault) views old new c first now text = IsFormatted t s (Err fault) new first now

-- these are the records up to the end
pub record HasCopied (t : Texts) (s : Selection) (found : Selected) (h : BytesRead) (first now : BytesWritten)
    (text : List ℕ) (views : List View) : Type 0 where
  pub is_found : IsFound s found h views
  pub held : IsHeld t s first now text views

abbrev pub IsCopying : Texts → Selection → Result Selected SelectFault → BytesRead → BytesWritten → BytesWritten
    → List ℕ → Type 0
IsCopying t s (Ok found) h first now text = (views : List View) × HasCopied t s found h first now text views
IsCopying t s (Err fault) h first now text = IsFormatted t s (Err fault) h first now
