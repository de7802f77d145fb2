-- What happens at a device.
use Rattle.std.specs.Prelude.{ℕ, zero, suc, List, [], ◌∷◌, ◌++◌, refl, ◌≡◌, Bool, true, false, ◌==◌, ◌||◌, get_or}
use Rattle.std.specs.Prelude.{◌+◌, if◌then◌else◌}
use Rattle.std.specs.Coded.{Coded, code_by, coded×, coded_ℕ, coded_list}
use Rattle.slink_live.specs.declared.ready.Event.{Event}
use Rattle.slink_live.specs.declared.ready.Event.TheVariants as events
use Rattle.slink_live.specs.declared.ready.Interest.{Interest}

-- bytes came from the input; a link stands in a slot from now on; bytes came from it; it accepted bytes; it is gone;
-- the device reported what can be done next; nobody dialled any more who could stand in a slot; to the device it was
-- reported what is wanted of the link in a slot, whether further links are wanted, and that the input is read no more;
-- bytes were handed to a link, to be accepted
pub data Happening : Type 0 where
  Input : (bytes : List ℕ) → Happening
  Opened : (slot : ℕ) → Happening
  Received : (slot : ℕ) (bytes : List ℕ) → Happening
  Emitted : (slot : ℕ) (bytes : List ℕ) → Happening
  Gone : (slot : ℕ) → Happening
  Next : (event : Event) → Happening
  Missed : (slot : ℕ) → Happening
  Wants : (slot : ℕ) (interest : Interest) → Happening
  WantsLinks : (wanted : Bool) → Happening
  Left : Happening
  Handed : (slot : ℕ) (bytes : List ℕ) → Happening

-- an answer as a number
abbrev pub flag_of : Bool → ℕ
flag_of true = 1
flag_of false = 0

abbrev pub is_flag : ℕ → Bool
is_flag n = n == 1

-- wishes as numbers
abbrev pub flags_of : Interest → List ℕ
flags_of w = flag_of w.reads ∷ flag_of w.writes ∷ flag_of w.is_streaming ∷ []

abbrev pub interest_by : List ℕ → Interest
interest_by flags = record {
  reads = is_flag (get_or flags 0 0);
  writes = is_flag (get_or flags 1 0);
  is_streaming = is_flag (get_or flags 2 0);
}

-- an event by the number of its kind
abbrev pub event_by : ℕ → ℕ → Event
event_by zero slot = events.Input
event_by (suc zero) slot = events.InputEnded
event_by (suc (suc zero)) slot = events.InputFailed
event_by (suc (suc (suc zero))) slot = events.Dialled
event_by (suc (suc (suc (suc zero)))) slot = events.Readable slot
event_by (suc (suc (suc (suc (suc zero))))) slot = events.Writable slot
event_by (suc (suc (suc (suc (suc (suc zero)))))) slot = events.Gone slot
event_by (suc (suc (suc (suc (suc (suc (suc n))))))) slot = events.Nothing

-- by the number of its kind
abbrev pub happening : ℕ → ℕ → List ℕ → Happening
happening zero slot bytes = Input bytes
happening (suc zero) slot bytes = Opened slot
happening (suc (suc zero)) slot bytes = Received slot bytes
happening (suc (suc (suc zero))) slot bytes = Emitted slot bytes
happening (suc (suc (suc (suc zero)))) slot bytes = Gone slot
happening (suc (suc (suc (suc (suc zero))))) slot bytes = Missed slot
happening (suc (suc (suc (suc (suc (suc zero)))))) slot bytes = Wants slot (interest_by bytes)
happening (suc (suc (suc (suc (suc (suc (suc zero))))))) slot bytes = WantsLinks (is_flag slot)
happening (suc (suc (suc (suc (suc (suc (suc (suc zero)))))))) slot bytes = Left
happening (suc (suc (suc (suc (suc (suc (suc (suc (suc zero))))))))) slot bytes = Handed slot bytes
happening (suc (suc (suc (suc (suc (suc (suc (suc (suc (suc n)))))))))) slot bytes = Next (event_by n slot)

abbrev Parts : Type 0
Parts = ℕ × (ℕ × List ℕ)

abbrev event_parts : Event → Parts
event_parts events.Input = (10, (0, []))
event_parts events.InputEnded = (11, (0, []))
event_parts events.InputFailed = (12, (0, []))
event_parts events.Dialled = (13, (0, []))
event_parts (events.Readable slot) = (14, (slot, []))
event_parts (events.Writable slot) = (15, (slot, []))
event_parts (events.Gone slot) = (16, (slot, []))
event_parts events.Nothing = (17, (0, []))

abbrev to_parts : Happening → Parts
to_parts (Input bytes) = (0, (0, bytes))
to_parts (Opened slot) = (1, (slot, []))
to_parts (Received slot bytes) = (2, (slot, bytes))
to_parts (Emitted slot bytes) = (3, (slot, bytes))
to_parts (Gone slot) = (4, (slot, []))
to_parts (Missed slot) = (5, (slot, []))
to_parts (Wants slot interest) = (6, (slot, flags_of interest))
to_parts (WantsLinks wanted) = (7, (flag_of wanted, []))
to_parts Left = (8, (0, []))
to_parts (Handed slot bytes) = (9, (slot, bytes))
to_parts (Next event) = event_parts event

abbrev of_parts : Parts → Happening
of_parts p = happening p.0 p.1.0 p.1.1

abbrev interest_of : Bool → Bool → Bool → Interest
interest_of reads writes is_streaming = record { reads = reads; writes = writes; is_streaming = is_streaming }

pub same_wants : (slot : ℕ) (reads writes is_streaming : Bool)
    → happening 6 slot (flags_of (interest_of reads writes is_streaming)) ≡ Wants slot
    (interest_of reads writes is_streaming)
same_wants slot true true true = refl
same_wants slot true true false = refl
same_wants slot true false true = refl
same_wants slot true false false = refl
same_wants slot false true true = refl
same_wants slot false true false = refl
same_wants slot false false true = refl
same_wants slot false false false = refl

pub same_links : (wanted : Bool) → happening 7 (flag_of wanted) [] ≡ WantsLinks wanted
same_links true = refl
same_links false = refl

same_event : (e : Event) → of_parts (event_parts e) ≡ Next e
same_event events.Input = refl
same_event events.InputEnded = refl
same_event events.InputFailed = refl
same_event events.Dialled = refl
same_event (events.Readable slot) = refl
same_event (events.Writable slot) = refl
same_event (events.Gone slot) = refl
same_event events.Nothing = refl

pub same_parts : (h : Happening) → of_parts (to_parts h) ≡ h
same_parts (Input bytes) = refl
same_parts (Opened slot) = refl
same_parts (Received slot bytes) = refl
same_parts (Emitted slot bytes) = refl
same_parts (Gone slot) = refl
same_parts (Missed slot) = refl
same_parts (Wants slot interest) = same_wants slot interest.reads interest.writes interest.is_streaming
same_parts (WantsLinks wanted) = same_links wanted
same_parts Left = refl
same_parts (Handed slot bytes) = refl
same_parts (Next event) = same_event event

-- how the logic stores them
abbrev pub happenings_code : Coded (List Happening)
happenings_code =
    coded_list (code_by Parts (coded× coded_ℕ (coded× coded_ℕ (coded_list coded_ℕ))) to_parts of_parts same_parts)

-- what the input gave
abbrev pub piece_of : Happening → List ℕ
piece_of (Input bytes) = bytes
piece_of _ = []

-- all bytes of the input, in whatever pieces they came
abbrev pub input_of : List Happening → List ℕ
input_of [] = []
input_of (h ∷ hs) = piece_of h ++ input_of hs

-- whether it happened in this slot
abbrev pub is_at : ℕ → Happening → Bool
is_at k (Opened slot) = slot == k
is_at k (Received slot bytes) = slot == k
is_at k (Emitted slot bytes) = slot == k
is_at k (Gone slot) = slot == k
is_at k _ = false

abbrev pub is_input : Happening → Bool
is_input (Input bytes) = true
is_input _ = false

-- how often the input was read
abbrev pub reads_of : List Happening → ℕ
reads_of [] = 0
reads_of (h ∷ hs) = (if is_input h then 1 else 0) + reads_of hs

-- what concerns a slot: the input, and what happened there
abbrev pub those_of : ℕ → List Happening → List Happening
those_of k [] = []
those_of k (h ∷ hs) = if is_input h || is_at k h then h ∷ those_of k hs else those_of k hs

-- what is wanted of the link in a slot, as it was reported to the device; at first it counts as reported that the link
-- is read
abbrev pub first_interest : Interest
first_interest = record { reads = true; writes = false; is_streaming = false }

abbrev pub interest_after : ℕ → Interest → Happening → Interest
interest_after k interest (Opened slot) = if slot == k then first_interest else interest
interest_after k interest (Wants slot new) = if slot == k then new else interest
interest_after k interest _ = interest

abbrev pub interest_from : ℕ → Interest → List Happening → Interest
interest_from k interest [] = interest
interest_from k interest (h ∷ hs) = interest_from k (interest_after k interest h) hs

-- what was last reported of the link in a slot
abbrev pub last_interest : ℕ → List Happening → Interest
last_interest k log = interest_from k first_interest log

abbrev pub links_by : Bool → Happening → Bool
links_by wanted (WantsLinks new) = new
links_by wanted _ = wanted

abbrev pub links_from : Bool → List Happening → Bool
links_from wanted [] = wanted
links_from wanted (h ∷ hs) = links_from (links_by wanted h) hs

-- whether it was last reported that further links are wanted; at first it counts as reported so
abbrev pub wants_links : List Happening → Bool
wants_links log = links_from true log

abbrev pub left_by : Bool → Happening → Bool
left_by is_left Left = true
left_by is_left _ = is_left

abbrev pub left_from : Bool → List Happening → Bool
left_from is_left [] = is_left
left_from is_left (h ∷ hs) = left_from (left_by is_left h) hs

-- whether it was reported that the input is read no more
abbrev pub is_left : List Happening → Bool
is_left log = left_from false log
