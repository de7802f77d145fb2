-- Samples that are near one another, and what shows that they are before they are read.
use Rattle.std.specs.Prelude.{⊤, ◌≡◌, ◌≢◌, ℕ, ◌*◌, ◌%◌, ◌<◌, ◌≤◌, length, List, [], ◌∷◌, ℤ, ◌-ℤ◌}
use Rattle.byteorder.specs.Endian.{twos_complement}
use Rattle.mseed_time.specs.declared.order.Order.{Order}
use Rattle.mseed_time.specs.Fields.{number_at}
use Rattle.mseed_record.specs.View.{View, payload_of}
use Rattle.mseed_steim.specs.declared.scheme.Scheme.TheVariants.{One as Steim1, Two as Steim2}
use Rattle.mseed_steim.specs.declared.form.Width.TheVariants.{Two, Four}
use Rattle.mseed_steim.specs.declared.form.Form.{Form}
use Rattle.mseed_steim.specs.declared.form.Form.TheVariants.{Integers, Frames}
use Rattle.mseed_steim.specs.Frames.{code_at, word_at, word_count}
use Rattle.mseed_steim.specs.Reading.{HoldsIn, count_of}
use Rattle.mseed_steim.specs.Spelling.{IsWithin}

-- each number is the one before it plus a difference of 30 bits, the widest of a Steim-2 word (SEED manual, appendix B)
abbrev pub AreNearFrom : ℤ → List ℤ → Type 0
AreNearFrom before [] = ⊤
AreNearFrom before (x ∷ xs) = IsWithin 30 (x -ℤ before) × AreNearFrom x xs

abbrev pub AreNear : List ℤ → Type 0
AreNear [] = ⊤
AreNear (x ∷ xs) = AreNearFrom x xs

-- a Steim-1 word of one difference, code 3, has 30 bits at the most
abbrev pub IsNarrowAt : List ℕ → ℕ → Type 0
IsNarrowAt payload k = code_at payload k ≡ 3 → IsWithin 30 (twos_complement 4 (word_at payload k))

-- n 32-bit integers are there, each of 29 bits at the most (SEED manual, chapter 8, blockette 1000, field 4)
abbrev pub AreShort : Order → List ℕ → ℕ → Type 0
AreShort order payload n =
    (4 * n ≤ length payload) × ((i : ℕ) → i < n → IsWithin 29 (twos_complement 4 (number_at order 4 (4 * i) payload)))

-- The words or integers of a payload are such that no two neighbours among n samples are far apart: Steim-2 words have
-- no wider differences, and no two numbers of 29 bits have.
abbrev pub IsSurelyNear : Form → Order → List ℕ → ℕ → Type 0
IsSurelyNear (Integers Two) order payload n = ⊤
IsSurelyNear (Integers Four) order payload n = AreShort order payload n
IsSurelyNear (Frames Steim1) order payload n = (k : ℕ) → k < word_count payload → k % 16 ≢ 0 → IsNarrowAt payload k
IsSurelyNear (Frames Steim2) order payload n = ⊤

-- a record has a payload of a form that is read, and it is such
abbrev pub ShowsNear : View → Type 0
ShowsNear v =
    (form : Form) × (HoldsIn v form (payload_of v) × IsSurelyNear form v.payload_order (payload_of v) (count_of v))
