-- Words of code 01: their differences are their bytes.
use Rattle.mseed_steim.specs.Frames.{AreOctets}
use Rattle.std.proofs.Common.{◌≡◌, ◌≢◌, ℕ, zero, suc, ◌+◌, ◌-◌, ◌*◌, ◌/◌, ◌%◌, ◌^◌, ◌<◌, ◌≤◌, List, [], ◌∷◌, ◌++◌}
use Rattle.std.proofs.lemmas.Bool.Decides.{nat_tests}
use Rattle.std.proofs.Common.{length, map, take, drop, length-drop, ℤ, refl, sym, ap, ◌∙◌, append_assoc, arith}
use Rattle.std.proofs.Common.{cond, true, false, Bool, Some, Ok, ⊎_elim}
use Rattle.std.proofs.lemmas.Bool.{ne_eqb, eq-eqb, cases_lt}
use Rattle.std.proofs.lemmas.List.{map-append, drop-drop, get_or-drop, length-take-le}
use Rattle.std.proofs.Math.Seq.{take-add}
use Rattle.byteorder.specs.Endian.{twos_complement, big_number}
use Rattle.mseed_steim.specs.declared.scheme.Scheme.{Scheme}
use Rattle.mseed_steim.specs.ByteRuns.{run_in, byte_run}
use Rattle.mseed_steim.specs.private.Digits.{signed, digits, differences_of}
use Rattle.mseed_steim.specs.Frames.{data_word, word_at, code_at, words_from}
use Rattle.mseed_steim.specs.private.Items.{Items, items_of}
use Rattle.mseed_steim.specs.Runs.{SpellsRun}
use Rattle.mseed_steim.proofs.Given.{word_small}
use Rattle.mseed_steim.proofs.Spelled.{by_row, bytes_row, differences_spelled}
use Rattle.mseed_steim.proofs.Walking.{words_none, words_skip, words_step, words_cut, items_group, is_head}

-- what bytes stand for
abbrev pub widened : List ℕ → List ℤ
widened bytes = map (λ byte. twos_complement 1 byte) bytes

byte_signed : (x : ℕ) → x < 256 → signed 8 x ≡ twos_complement 1 x
byte_signed x h = search arith

-- the digits of four bytes
byte_digits : (xs : List ℕ) → 4 ≤ length xs → AreOctets xs → widened (take 4 xs) ≡ digits 8 (big_number 4 xs) 4
unfolding digits
byte_digits (a ∷ b ∷ c ∷ d ∷ xs) h small =
    let la : a < 256 = small 0 in
    let lb : b < 256 = small 1 in
    let lc : c < 256 = small 2 in
    let ld : d < 256 = small 3 in
    let w : ℕ = big_number 4 (a ∷ b ∷ c ∷ d ∷ xs) in
    let first : w / 2 ^ 24 % 2 ^ 8 ≡ a = omega arith in
    let second : w / 2 ^ 16 % 2 ^ 8 ≡ b = omega arith in
    let third : w / 2 ^ 8 % 2 ^ 8 ≡ c = omega arith in
    let fourth : w / 2 ^ 0 % 2 ^ 8 ≡ d = omega arith in
    rw (first, second, third, fourth, byte_signed a la, byte_signed b lb, byte_signed c lc, byte_signed d ld) refl
byte_digits _ h small = absurd (omega arith)

-- a word of code 01
pub word_bytes : (s : Scheme) (p : List ℕ) → AreOctets p → (k : ℕ) → code_at p k ≡ 1
    → 4 * (k + 1) ≤ length p → differences_of s (code_at p k) (word_at p k) ≡ Some (widened (take 4 (drop (4 * k) p)))
word_bytes s p octets k e h =
    let long : 4 ≤ length (drop (4 * k) p) = rw length-drop (omega (arith, h)) in
    let found = by_row s 1 (word_at p k) false 1 4 8 (widened (take 4 (drop (4 * k) p))) (omega arith)
    (bytes_row s (word_at p k / 2 ^ 30))
    (byte_digits (drop (4 * k) p) long (λ i. rw (get_or-drop (4 * k) p i 0) (octets (4 * k + i)))) in
    rw e found

-- the words of a run: each is of code 01, in one frame, and not the frame's first
abbrev pub AreBytes : List ℕ → ℕ → ℕ → ℕ → Type 0
AreBytes p frame k m = (i : ℕ) → i < m → (((k + i) / 16 ≡ frame) × ((k + i) % 16 ≢ 0) × (code_at p (k + i) ≡ 1))

next_bytes : (p : List ℕ) (frame k m : ℕ) → AreBytes p frame k (suc m) → AreBytes p frame (k + 1) m
next_bytes p frame k m h i less =
    let same : k + suc i ≡ k + 1 + i = omega arith in
    rw same at (h (suc i) (omega (arith, less)))

first_bytes : (p : List ℕ) (frame k m : ℕ) → AreBytes p frame k (suc m)
    → ((k / 16 ≡ frame) × (k % 16 ≢ 0) × (code_at p k ≡ 1))
first_bytes p frame k m h = search arith

-- the run of these words, and whatever is after them
pub run_words : (p : List ℕ) (frame m k n : ℕ) → AreBytes p frame k m → run_in frame (words_from p (k + m) n) ≡ []
    → run_in frame (words_from p k (m + n)) ≡ words_from p k m
run_words p frame zero k n h stop = grind (arith, words_none)
run_words p frame (suc m) k n h stop =
    let one = first_bytes p frame k m h in
    let more : suc m + n ≡ suc (m + n) = omega arith in
    let next : k + suc m ≡ k + 1 + m = omega arith in
    let later = run_words p frame m (k + 1) n (next_bytes p frame k m h) (rw next at stop) in
    grind (arith, eq-eqb, words_step)

neither : {X : Type 0} (b : Bool) (x y : X) → cond (cond b false false) x y ≡ y
neither true x y = refl
neither false x y = refl

other_frame : (p : List ℕ) (frame k n : ℕ) → k % 16 ≡ 0 → frame < k / 16 → run_in frame (words_from p (k + 1) n) ≡ []
other_frame p frame k zero e h = rw (words_none p (k + 1)) refl
other_frame p frame k (suc n) e h = grind (arith, ne_eqb, words_step)

-- where a run stops: at another code, or at the frame's end
pub run_stops : (p : List ℕ) (frame k n : ℕ) → (k % 16 ≢ 0 → code_at p k ≢ 1) → (k % 16 ≡ 0 → frame < k / 16)
    → run_in frame (words_from p k n) ≡ []
run_stops p frame k zero other past = rw (words_none p k) refl
run_stops p frame k (suc n) other past = grind (arith, is_head, ne_eqb, neither, other_frame, words_skip, words_step)

-- the bytes of a word, and those of the words after it
bytes_cut : (p : List ℕ) (k m : ℕ) → take (4 * suc m) (drop (4 * k) p) ≡ take 4 (drop (4 * k) p) ++ take (4 * m)
    (drop (4 * (k + 1)) p)
bytes_cut p k m =
    let more : 4 * suc m ≡ 4 + 4 * m = omega arith in
    let next : 4 * k + 4 ≡ 4 * (k + 1) = omega arith in
    let behind : drop 4 (drop (4 * k) p) ≡ drop (4 * (k + 1)) p = drop-drop 4 (4 * k) p
    ∙ ap (λ (i : ℕ). drop i p) next in
    ap (λ (i : ℕ). take i (drop (4 * k) p)) more ∙ take-add 4 (4 * m) (drop (4 * k) p)
    ∙ ap (λ (xs : List ℕ). take 4 (drop (4 * k) p) ++ take (4 * m) xs) behind

widened_cut : (p : List ℕ) (k m : ℕ) → widened (take (4 * suc m) (drop (4 * k) p)) ≡ widened (take 4 (drop (4 * k) p))
    ++ widened (take (4 * m) (drop (4 * (k + 1)) p))
widened_cut p k m = ap widened (bytes_cut p k m)
    ∙ map-append (λ byte. twos_complement 1 byte) (take 4 (drop (4 * k) p)) (take (4 * m) (drop (4 * (k + 1)) p))

-- what the run spells
pub run_spelled : (s : Scheme) (p : List ℕ) → AreOctets p → (frame m k : ℕ) → AreBytes p frame k m
    → 4 * (k + m) ≤ length p → SpellsRun s (words_from p k m) (widened (take (4 * m) (drop (4 * k) p)))
run_spelled s p octets frame zero k h inside = rw (words_none p k) refl
run_spelled s p octets frame (suc m) k h inside =
    let one = first_bytes p frame k m h in
    let word = differences_spelled s (code_at p k) (word_at p k) (widened (take 4 (drop (4 * k) p)))
    (word_small p k octets) (word_bytes s p octets k one.2 (omega (arith, inside))) in
    let later = run_spelled s p octets frame m (k + 1) (next_bytes p frame k m h) (omega (arith, inside)) in
    rw (words_step p k m one.1) (
      widened (take 4 (drop (4 * k) p)),
      (widened (take (4 * m) (drop (4 * (k + 1)) p)), (widened_cut p k m, (word, later))),
    )

pub run_items : (s : Scheme) (p : List ℕ) → AreOctets p → (frame m k n : ℕ) → AreBytes p frame k m
    → 4 * (k + m) ≤ length p → items_of s (words_from p k (m + n)) ≡ map Ok (widened (take (4 * m) (drop (4 * k) p)))
    ++ items_of s (words_from p (k + m) n)
run_items s p octets frame zero k n h inside =
    let none : k + 0 ≡ k = omega arith in
    let all : 0 + n ≡ n = omega arith in
    rw (none, all) refl
run_items s p octets frame (suc m) k n h inside =
    let one = first_bytes p frame k m h in
    let more : suc m + n ≡ suc (m + n) = omega arith in
    let next : k + 1 + m ≡ k + suc m = omega arith in
    let first : List ℤ = widened (take 4 (drop (4 * k) p)) in
    let others : List ℤ = widened (take (4 * m) (drop (4 * (k + 1)) p)) in
    let behind : Items = items_of s (words_from p (k + suc m) n) in
    let step = items_group s (words_from p k (suc (m + n))) (words_from p (k + 1) (m + n)) (data_word p k) first
    (words_step p k (m + n) one.1) (word_bytes s p octets k one.2 (omega (arith, inside))) in
    let later : items_of s (words_from p (k + 1) (m + n)) ≡ map Ok others ++ behind =
    rw next at (run_items s p octets frame m (k + 1) n (next_bytes p frame k m h) (omega (arith, inside))) in
    grind (arith, append_assoc, map-append, widened_cut)

-- how many words there are
pub run_count : (p : List ℕ) (frame m k : ℕ) → AreBytes p frame k m → length (words_from p k m) ≡ m
run_count p frame zero k h = rw (words_none p k) refl
run_count p frame (suc m) k h =
    let one = first_bytes p frame k m h in
    rw (words_step p k m one.1) (ap suc (run_count p frame m (k + 1) (next_bytes p frame k m h)))

-- the next word, and those after it
pub prefix : (p : List ℕ) (k end : ℕ) → k < end → k % 16 ≢ 0
    → words_from p k (end - k) ≡ data_word p k ∷ words_from p (k + 1) (end - (k + 1))
prefix p k end h data_place = let more : end - k ≡ suc (end - (k + 1)) = omega arith in
    rw more (words_step p k (end - (k + 1)) data_place)

-- a frame's first word
pub past_head : (p : List ℕ) (k end : ℕ) → k < end → k % 16 ≡ 0
    → words_from p (k + 1) (end - (k + 1)) ≡ words_from p k (end - k)
past_head p k end h head = let more : end - k ≡ suc (end - (k + 1)) = omega arith in
    rw more (sym (words_skip p k (end - (k + 1)) head))

-- all that is known of the codes of the frame in which words begin
abbrev pub IsAt : List ℕ → ℕ → ℕ → ℕ → Type 0
IsAt p codes from end = from < end → (from % 16 ≢ 0) × (codes ≡ word_at p (16 * (from / 16)))

abbrev pub is_code : ℕ → ℕ → ℕ
is_code codes k = codes / 2 ^ (30 - 2 * (k % 16)) % 4

bytes_to : (p : List ℕ) (codes from to end : ℕ) → to ≤ (from / 16 + 1) * 16 → to ≤ end → IsAt p codes from end
    → ((k : ℕ) → from ≤ k → k < to → is_code codes k ≡ 1) → AreBytes p (from / 16) from (to - from)
bytes_to p codes from to end h inside known run i less = search arith

run_from : (p : List ℕ) (from n : ℕ) → (0 < n → from % 16 ≢ 0)
    → byte_run (words_from p from n) ≡ run_in (from / 16) (words_from p from n)
run_from p from zero h = rw (words_none p from) refl
run_from p from (suc n) h = rw (words_step p from n (h (omega arith))) refl

stops_at : (p : List ℕ) (codes from to end : ℕ) → from ≤ to → to ≤ (from / 16 + 1) * 16 → to ≤ end
    → IsAt p codes from end → (to < (from / 16 + 1) * 16 → to < end → is_code codes to ≢ 1)
    → run_in (from / 16) (words_from p to (end - to)) ≡ []
stops_at p codes from to end low high inside known stop = ⊎_elim
    (λ (less : to < end).
    let at = known (omega (arith, low)) in
    grind (arith, run_stops))
    (λ (most : end ≤ to). let over : end - to ≡ 0 = omega (arith, most) in rw (over, words_none p to) refl)
    (cases_lt to end)

-- the words of a run that was taken, and what they spell
pub record Taken (p : List ℕ) (from to end : ℕ) : Type 0 where
  pub cut : words_from p from (end - from) ≡ byte_run (words_from p from (end - from)) ++ words_from p to (end - to)
  pub spelled : (s : Scheme)
      → SpellsRun s (byte_run (words_from p from (end - from))) (widened (take (4 * to - 4 * from) (drop (4 * from) p)))
  pub items : (s : Scheme)
      → items_of s (words_from p from (end - from)) ≡ map Ok (widened (take (4 * to - 4 * from) (drop (4 * from) p)))
      ++ items_of s (words_from p to (end - to))
  pub count : length (take (4 * to - 4 * from) (drop (4 * from) p)) ≡ 4 * length
      (byte_run (words_from p from (end - from)))

pub taken : (p : List ℕ) (codes from to end : ℕ) → AreOctets p → 4 * end ≤ length p → from ≤ to
    → to ≤ (from / 16 + 1) * 16 → to ≤ end → IsAt p codes from end
    → ((k : ℕ) → from ≤ k → k < to → is_code codes k ≡ 1)
    → (to < (from / 16 + 1) * 16 → to < end → is_code codes to ≢ 1) → Taken p from to end
taken p codes from to end octets room low high inside known run stop =
    let bytes = bytes_to p codes from to end high inside known run in
    let stopped = stops_at p codes from to end low high inside known stop in
    let whole : end - from ≡ (to - from) + (end - to) = omega (arith, low, inside) in
    let behind : from + (to - from) ≡ to = omega (arith, low) in
    let size : 4 * to - 4 * from ≡ 4 * (to - from) = omega arith in
    let fits : 4 * (from + (to - from)) ≤ length p = omega (arith, low, inside, room) in
    let is : byte_run (words_from p from (end - from)) ≡ words_from p from (to - from) =
    search (arith, nat_tests, run_from, run_words) in
    let long : 4 * (to - from) ≤ length (drop (4 * from) p) = rw length-drop (omega (arith, fits, low)) in
    record {
      cut = search (arith, nat_tests, words_cut);
      spelled = λ s. rw (is, size) (run_spelled s p octets (from / 16) (to - from) from bytes fits);
      items = λ s. rw (size) (ap (λ (n : ℕ). items_of s (words_from p from n)) whole
          ∙ run_items s p octets (from / 16) (to - from) from (end - to) bytes fits
          ∙ ap (λ (k : ℕ). map Ok (widened (take (4 * (to - from)) (drop (4 * from) p))) ++ items_of s
          (words_from p k (end - to))) behind);
      count = rw (is, size, run_count p (from / 16) (to - from) from bytes)
          (length-take-le (4 * (to - from)) (drop (4 * from) p) long);
    }
