-- The ranges of what is found of a record.
use Rattle.std.proofs.Common.{◌≡◌, ℕ, zero, suc, ℤ, ◌+◌, ◌-◌, ◌^◌, ◌<◌, ◌≤◌, List, [], ◌∷◌, ◌++◌, length}
use Rattle.std.proofs.Common.{map, Bool, cond, Option, Some, None, subst, arith, IfSome}
use Rattle.std.proofs.Common.{length-append}
use Rattle.std.specs.List.{AllByRecursion, filter, range_with_len}
use Rattle.std.proofs.Math.Nat.{div-le_self}
use Rattle.std.proofs.lemmas.List.{get_or-drop, length-drop}
use Rattle.std.proofs.lemmas.List.Elements.{recursion_from_All}
use Rattle.mseed_time.specs.Rate.{Ratio}
use Rattle.mseed_time.specs.declared.outcome.Join.{Join}
use Rattle.mseed_record.specs.View.{View, IsView}
use Rattle.mseed_record.specs.declared.leap.Leap.{Leap}
use Rattle.mseed_steim.specs.Frames.{DataWord, data_word, data_words, is_data, word_count, words_from}
use Rattle.mseed_steim.specs.Reading.{IsFault, encoding, in_payload}
use Rattle.mseed_steim.specs.Samples.{IsSample, IsFrameFault, IsPayloadFault, short, bad_word, overflow, last_differs}
use Rattle.mseed_steim.specs.declared.scheme.Scheme.{Scheme}
use Rattle.mseed_steim.specs.declared.form.Form.{Form}
use Rattle.mseed_steim.specs.declared.fault.ReadFault.{ReadFault}
use Rattle.mseed_steim.proofs.Framed.{constant_fits}
use Rattle.mseed_stream.proofs.Passed.{record_few}
use Rattle.mseed_stream.proofs.Records.{view_record}
use Rattle.mseed_audit.specs.declared.finding.Why.{Why}
use Rattle.mseed_audit.specs.declared.finding.Why.TheVariants.{RateChange}
use Rattle.mseed_audit.specs.Judging.{IsFound, read, after, known_rate, why_after, why_by}
use Rattle.mseed_audit.specs.Judging.{why_from, why_of}
use Rattle.std.proofs.ByRecursion.{all_kept_by}
use Rattle.mseed_join.specs.Lines.{HasReadFault, HasWhy, IsWord}
use Rattle.mseed_join.proofs.Ranges.{AreOctets, JoinFits, count_small, join_fits, octets_of, rate_within, start_within}

-- what holds of all of a list holds of one within it
pub middle : {X : Type 0} (P : X → Type 0) (first : List X) (x : X) (rest : List X)
    → AllByRecursion P (first ++ x ∷ rest) → P x
middle P [] x rest h = h.0
middle P (y ∷ first) x rest h = middle P first x rest h.1

-- ---- the payload
sample_word : (z : ℤ) → IsSample z → IsWord z
sample_word z h1 = grind arith

below : (k n m : ℕ) → k + n ≤ m → AllByRecursion (λ i. i < m) (range_with_len k n)
below k zero m h = tt
below k (suc n) m h = (omega (arith, h), below (k + 1) n m (omega (arith, h)))

abbrev IsAt : ℕ → DataWord → Type 0
IsAt m w = (w.frame < m) × (w.place < 16)

words_at : (p : List ℕ) (m : ℕ) (ks : List ℕ) → AllByRecursion (λ i. i < m) ks
    → AllByRecursion (IsAt m) (map (data_word p) ks)
words_at p m [] h = tt
words_at p m (k ∷ ks) h = ((omega (arith, div-le_self k 16, h.0), omega arith), words_at p m ks h.1)

data_words_at : (p : List ℕ) (m : ℕ) → word_count p + 3 ≤ m → AllByRecursion (IsAt m) (data_words p)
unfolding words_from
data_words_at p m h =
    let n : ℕ = word_count p - 3 in
    words_at p m (filter is_data (range_with_len 3 n)) (all_kept_by is_data (λ i. i < m) (range_with_len 3 n)
    (below 3 n m (omega (arith, h))))

frame_fault : (scheme : Scheme) (p : List ℕ) (n : ℕ) (f : ReadFault) → AreOctets p → length p ≤ 2 ^ 20 → n < 2 ^ 16
    → IsFrameFault scheme p n f → HasReadFault f
frame_fault scheme p n _ octets small few (short ds run l) = omega (arith, l, few)
frame_fault scheme p n _ octets small few (bad_word before bad back ds cut run l none) =
    let all = subst (λ (ws : List DataWord). AllByRecursion (IsAt (2 ^ 30)) ws) cut
    (data_words_at p (2 ^ 30) (omega (arith, small, div-le_self (length p) 64))) in
    let it = middle (IsAt (2 ^ 30)) before bad back all in
    (omega (arith, it.0), omega (arith, it.1))
frame_fault scheme p n _ octets small few (overflow prefix sum rest sums fit not_fit) =
    search (arith, length-append)
frame_fault scheme p n _ octets small few (last_differs prefix last sums fit differs) =
    search (arith, recursion_from_All, sample_word, middle, constant_fits)

payload_fault : (form : Form) (p : List ℕ) (n : ℕ) (f : ReadFault) → AreOctets p → length p ≤ 2 ^ 20 → n < 2 ^ 16
    → IsPayloadFault form p n f → HasReadFault f
payload_fault form p n f h1 h2 h3 h4 = grind (arith, frame_fault)

-- why samples aren't read
read_fault : (v : View) (f : ReadFault) → IsView v → IsFault v f → HasReadFault f
read_fault v _ is (encoding e none) = search (arith, octets_of)
read_fault v f is (in_payload e form some readable has _ why) =
    search (arith, length-drop, record_few, view_record, payload_fault, get_or-drop, octets_of, count_small)
read_fault v _ is _ = tt

-- ---- what is found after a record
of_join : (j : Join) → JoinFits j → IfSome (why_of j) HasWhy
of_join j h1 = grind arith

by_leap : (leap : Leap) (j : Join) → JoinFits j → IfSome (why_by leap j) HasWhy
by_leap leap j h1 = grind (arith, of_join)

by_rates : (b : Bool) (leap : Leap) (j : Join) → JoinFits j → IfSome (cond b (why_by leap j) (Some RateChange)) HasWhy
by_rates b leap j h1 = grind (arith, by_leap)

from_one : (b v : View) (o : Option Ratio) (next : Ratio) → IsView b → IsView v → known_rate b ≡ o
    → known_rate v ≡ Some next → IfSome (why_from b o v next) HasWhy
from_one b v None next is at e k = tt
from_one b v (Some r) next is at e k =
    search (arith, by_rates, join_fits, start_within, count_small, rate_within)

after_one : (before : Option View) (v : View) (next : Ratio) → IfSome before IsView → IsView v
    → known_rate v ≡ Some next → IfSome (why_after before v next) HasWhy
after_one before v next h1 h2 h3 = grind (arith, from_one)

pub found_has : (before : Option View) (v : View) (o : Option Why) → IfSome before IsView → IsView v
    → IsFound before v o → IfSome o HasWhy
found_has before v _ is at (read next e fault why) = read_fault v fault at why
found_has before v _ is at (after next e samples whole) = after_one before v next is at e
found_has before v _ is at _ = tt
