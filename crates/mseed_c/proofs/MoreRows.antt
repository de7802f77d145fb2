-- One row more with its samples, or without them.
use Rattle.std.proofs.Common.{◌≡◌, ◌≢◌, ◌≤◌, ◌<◌, ◌+◌, ◌∙◌, ◌==◌, ◌⊎◌, inl, inr, if◌then◌else◌, ℕ, ℤ, List}
use Rattle.std.proofs.Common.{take, drop, sym, ap, subst, arith}
use Rattle.std.proofs.lemmas.Bool.{cases_eq, ne_eqb, eq-eqb}
use Rattle.std.proofs.lemmas.List.{take-take, drop-take}
use Rattle.mseed_record.specs.View.{View}
use Rattle.mseed_steim.specs.Reading.{count_of, IsWhole}
use Rattle.mseed_c.specs.Decoded.{IsFirst}
use Rattle.mseed_c.specs.private.Filled.{AreSamples}
use Rattle.mseed_c.specs.private.Going.{TakesOn}
use Rattle.mseed_c.specs.Rows.{Describes, HasSamples, IsHead, IsRow, filled_by}
use Rattle.mseed_c.specs.declared.row.Row.{Row}

same_leading : (k filled : ℕ) (old new : List ℤ) → k ≤ filled → take filled new ≡ take filled old
    → take k old ≡ take k new
same_leading k filled old new low e =
    sym (take-take k filled old low) ∙ ap (λ (xs : List ℤ). take k xs) (sym e) ∙ take-take k filled new low

samples_stay : (row : Row) (v : View) (filled more : ℕ) (old new : List ℤ) → take filled new ≡ take filled old
    → HasSamples row v filled old → HasSamples row v (filled + more) new
samples_stay row v filled more old new e h =
    let within : row.first + row.samples ≤ filled = h.within in
    let P : List ℤ → Type 0 = λ xs. IsWhole v (drop row.first xs) in
    record {
      within = omega arith;
      whole = λ some. subst P (same_leading (row.first + row.samples) filled old new within e) (h.whole some);
    }

row_stays : (bytes : List ℕ) (filled more : ℕ) (old new : List ℤ) → take filled new ≡ take filled old → (row : Row)
    → IsRow bytes filled old row → IsRow bytes (filled + more) new row
row_stays bytes filled more old new e row r = record {
  view = r.view;
  at = r.at;
  describes = r.describes;
  samples = λ zero. samples_stay row r.view filled more old new e (r.samples zero);
  fault = r.fault;
}

own_samples : (row : Row) (v : View) (n filled : ℕ) (new : List ℤ) → row.first ≡ filled → row.samples ≡ count_of v
    → (n ≡ count_of v) × (0 < n → IsWhole v (take n (drop filled new))) → HasSamples row v (filled + n) new
own_samples row v n filled new first samples whole =
    let same : row.samples ≡ n = samples ∙ sym whole.0 in
    let P : ℕ → Type 0 = λ m. IsWhole v (drop m (take (m + row.samples) new)) in
    let Q : ℕ → Type 0 = λ m. IsWhole v (drop filled (take (filled + m) new)) in
    let R : List ℤ → Type 0 = λ xs. IsWhole v xs in
    record {
      within = omega arith;
      whole = λ some. subst P (sym first) (subst Q (sym same) (subst R (sym (drop-take filled n new))
          (whole.1 (let l : 0 < n = omega arith in l))));
    }

own_row : (bytes : List ℕ) (row : Row) (v : View) (n filled code : ℕ) (new : List ℤ)
    → IsFirst (drop row.offset bytes) v → Describes row v → row.first ≡ filled → row.code ≡ code
    → AreSamples v (drop filled new) n code → IsRow bytes (filled + n) new row
own_row bytes row v n filled code new at describes first c s = record {
  view = v;
  at = at;
  describes = describes;
  samples = λ zero. own_samples row v n filled new first describes.samples_are (s.whole (sym c ∙ zero));
  fault = λ coded.
      let why = s.fault (λ zero. coded (c ∙ zero)) in
      let some : 0 < row.samples = subst (λ (k : ℕ). 0 < k) (sym describes.samples_are) why.1 in
      (some, (why.2.0, (why.2.1.0, c ∙ why.2.1.1)));
}

filled_with : (code samples n : ℕ) → (code ≡ 0) ⊎ (code ≡ 0 → ⊥) → (code ≡ 0 → n ≡ samples) → (code ≢ 0 → n ≡ 0)
    → n ≡ (if code == 0 then samples else 0)
filled_with code samples n (inl e) all none = rw (eq-eqb code 0 e) (all e)
filled_with code samples n (inr d) all none = rw (ne_eqb code 0 d) (none d)

-- a row says how many samples were filled in for it
filled_is : (row : Row) (v : View) (out : List ℤ) (n code : ℕ) → row.samples ≡ count_of v → row.code ≡ code
    → AreSamples v out n code → n ≡ filled_by row
filled_is row v out n code samples c s =
    filled_with row.code row.samples n (cases_eq row.code 0) (λ e. (s.whole (sym c ∙ e)).0 ∙ sym samples)
    (λ d. (s.fault (λ e. d (c ∙ e))).0)

-- samples that are kept
pub written_on : (v : View) (filled n code : ℕ) (old new : List ℤ) → take filled new ≡ take filled old
    → AreSamples v (drop filled new) n code → TakesOn IsRow v filled (filled + n) code old new
written_on v filled n code old new leading s = record {
  keeps = λ bytes row r. row_stays bytes filled n old new leading row r;
  own = λ bytes row at describes first c. own_row bytes row v n filled code new at describes first c s;
  counted = λ row samples c. ap (λ (k : ℕ). filled + k) (filled_is row v (drop filled new) n code samples c s);
}

all_counted : (code samples n : ℕ) → code ≡ 0 → samples ≡ n → n ≡ (if code == 0 then samples else 0)
all_counted code samples n e same = rw (eq-eqb code 0 e) (sym same)

-- samples that are counted alone
pub counted_on : (v : View) (filled more : ℕ) (old new : List ℤ) → more ≡ filled + count_of v
    → TakesOn (λ bytes n out row. IsHead bytes n row) v filled more 0 old new
counted_on v filled more old new e = record {
  keeps = λ bytes row h. record { view = h.view; at = h.at; describes = h.describes; fine = h.fine };
  own = λ bytes row at describes first c. record { view = v; at = at; describes = describes; fine = c };
  counted = λ row samples c.
      e ∙ ap (λ (k : ℕ). filled + k) (all_counted row.code row.samples (count_of v) c samples);
}
