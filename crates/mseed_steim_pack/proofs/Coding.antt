-- Frames that are filled word by word, where the codes of the frame that is being filled aren't written yet.
use Rattle.std.proofs.Common.{◌≡◌, ◌≢◌, ℕ, ◌+◌, ◌-◌, ◌*◌, ◌/◌, ◌%◌, ◌^◌, ◌<◌, ◌≤◌, List, length, drop, ℤ, arith, refl}
use Rattle.std.proofs.Common.{suc, [], ◌∷◌, ◌++◌, ap, sym, ◌∙◌, ⊎_elim, cond, eqb, ltb, lit<}
use Rattle.std.proofs.Math.Nat.{mod-eq_of_lt, mul-lt-mul_of_pos_right, pow-le-pow_right, zero-div}
use Rattle.std.proofs.lemmas.Nat.{pow-add, pow_pos, shl-shr, shr-shr}
use Rattle.std.proofs.lemmas.Bool.{cases_lt, ne_eqb, eq-eqb, lt-ltb, le-ltb}
use Rattle.std.proofs.lemmas.List.{drop-drop, length-drop, length_push}
use Rattle.mseed_steim.specs.declared.scheme.Scheme.{Scheme}
use Rattle.mseed_steim.specs.Frames.{DataWord, word_at, code_at}
use Rattle.mseed_steim.proofs.Walking.{words_none}
use Rattle.mseed_steim_pack.specs.Packing.{IsFullest}
use Rattle.mseed_steim_pack.specs.private.Pushing.{Filling, HasWords, Pushing, code_in}
use Rattle.mseed_steim_pack.proofs.Filling.{words_pass, words_push}
use Rattle.mseed_steim_pack.proofs.Packs.{run_more}

-- one more code after others, which then stand two bits higher
more_codes : (codes code j : ℕ) → code < 4 → (codes * 4 + code) / 2 ^ (2 + j) ≡ codes / 2 ^ j
more_codes codes code j h =
    let four : (codes * 4 + code) / 2 ^ 2 ≡ codes = omega (arith, h) in
    sym (shr-shr (codes * 4 + code) 2 j) ∙ ap (λ (n : ℕ). n / 2 ^ j) four

more_small : (codes code m : ℕ) → codes < 2 ^ (2 * m + 2) → code < 4 → codes * 4 + code < 2 ^ (2 * (m + 1) + 2)
more_small codes code m h l = search (arith, pow-add)

-- with the last of them at a place, the others stand above it, and nothing below
codes_above : (codes t j : ℕ) → codes * 2 ^ t / 2 ^ (t + j) ≡ codes / 2 ^ j
codes_above codes t j = sym (shr-shr (codes * 2 ^ t) t j) ∙ ap (λ (n : ℕ). n / 2 ^ j) (shl-shr codes t)

none_below : (codes d t : ℕ) → codes * 2 ^ (d + 2 + t) / 2 ^ t % 4 ≡ 0
none_below codes d t =
    let high : codes * 2 ^ (d + 2 + t) ≡ codes * 2 ^ d * 4 * 2 ^ t =
    rw (pow-add 2 (d + 2) t, pow-add 2 d 2) (omega arith) in
    rw (high, shl-shr) (omega arith)

-- with the last of them where it stands, they are those that belong into the frame's first word
codes_whole : (codes m : ℕ) → codes < 2 ^ (2 * m + 2) → m < 16
    → codes * 2 ^ (30 - 2 * m) % 2 ^ 32 ≡ codes * 2 ^ (30 - 2 * m)
codes_whole codes m h few =
    let all : 2 * m + 2 + (30 - 2 * m) ≡ 32 = omega (arith, few) in
    let power : 2 ^ (2 * m + 2) * 2 ^ (30 - 2 * m) ≡ 2 ^ 32 = sym (pow-add 2 (2 * m + 2) (30 - 2 * m))
    ∙ ap (λ (n : ℕ). 2 ^ n) all in
    mod-eq_of_lt (rw power at (mul-lt-mul_of_pos_right h (pow_pos (30 - 2 * m))))

-- once they are written there, the words before the place have their codes
head_written : (s : Scheme) (ds : List ℤ) (p q : List ℕ) (head codes index used : ℕ)
    → Pushing s ds p head codes index used → ((k : ℕ) → k < index
    → word_at q k ≡ cond (eqb k head) (codes * 2 ^ (30 - 2 * ((index - 1) % 16)) % 2 ^ 32) (word_at p k))
    → HasWords p head codes index q
head_written s ds p q head codes index used f says k less =
    let at = f.at in
    let t = 30 - 2 * ((index - 1) % 16) in
    let low : codes * 2 ^ t % 2 ^ 32 ≡ codes * 2 ^ t = codes_whole codes ((index - 1) % 16) f.small (omega arith) in
    let first = 16 * (k / 16) in
    let says_first = says first (omega (arith, less)) in (
      ⊎_elim
          (λ (before : k < head).
          rw (lt-ltb k head before, says_first, ne_eqb first head (λ e. omega (arith, e, before, at))) refl)
          (λ (here : head ≤ k).
          let place : 30 - 2 * (k % 16) ≡ t + 2 * (index - 1 - k) = omega (arith, here, less, at) in
          let same = eq-eqb first head (omega (arith, here, less, at)) in
          rw (le-ltb k head here, says_first, same, low, place, codes_above) refl)
          (cases_lt k head),
      λ plain. says k less ∙ rw (ne_eqb k head (λ e. plain (omega (arith, e, at)))) refl,
    )

-- frames with one word more have those before it
has_before : (p q r : List ℕ) (head codes index head' codes' : ℕ) → ((k : ℕ) → k < index
    → (code_in q head' codes' (index + 1) k ≡ code_in p head codes index k) × (k % 16 ≢ 0 → word_at q k ≡ word_at p k))
    → HasWords q head' codes' (index + 1) r → HasWords p head codes index r
has_before p q r head codes index head' codes' kept has k less =
    let here = has k (omega (arith, less)) in
    (here.0 ∙ (kept k less).0, λ plain. here.1 plain ∙ (kept k less).1 plain)

constants_kept : (p q : List ℕ) (head codes index : ℕ) → 3 ≤ index → HasWords p head codes index q
    → (word_at p 1 ≡ 0) × (word_at p 2 ≡ 0) → (word_at q 1 ≡ 0) × (word_at q 2 ≡ 0)
constants_kept p q head codes index from has none =
    ((has 1 (omega (arith, from))).1 (λ e. cc) ∙ none.0, (has 2 (omega (arith, from))).1 (λ e. cc) ∙ none.1)

-- at first
pub pushing_none : (s : Scheme) (ds : List ℤ) (p : List ℕ) → word_at p 1 ≡ 0 → word_at p 2 ≡ 0
    → Pushing s ds p 0 0 3 0
pushing_none s ds p first last = record {
  from = omega arith;
  inside = omega arith;
  at = refl;
  small = omega arith;
  constants = (first, last);
  none = λ k less where_none. rw (le-ltb k 0 (omega arith), zero-div) refl;
  words = [];
  count = refl;
  run = refl;
  same = λ q has. words_none q 3;
}

-- past a frame's first word, where the codes of the frame before it are written
pub pushing_past : (s : Scheme) (ds : List ℤ) (p q : List ℕ) (head codes index used : ℕ) → index % 16 ≡ 0
    → ((k : ℕ) → word_at q k ≡ cond (eqb k head) codes (word_at p k))
    → Pushing s ds p head codes index used → Pushing s ds q index 0 (index + 1) used
pushing_past s ds p q head codes index used first says f =
    let from = f.from in
    let last : (index - 1) % 16 ≡ 15 = omega (arith, first, from) in
    let whole : codes * 2 ^ (30 - 2 * ((index - 1) % 16)) % 2 ^ 32 ≡ codes =
    rw last (omega (arith, rw last at f.small)) in
    let has = head_written s ds p q head codes index used f (λ k less. rw whole (says k)) in
    let kept : (k : ℕ) → k < index
    → (code_in q index 0 (index + 1) k ≡ code_in p head codes index k) × (k % 16 ≢ 0 → word_at q k ≡ word_at p k) =
    λ k less. (rw (lt-ltb k index less) (has k less).0, (has k less).1) in
    record {
      from = omega (arith, from);
      inside = f.inside;
      at = omega (arith, first, from);
      small = pow_pos (2 * ((index + 1 - 1) % 16) + 2);
      constants = constants_kept p q head codes index from has f.constants;
      none = λ k less where_none. ⊎_elim (λ (before : k < index). (kept k before).0 ∙ f.none k before where_none)
          (λ (here : index ≤ k). rw (le-ltb k index here, zero-div) refl) (cases_lt k index);
      words = f.words;
      count = f.count ∙ omega (arith, first, from);
      run = f.run;
      same = λ r more.
          let next : index + 1 - 3 ≡ suc (index - 3) = omega (arith, from) in
          rw next (words_pass r 3 (index - 3) (omega (arith, first, from)))
          ∙ f.same r (has_before p q r head codes index index 0 kept more);
    }

-- one more data word
pub pushing_more : (s : Scheme) (ds : List ℤ) (p q : List ℕ) (head codes index used code word n new : ℕ)
    → index % 16 ≢ 0 → code < 4 → Pushing s ds p head codes index used → IsFullest s (drop used ds) code word n
    → ((k : ℕ) → word_at q k ≡ cond (eqb k index) word (word_at p k))
    → new ≡ (codes * 4 % 2 ^ 32 + code) % 2 ^ 32 → Pushing s ds q head new (index + 1) (used + n)
pushing_more s ds p q head codes index used code word n new plain low f full says e =
    let m = (index - 1) % 16 in
    let from = f.from in
    let at = f.at in
    let small = f.small in
    let few : 2 * m + 2 ≤ 30 = omega (arith, plain, from) in
    let most : 2 ^ (2 * m + 2) ≤ 2 ^ 30 = pow-le-pow_right (lit< tt) few in
    let sum : new ≡ codes * 4 + code = omega (arith, e, most, small, low) in
    let next : (index + 1 - 1) % 16 ≡ m + 1 = omega (arith, plain, from) in
    let other : (k : ℕ) → k ≢ index → word_at q k ≡ word_at p k = λ k h. says k ∙ rw (ne_eqb k index h) refl in
    let kept : (k : ℕ) → k < index
    → (code_in q head new (index + 1) k ≡ code_in p head codes index k) × (k % 16 ≢ 0 → word_at q k ≡ word_at p k) =
    λ k less. (
      ⊎_elim
          (λ (less : k < head). rw (lt-ltb k head less, other (16 * (k / 16)) (λ e. omega (arith, e, less, at))) refl)
          (λ (here : head ≤ k).
          let place : 2 * (index + 1 - 1 - k) ≡ 2 + 2 * (index - 1 - k) = omega (arith, less) in
          rw (le-ltb k head here, sum, place, more_codes codes code (2 * (index - 1 - k)) low) refl)
          (cases_lt k head),
      λ plain. other k (λ e. omega (arith, e, less)),
    ) in
    let here : code_in q head new (index + 1) index ≡ code =
    let none : index + 1 - 1 - index ≡ 0 = omega arith in
    rw (le-ltb index head (omega (arith, at)), sum, none) (omega (arith, low)) in
    let w : DataWord = record { frame = index / 16; place = index % 16; code = code; bits = word } in
    record {
      from = omega (arith, from);
      inside = omega (arith, full.inside, f.inside, length-drop used ds);
      at = omega (arith, at, plain, from);
      small = rw (sum, next) (more_small codes code m small low);
      constants = (
        other 1 (λ e. omega (arith, e, from)) ∙ f.constants.0,
        other 2 (λ e. omega (arith, e, from)) ∙ f.constants.1,
      );
      none = λ k less where_none. ⊎_elim (λ (before : k < index). (kept k before).0 ∙ f.none k before where_none)
          (λ (same : index ≤ k). absurd (omega (arith, where_none, same, less, from, plain))) (cases_lt k index);
      words = f.words ++ w ∷ [];
      count = length_push f.words w ∙ omega (arith, f.count, plain, from);
      run = rw (← drop-drop n used ds) (run_more s f.words w ds (drop used ds) n f.run full);
      same = λ r more.
          let place : index + 1 - 3 ≡ suc (index - 3) = omega (arith, from) in
          let end : 3 + (index - 3) ≡ index = omega (arith, from) in
          let last = more index (omega arith) in
          let code_is : code_at r index ≡ code = last.0 ∙ here in
          let word_is : word_at r index ≡ word = last.1 plain ∙ says index ∙ rw (eq-eqb index index refl) refl in
          rw (place, words_push r 3 (index - 3) (rw end plain), end, code_is, word_is)
          (ap (λ (ws : List DataWord). ws ++ w ∷ []) (f.same r (has_before p q r head codes index head new kept more)));
    }

-- once the codes are written where they stand, and all words after the last are cleared, the frames are filled
pub pushed : (s : Scheme) (ds : List ℤ) (p q r : List ℕ) (head codes index used all : ℕ)
    → Pushing s ds p head codes index used → all ≡ codes * 2 ^ (30 - 2 * ((index - 1) % 16)) % 2 ^ 32
    → ((k : ℕ) → word_at q k ≡ cond (eqb k head) all (word_at p k))
    → ((k : ℕ) → word_at r k ≡ cond (ltb k index) (word_at q k) 0)
    → Filling s ds r index used (index - 3 - (index - 1) / 16)
pushed s ds p q r head codes index used all f e says clear =
    let from = f.from in
    let at = f.at in
    let m = (index - 1) % 16 in
    let below : (k : ℕ) → k < index
    → word_at r k ≡ cond (eqb k head) (codes * 2 ^ (30 - 2 * m) % 2 ^ 32) (word_at p k) =
    λ k less. clear k ∙ rw (lt-ltb k index less, ← e) (says k) in
    let has = head_written s ds p r head codes index used f below in
    let no_codes : (k : ℕ) → index ≤ k → code_at r k ≡ 0 = λ k over. ⊎_elim
    (λ (here : 16 * (k / 16) < index).
    let high : 30 - 2 * m ≡ 2 * (k % 16 - m) - 2 + 2 + (30 - 2 * (k % 16)) = omega (arith, here, over, from) in
    let same = eq-eqb (16 * (k / 16)) head (omega (arith, here, over, at)) in
    rw (below (16 * (k / 16)) here, same, codes_whole codes m f.small (omega arith), high)
    (none_below codes (2 * (k % 16 - m) - 2) (30 - 2 * (k % 16))))
    (λ (later : index ≤ 16 * (k / 16)). rw (clear (16 * (k / 16)), le-ltb (16 * (k / 16)) index later, zero-div) refl)
    (cases_lt (16 * (k / 16)) index) in
    record {
      from = from;
      inside = f.inside;
      count = ap (λ (ws : List DataWord). length ws) (f.same r has) ∙ f.count;
      run = rw (f.same r has) f.run;
      no_codes = no_codes;
      no_words = λ k over plain. clear k ∙ rw (le-ltb k index over) refl;
      constants = constants_kept p r head codes index from has f.constants;
      codes = λ k where_none. ⊎_elim (λ (less : k < index). (has k less).0 ∙ f.none k less where_none) (no_codes k)
          (cases_lt k index);
    }

-- so far, whatever the terms for it
pub pushed_so_far : {s : Scheme} {ds : List ℤ} {p : List ℕ} {head codes i j used count : ℕ}
    → Pushing s ds p head codes i used → i ≡ j → used ≡ count → Pushing s ds p head codes j count
pushed_so_far f at so_many = rw (← at, ← so_many) f
