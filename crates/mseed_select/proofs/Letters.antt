-- A text is a pattern exactly where it is four fields of letters.
use Rattle.std.proofs.Common.{◌≡◌, ℕ, ◌≤◌, refl, sym, ap, ◌∙◌, arith, Bool, true, false, not}
use Rattle.std.proofs.Common.{◌||◌, eqb, List, [], ◌∷◌, ◌++◌, length, inl, inr, append_assoc}
use Rattle.std.specs.Prelude.{codes}
use Rattle.std.specs.List.{All, Contains, join_with_byte, list_all, list_any, onto_first, slice_split}
use Rattle.std.proofs.lemmas.Bool.{agree_below_at, and_parts, cases_Bool, cases_lt, eqb-true, false≢true, not-true}
use Rattle.std.proofs.lemmas.Bool.Decides.{nat_tests}
use Rattle.std.proofs.lemmas.List.Elements.{All-cons, All-contains, All-head, All-nil, All-tail}
use Rattle.std.proofs.lemmas.List.Folds.{list_all-append}
use Rattle.std.proofs.lemmas.List.Sums.{AllPass-from_list_all, list_all-from_AllPass}
use Rattle.std.proofs.lemmas.List.Splits.{length-slice_split, slice_split-cons_no, slice_split-cons_yes}
use Rattle.std.proofs.lemmas.Map.Views.{Contains-from_any}
use Rattle.mseed_record.specs.Letters.{AreFourFields, AreLetters, IsFourFields, letters}
use Rattle.mseed_record.specs.Pattern.{are_patterns, fields_in, is_character, is_pattern, patterns_in}
use Rattle.mseed_select.proofs.Padded.{Lacks}
use Rattle.mseed_select.proofs.TimeParts.{joined, next_part, one_part, three_parts}

-- ---- the letters
-- each number up to 127 that a pattern may have is one of them, or `_`
abbrev is_named : ℕ → Bool
is_named x = not (is_character x) || ((eqb x 95) || list_any (eqb x) letters)

no_letter : (x : ℕ) → 128 ≤ x → is_character x ≡ false
no_letter x h = grind (arith, nat_tests, h)

named : (x : ℕ) → is_character x ≡ true → eqb x 95 ≡ false → Contains letters x
named x e ne = elim (cases_lt x 128) [
  | inl lt ↦
      let test : is_named x ≡ true = agree_below_at is_named (λ n. true) 128 x refl lt in
      let rest : (false || (false || list_any (eqb x) letters)) ≡ true = rw ne at (rw e at test) in
      Contains-from_any {eq = eqb} (λ a b h. eqb-true a b h) x letters rest
  | inr ge ↦ absurd (false≢true (sym (no_letter x ge) ∙ e))
]

letter_is : (x : ℕ) → Contains letters x → is_character x ≡ true
letter_is x in_letters =
    All-contains (λ (c : ℕ). is_character c ≡ true) letters x (AllPass-from_list_all is_character letters refl)
    in_letters

letters_lack : (field : List ℕ) → AreLetters field → Lacks 95 field
letters_lack field are = λ k d h. not-true _ (All-contains (λ (y : ℕ). not (eqb y 95) ≡ true) letters _
    (AllPass-from_list_all (λ (y : ℕ). not (eqb y 95)) letters refl) (are k d h))

letters_test : (field : List ℕ) → AreLetters field → list_all is_character field ≡ true
letters_test field are = list_all-from_AllPass is_character field (λ k d h. letter_is _ (are k d h))

letters_of : (field : List ℕ) → list_all is_character field ≡ true → Lacks 95 field → AreLetters field
letters_of field test none = λ k d h.
    named _ (AllPass-from_list_all is_character field test k d h) (none k d h)

-- ---- four fields
abbrev by_bars : List ℕ → List ℕ → List ℕ → List ℕ → List ℕ
by_bars a b c d = a ++ 95 ∷ (b ++ 95 ∷ (c ++ 95 ∷ d))

by_bars_is : (a b c d : List ℕ) → a ++ codes "_" ++ b ++ codes "_" ++ c ++ codes "_" ++ d ≡ by_bars a b c d
by_bars_is a b c d = simp append_assoc

characters_join : (a rest : List ℕ) → list_all is_character a ≡ true → list_all is_character rest ≡ true
    → list_all is_character (a ++ 95 ∷ rest) ≡ true
characters_join a rest e h = rw (list_all-append is_character a (95 ∷ rest), e) h

characters_part : (a rest : List ℕ) → list_all is_character (a ++ 95 ∷ rest) ≡ true
    → (list_all is_character a ≡ true) × (list_all is_character rest ≡ true)
characters_part a rest e =
    and_parts (list_all is_character a) _ (rw (list_all-append is_character a (95 ∷ rest)) at e)

pub four_back : (pattern : List ℕ) → IsFourFields pattern → is_pattern pattern ≡ true
four_back pattern f =
    let is : pattern ≡ by_bars f.network f.station f.location f.channel =
    f.pattern_is ∙ by_bars_is f.network f.station f.location f.channel in
    let split : slice_split (λ (x : ℕ). eqb x 95) (by_bars f.network f.station f.location f.channel)
    ≡ f.network ∷ f.station ∷ f.location ∷ f.channel ∷ [] =
    next_part 95 f.network (f.station ++ 95 ∷ (f.location ++ 95 ∷ f.channel))
    (letters_lack f.network f.network_is)
    ∙ ap (λ (ps : List (List ℕ)). f.network ∷ ps) (three_parts 95 f.station f.location f.channel
    (letters_lack f.station f.station_is) (letters_lack f.location f.location_is)
    (letters_lack f.channel f.channel_is)) in
    let characters : list_all is_character (by_bars f.network f.station f.location f.channel) ≡ true =
    characters_join f.network (f.station ++ 95 ∷ (f.location ++ 95 ∷ f.channel)) (letters_test f.network f.network_is)
    (characters_join f.station (f.location ++ 95 ∷ f.channel) (letters_test f.station f.station_is)
    (characters_join f.location f.channel (letters_test f.location f.location_is)
    (letters_test f.channel f.channel_is))) in
    rw (is, characters, split) refl

-- no part of a text has the separator
abbrev EachLacks : ℕ → List (List ℕ) → Type 0
EachLacks c [] = Unit {0}
EachLacks c (part ∷ parts) = Lacks c part × EachLacks c parts

onto : (c x : ℕ) (parts : List (List ℕ)) → eqb x c ≡ false → EachLacks c parts → EachLacks c (onto_first x parts)
onto c x [] e each = (All-cons (λ (y : ℕ). eqb y c ≡ false) x [] e (All-nil (λ (y : ℕ). eqb y c ≡ false)), tt)
onto c x (part ∷ parts) e each = (All-cons (λ (y : ℕ). eqb y c ≡ false) x part e each.0, each.1)

pub parts_lack : (c : ℕ) (xs : List ℕ) → EachLacks c (slice_split (λ (y : ℕ). eqb y c) xs)
parts_lack c [] = (All-nil (λ (y : ℕ). eqb y c ≡ false), tt)
parts_lack c (x ∷ xs) = elim (cases_Bool (eqb x c)) [
  | inl e ↦ rw (slice_split-cons_yes (λ (y : ℕ). eqb y c) x xs e)
      (All-nil (λ (y : ℕ). eqb y c ≡ false), parts_lack c xs)
  | inr e ↦ rw (slice_split-cons_no (λ (y : ℕ). eqb y c) x xs e) (onto c x _ e (parts_lack c xs))
]

four_of : (pattern : List ℕ) (parts : List (List ℕ)) → length parts ≡ 4 → pattern ≡ join_with_byte 95 parts
    → EachLacks 95 parts → list_all is_character pattern ≡ true → IsFourFields pattern
four_of pattern (a ∷ b ∷ c ∷ d ∷ []) n e lack all =
    let one = characters_part a (b ++ 95 ∷ (c ++ 95 ∷ d)) (rw e at all) in
    let two = characters_part b (c ++ 95 ∷ d) one.1 in
    let three = characters_part c d two.1 in record {
      network = a;
      station = b;
      location = c;
      channel = d;
      pattern_is = e ∙ sym (by_bars_is a b c d);
      network_is = letters_of a one.0 lack.0;
      station_is = letters_of b two.0 lack.1.0;
      location_is = letters_of c three.0 lack.1.1.0;
      channel_is = letters_of d three.1 lack.1.1.1.0;
    }
four_of pattern parts n e lack all = absurd (omega (arith, n))

pub four_yes : (pattern : List ℕ) → is_pattern pattern ≡ true → IsFourFields pattern
four_yes pattern e =
    let both = and_parts (list_all is_character pattern) (eqb (length (fields_in pattern)) 4) e in
    four_of pattern (fields_in pattern) (eqb-true (length (fields_in pattern)) 4 both.1)
    (joined 95 pattern (fields_in pattern) refl) (parts_lack 95 pattern) both.0

-- ---- a text of them
is_no_comma : (x : ℕ) → is_character x ≡ true → eqb x 44 ≡ false
is_no_comma x e = grind (arith, nat_tests, e)

four_lack : (pattern : List ℕ) → IsFourFields pattern → Lacks 44 pattern
four_lack pattern f =
    let both =
    and_parts (list_all is_character pattern) (eqb (length (fields_in pattern)) 4) (four_back pattern f) in
    λ k d h. is_no_comma _ (AllPass-from_list_all is_character pattern both.0 k d h)

split_join : (patterns : List (List ℕ)) → 1 ≤ length patterns → All IsFourFields patterns
    → slice_split (λ (x : ℕ). eqb x 44) (join_with_byte 44 patterns) ≡ patterns
split_join [] some each = absurd (omega (arith, some))
split_join (p ∷ []) some each = one_part 44 p (four_lack p (All-head IsFourFields p [] each))
split_join (p ∷ q ∷ ps) some each =
    next_part 44 p (join_with_byte 44 (q ∷ ps)) (four_lack p (All-head IsFourFields p (q ∷ ps) each))
    ∙ ap (λ (qs : List (List ℕ)). p ∷ qs)
    (split_join (q ∷ ps) (omega arith) (All-tail IsFourFields p (q ∷ ps) each))

pub fields_back : (text : List ℕ) → AreFourFields text → are_patterns text ≡ true
fields_back text f =
    rw (f.text_is, split_join f.patterns f.some f.each)
    (list_all-from_AllPass is_pattern f.patterns (λ k d h. four_back _ (f.each k d h)))

pub fields_yes : (text : List ℕ) → are_patterns text ≡ true → AreFourFields text
fields_yes text e = record {
  patterns = patterns_in text;
  some = omega (arith, length-slice_split (λ (x : ℕ). eqb x 44) text);
  text_is = joined 44 text (patterns_in text) refl;
  each = λ k d h. four_yes _ (AllPass-from_list_all is_pattern (patterns_in text) e k d h);
}
