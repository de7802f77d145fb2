-- The place that a word names is the one that it spells.
use Rattle.std.proofs.Common.{◌≡◌, ℕ, ◌≤◌, ◌<◌, ◌+◌, ◌==◌, ◌&&◌, ap, sym, ◌∙◌, refl, arith, cond, Bool, true, false}
use Rattle.std.proofs.Common.{List, ◌∷◌, ◌++◌, length, take, drop, get_or, Option, Some, None, Result, Ok, Err}
use Rattle.std.proofs.lemmas.Grind.{common_steps}
use Rattle.std.proofs.lemmas.Bool.{eqb-true, le-leb, leb-true}
use Rattle.std.proofs.lemmas.List.Sums.{passes_at_first}
use Rattle.std.specs.Prelude.{IfOk, OnErr}
use Rattle.std.specs.Result.{result_ok}
use Rattle.std.specs.List.{after_first, before_first, position_or_len}
use Rattle.clap.proofs.WalkLemmas.{both}
use Rattle.slink_wire.proofs.Codes.{without}
use Rattle.slink_wire.proofs.Cuts.{cut_at, first_at}
use Rattle.slink_wire.specs.Place.{Fields, IsCode, SpellsPlace, fields_of}
use Rattle.mseed_words.specs.FeedWords.{is_code, place_by, place_in}

code_yes : (width : ℕ) (code : List ℕ) → IsCode width code → is_code width code ≡ true
code_yes width code h = rw (le-leb _ _ h.0, le-leb _ _ h.1, h.2) refl

code_is : (width : ℕ) (code : List ℕ) → is_code width code ≡ true → IsCode width code
code_is width code e =
    let one = both _ _ e in
    let two = both _ _ one.1 in
    (leb-true _ _ one.0, leb-true _ _ two.0, two.1)

-- codes of which one is none name no place
pub not_by : (sta net : List ℕ) → ¬ (IsCode 5 sta × IsCode 2 net) → place_by sta net ≡ None
not_by sta net never = go (is_code 5 sta && is_code 2 net) refl
  where
    go : (b : Bool) → (is_code 5 sta && is_code 2 net) ≡ b → cond b (Some (fields_of sta net)) None ≡ None
    go false are = refl
    go true are =
        let codes = both _ _ are in
        absurd (never (code_is 5 sta codes.0, code_is 2 net codes.1))

-- the first underscore of what is spelled stands after the network's code
cut : (net sta : List ℕ) → IsCode 2 net → (before_first (λ c. c == 95) (net ++ 95 ∷ sta) ≡ net)
    × (after_first (λ c. c == 95) (net ++ 95 ∷ sta) ≡ sta)
cut net sta code =
    let at : position_or_len (λ c. c == 95) (net ++ 95 ∷ sta) ≡ length net =
    first_at (λ c. c == 95) net 95 sta (without 95 refl net code.2) refl in
    let prefix : take (length net) (net ++ 95 ∷ sta) ≡ net = grind (arith, common_steps) in
    let back : drop (length net + 1) (net ++ 95 ∷ sta) ≡ sta = grind (arith, common_steps) in
    (ap (λ (n : ℕ). take n (net ++ 95 ∷ sta)) at ∙ prefix, ap (λ (n : ℕ). drop (n + 1) (net ++ 95 ∷ sta)) at ∙ back)

spelled : (word : List ℕ) (p : Fields) → SpellsPlace word p → place_in word ≡ Some p
spelled word p h =
    let parts = cut h.1 h.0 h.3 in
    rw (h.4, h.5, parts.0, parts.1, code_yes 5 h.0 h.2, code_yes 2 h.1 h.3) refl

-- a word that names a place has an underscore
inside : (word : List ℕ) → 1 ≤ length (after_first (λ c. c == 95) word)
    → position_or_len (λ c. c == 95) word < length word
inside word some = grind (arith, common_steps, some)

names : (word : List ℕ) (p : Fields) → place_in word ≡ Some p → SpellsPlace word p
names word p e = go (is_code 5 (after_first (λ c. c == 95) word) && is_code 2 (before_first (λ c. c == 95) word)) refl e
  where
    go : (b : Bool) → (is_code 5 (after_first (λ c. c == 95) word) && is_code 2 (before_first (λ c. c == 95) word)) ≡ b
        → cond b (Some (fields_of (after_first (λ c. c == 95) word) (before_first (λ c. c == 95) word))) None ≡ Some p
        → SpellsPlace word p
    go false are same = absurd (let bad : None ≡ Some p = same in cc bad)
    go true are same =
        let codes = both _ _ are in
        let sta = code_is 5 _ codes.0 in
        let net = code_is 2 _ codes.1 in
        let within = inside word sta.0 in
        let there : get_or word (position_or_len (λ c. c == 95) word) 0 ≡ 95 =
        eqb-true _ _ (passes_at_first (λ c. c == 95) word 0 within) in
        let whole : word ≡ before_first (λ c. c == 95) word ++ 95 ∷ after_first (λ c. c == 95) word =
        cut_at (λ c. c == 95) word within
        ∙ ap (λ (u : ℕ). before_first (λ c. c == 95) word ++ u ∷ after_first (λ c. c == 95) word) there in
        (after_first (λ c. c == 95) word, before_first (λ c. c == 95) word, sta, net, whole, cc same)

-- what is read of a word is what it names
pub read_is : {E : Type 0} (word : List ℕ) (r : Result Fields E) → IfOk r (SpellsPlace word)
    → OnErr r ((p : Fields) → ¬ (SpellsPlace word p))
    → result_ok r ≡ place_in word
read_is word (Ok p) spells none = sym (spelled word p spells)
read_is word (Err e) spells none = go (place_in word) refl
  where
    go : (o : Option Fields) → place_in word ≡ o → None ≡ o
    go None is = refl
    go (Some p) is = absurd (none p (names word p is))
