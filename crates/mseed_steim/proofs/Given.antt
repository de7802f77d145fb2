-- What the digits of words give is what the words spell.
use Rattle.mseed_steim.specs.private.Items.{Items}
use Rattle.mseed_steim.specs.Frames.{AreOctets}
use Rattle.std.proofs.Common.{◌≡◌, ℕ, zero, suc, ◌+◌, ◌*◌, ◌^◌, ◌<◌, drop, List, [], ◌∷◌, ◌++◌, map, ℤ}
use Rattle.std.proofs.lemmas.Bool.Decides.{nat_tests}
use Rattle.std.proofs.Common.{arith}
use Rattle.std.proofs.Common.{refl, ap, sym, append-nil, ◌∙◌, append_assoc, Option, Some, None, Result}
use Rattle.std.proofs.Common.{Ok, Err}
use Rattle.std.proofs.lemmas.List.{map-append}
use Rattle.std.specs.List.{AllByRecursion, filter, range_with_len}
use Rattle.std.proofs.lemmas.List.{get_or-drop}
use Rattle.std.proofs.lemmas.Bool.{cond_both}
use Rattle.byteorder.specs.Numbers.{big_from-lt}
use Rattle.mseed_steim.specs.declared.scheme.Scheme.{Scheme}
use Rattle.mseed_steim.specs.declared.differences.BadWordAt.{BadWordAt}
use Rattle.mseed_steim.specs.private.Digits.{differences_of}
use Rattle.mseed_steim.specs.Spelling.{Spells, SpellsNone}
use Rattle.mseed_steim.specs.Frames.{DataWord, data_word, is_data, word_at, words_from}
use Rattle.mseed_steim.specs.Runs.{SpellsRun, place_of, Gives, all, broken}
use Rattle.mseed_steim.specs.private.Items.{with_items, items_of}
use Rattle.mseed_steim.proofs.Spelled.{differences_spelled, spelled_differences}

-- a word of 32 bits
abbrev pub IsWord : DataWord → Type 0
IsWord w = w.bits < 2 ^ 32

pub word_small : (p : List ℕ) (k : ℕ) → AreOctets p → word_at p k < 2 ^ 32
word_small p k octets = big_from-lt 0 4 (drop (4 * k) p) (λ i. rw (get_or-drop (4 * k) p i 0) (octets (4 * k + i)))

-- a word before it, with what it spells
more_given : (s : Scheme) (w : DataWord) (ws : List DataWord) (ds : List ℤ) (items : Items)
    → Spells s w.code w.bits ds → Gives s ws items → Gives s (w ∷ ws) (map Ok ds ++ items)
more_given s w ws ds items p (all es run e) =
    all (ds ++ es) (ds, (es, (refl, (p, run)))) (ap (λ (xs : Items). map Ok ds ++ xs) e ∙ sym (map-append Ok ds es))
more_given s w ws ds items p (broken before bad after es cut run none e) =
    let joined : map Ok ds ++ items ≡ map Ok (ds ++ es) ++ Err (place_of bad) ∷ [] =
    search (arith, nat_tests, append_assoc, map-append) in
    broken (w ∷ before) bad after (ds ++ es) (ap (λ (xs : List DataWord). w ∷ xs) cut) (ds, (es, (refl, (p, run))))
    none joined

by_word : (s : Scheme) (w : DataWord) (ws : List DataWord) (o : Option (List ℤ)) → w.bits < 2 ^ 32
    → differences_of s w.code w.bits ≡ o → Gives s ws (items_of s ws)
    → Gives s (w ∷ ws) (with_items w o (items_of s ws))
by_word s w ws None small e more =
    broken [] w ws [] refl refl (λ ds p. cc (spelled_differences s w.code w.bits ds small p)) refl
by_word s w ws (Some ds) small e more =
    more_given s w ws ds (items_of s ws) (differences_spelled s w.code w.bits ds small e) more

-- The digits give what the words spell.
pub items_given : (s : Scheme) (ws : List DataWord) → AllByRecursion IsWord ws → Gives s ws (items_of s ws)
unfolding items_of
items_given s [] h = all [] refl refl
items_given s (w ∷ ws) h = by_word s w ws (differences_of s w.code w.bits) h.0 refl (items_given s ws h.1)

-- what words give with what a first one spells
pub all_after : (s : Scheme) (ws : List DataWord) (ds : List ℤ) → AllByRecursion IsWord ws → SpellsRun s ws ds
    → (more : List DataWord) → items_of s (ws ++ more) ≡ map Ok ds ++ items_of s more
unfolding items_of
all_after s [] ds h run more = rw run refl
all_after s (w ∷ ws) ds h run more =
    let first : List ℤ = run.0 in
    let rest : List ℤ = run.1.0 in
    let found : differences_of s w.code w.bits ≡ Some first =
    spelled_differences s w.code w.bits first h.0 run.1.1.1.0 in
    let later : items_of s (ws ++ more) ≡ map Ok rest ++ items_of s more = all_after s ws rest h.1 run.1.1.1.1 more in
    let joined : map Ok ds ≡ map Ok first ++ map Ok rest =
    ap (λ (zs : List ℤ). map {B = Result ℤ BadWordAt} Ok zs) run.1.1.0 ∙ map-append Ok first rest in
    rw (found, later, joined) (sym (append_assoc (map Ok first) (map Ok rest) (items_of s more)))

-- what holds of all words holds of the first of them
pub prefix_words : (P : DataWord → Type 0) (before after : List DataWord) → AllByRecursion P (before ++ after)
    → AllByRecursion P before
prefix_words P [] after h = tt
prefix_words P (w ∷ ws) after h = (h.0, prefix_words P ws after h.1)

word_after : (before : List DataWord) (bad : DataWord) (after : List DataWord)
    → AllByRecursion IsWord (before ++ bad ∷ after) → bad.bits < 2 ^ 32
word_after [] bad after h = h.0
word_after (w ∷ ws) bad after h = word_after ws bad after h.1

-- a word that spells nothing is the last
stops : (s : Scheme) (bad : DataWord) (after : List DataWord) (o : Option (List ℤ)) → bad.bits < 2 ^ 32
    → differences_of s bad.code bad.bits ≡ o → SpellsNone s bad.code bad.bits
    → with_items bad o (items_of s after) ≡ Err (place_of bad) ∷ []
stops s bad after None small e fails = refl
stops s bad after (Some ds) small e fails = absurd (fails ds (differences_spelled s bad.code bad.bits ds small e))

bad_items : (s : Scheme) (bad : DataWord) (after : List DataWord) → bad.bits < 2 ^ 32 → SpellsNone s bad.code bad.bits
    → items_of s (bad ∷ after) ≡ Err (place_of bad) ∷ []
unfolding items_of
bad_items s bad after small fails = stops s bad after (differences_of s bad.code bad.bits) small refl fails

none_of : (s : Scheme) → items_of s [] ≡ []
unfolding items_of
none_of s = refl

-- Words give nothing else.
pub given_items : (s : Scheme) (ws : List DataWord) (items : Items) → AllByRecursion IsWord ws
    → Gives s ws items → items ≡ items_of s ws
given_items s ws items h (all ds run e) =
    let whole : items_of s (ws ++ []) ≡ map Ok ds ++ items_of s [] = all_after s ws ds h run [] in
    e ∙ sym (append-nil (map Ok ds)) ∙ ap (λ (xs : Items). map Ok ds ++ xs) (sym (none_of s))
    ∙ sym whole ∙ ap (items_of s) (append-nil ws)
given_items s ws items h (broken before bad after ds cut run fails e) =
    let there : AllByRecursion IsWord (before ++ bad ∷ after) = search (arith, nat_tests) in
    let prefix : items_of s (before ++ bad ∷ after) ≡ map Ok ds ++ items_of s (bad ∷ after) =
    search (arith, nat_tests, all_after, prefix_words) in
    let last : items_of s (bad ∷ after) ≡ Err (place_of bad) ∷ [] = search (arith, nat_tests, bad_items, word_after) in
    rw cut (e ∙ sym (prefix ∙ ap (λ (xs : Items). map Ok ds ++ xs) last))

-- the words of a payload have 32 bits
data_small : (p : List ℕ) → AreOctets p → (k n : ℕ)
    → AllByRecursion IsWord (map (data_word p) (filter is_data (range_with_len k n)))
data_small p octets k zero = tt
data_small p octets k (suc n) = grind (arith, cond_both, word_small, data_small p octets (k + 1) n)

pub words_small : (p : List ℕ) → AreOctets p → (k n : ℕ) → AllByRecursion IsWord (words_from p k n)
unfolding words_from
words_small p octets k n = data_small p octets k n
