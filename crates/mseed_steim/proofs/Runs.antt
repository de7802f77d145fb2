-- What two runs over the same words have in common.
use Rattle.std.proofs.Common.{◌≡◌, ◌≢◌, ℕ, suc, ◌+◌, ◌<◌, ◌≤◌, List, [], ◌∷◌, ◌++◌, length, ℤ, ◌+ℤ◌, arith, refl, ap}
use Rattle.std.proofs.lemmas.Bool.Decides.{nat_tests}
use Rattle.std.proofs.Common.{append-nil, sym, ◌∙◌, subst, length-append, All}
use Rattle.std.proofs.lemmas.List.Elements.{All-head, All-tail}
use Rattle.mseed_steim.specs.declared.scheme.Scheme.{Scheme}
use Rattle.mseed_steim.specs.declared.fault.ReadFault.{ReadFault}
use Rattle.mseed_steim.specs.declared.fault.ReadFault.TheVariants.{Overflow, LastDiffers}
use Rattle.mseed_steim.specs.Spelling.{Spells}
use Rattle.mseed_steim.specs.Frames.{DataWord, data_words, first_constant, last_constant}
use Rattle.mseed_steim.specs.Runs.{SpellsRun}
use Rattle.mseed_steim.specs.Samples.{IsSample, Adds, StartsAndAdds, AreSums, IsFrameFault, short, bad_word, overflow}
use Rattle.mseed_steim.specs.Samples.{last_differs}
use Rattle.mseed_steim.specs.private.Sums.{lack_at}
use Rattle.mseed_steim.proofs.Prefixes.{Ending, Stops, last_item}
use Rattle.mseed_steim.proofs.Table.{spells_one}

-- as far as both go, two lists are the same
abbrev Agree : List ℤ → List ℤ → Type 0
Agree [] es = Unit {0}
Agree (d ∷ ds) [] = Unit {0}
Agree (d ∷ ds) (e ∷ es) = (d ≡ e) × Agree ds es

agree_nil : (ds : List ℤ) → Agree ds []
agree_nil [] = tt
agree_nil (d ∷ ds) = tt

agree_append : (xs ds es : List ℤ) → Agree ds es → Agree (xs ++ ds) (xs ++ es)
agree_append [] ds es h = h
agree_append (x ∷ xs) ds es h = (refl, agree_append xs ds es h)

runs_agree : (s : Scheme) (fa ra fb rb : List DataWord) (ds es : List ℤ) → fa ++ ra ≡ fb ++ rb → SpellsRun s fa ds
    → SpellsRun s fb es → Agree ds es
runs_agree s [] ra fb rb ds es e h k = subst (λ (xs : List ℤ). Agree xs es) (sym h) tt
runs_agree s (w ∷ fa) ra [] rb ds es e h k = subst (Agree ds) (sym k) (agree_nil ds)
runs_agree s (w ∷ fa) ra (v ∷ fb) rb ds es e h k =
    let same : w ≡ v = cc in
    let rest : fa ++ ra ≡ fb ++ rb = cc in
    let one : h.0 ≡ k.0 = spells_one s v.code v.bits h.0 k.0
    (subst (λ (u : DataWord). Spells s u.code u.bits h.0) same h.1.1.1.0) k.1.1.1.0 in
    let later : Agree h.1.0 k.1.0 = runs_agree s fa ra fb rb h.1.0 k.1.0 rest h.1.1.1.1 k.1.1.1.1 in
    let both : Agree (k.0 ++ h.1.0) (k.0 ++ k.1.0) = agree_append k.0 h.1.0 k.1.0 later in
    let left : ds ≡ k.0 ++ h.1.0 = h.1.1.0 ∙ ap (λ (xs : List ℤ). xs ++ h.1.0) one in
    subst (Agree ds) (sym k.1.1.0) (subst (λ (xs : List ℤ). Agree xs (k.0 ++ k.1.0)) (sym left) both)

adds_one : (x : ℤ) (ds es ss ts : List ℤ) → Agree ds es → length ss ≡ length ts → Adds x ds ss → Adds x es ts → ss ≡ ts
adds_one x ds es [] [] g l h k = refl
adds_one x [] es (s ∷ ss) (t ∷ ts) g l h k = absurd h
adds_one x (d ∷ ds) [] (s ∷ ss) (t ∷ ts) g l h k = absurd k
adds_one x (d ∷ ds) (e ∷ es) (s ∷ ss) (t ∷ ts) g l h k =
    let first : s ≡ t = h.0 ∙ ap (λ (z : ℤ). x +ℤ z) g.0 ∙ sym k.0 in
    let later : ss ≡ ts = adds_one t ds es ss ts g.1 (omega arith) (subst (λ (z : ℤ). Adds z ds ss) first h.1) k.1 in
    cc
adds_one x ds es _ _ g l h k = absurd (omega arith)

starts_one : (x : ℤ) (ds es ss ts : List ℤ) → Agree ds es → length ss ≡ length ts → StartsAndAdds x ds ss
    → StartsAndAdds x es ts → ss ≡ ts
starts_one x ds es ss ts g l h k = search (arith, adds_one)

-- Frames have one list of sums at most.
pub sums_one : (s : Scheme) (p : List ℕ) (n : ℕ) (ss ts : List ℤ) → AreSums s p n ss → AreSums s p n ts → ss ≡ ts
sums_one s p n ss ts a b =
    starts_one (first_constant p) a.differences b.differences ss ts
    (runs_agree s a.prefix a.rest b.prefix b.rest a.differences b.differences (sym a.cut ∙ b.cut) a.spelled b.spelled)
    (a.count ∙ sym b.count) a.sums b.sums

-- no prefix of words spells more than those before their end or a bad one do, nor goes past it
bounds : (s : Scheme) (fa ra fb rb : List DataWord) (ds es : List ℤ) → fa ++ ra ≡ fb ++ rb → SpellsRun s fa ds
    → Stops s ra → SpellsRun s fb es → (length es ≤ length ds) × (length ra ≤ length rb)
bounds s fa ra [] rb ds es e h stops k = grind (arith, length-append)
bounds s [] [] (v ∷ fb) rb ds es e h stops k = cc
bounds s [] (bad ∷ after) (v ∷ fb) rb ds es e h none k =
    let same : v ≡ bad = cc in
    absurd (none k.0 (subst (λ (u : DataWord). Spells s u.code u.bits k.0) same k.1.1.1.0))
bounds s (w ∷ fa) ra (v ∷ fb) rb ds es e h stops k =
    let same : w ≡ v = cc in
    let rest : fa ++ ra ≡ fb ++ rb = cc in
    let one : h.0 ≡ k.0 = spells_one s v.code v.bits h.0 k.0
    (subst (λ (u : DataWord). Spells s u.code u.bits h.0) same h.1.1.1.0) k.1.1.1.0 in
    let later = bounds s fa ra fb rb h.1.0 k.1.0 rest h.1.1.1.1 stops k.1.1.1.1 in
    let left : length ds ≡ length k.0 + length h.1.0 = search (arith, nat_tests, length-append) in
    let right : length es ≡ length k.0 + length k.1.0 = search (arith, nat_tests, length-append) in
    (omega (arith, later.0, left, right), later.1)

-- what stands at the end of a list, by how much it is
same_behind : (fa ra fb rb : List DataWord) → fa ++ ra ≡ fb ++ rb → length ra ≡ length rb → ra ≡ rb
same_behind [] ra [] rb e long = e
same_behind (w ∷ fa) ra (v ∷ fb) rb e long = same_behind fa ra fb rb (cc) long
same_behind _ ra _ rb e long = grind (arith, length-append)

-- so words stop in one way
one_ending : {s : Scheme} {words : List DataWord} {ds es : List ℤ} {rest more : List DataWord}
    → Ending s words ds rest → Ending s words es more → (length ds ≡ length es) × (rest ≡ more)
one_ending {s} {ds = ds} {es} {rest} {more} a b =
    let one = bounds s a.before rest b.before more ds es (sym a.cut ∙ b.cut) a.spelled a.stops b.spelled in
    let other = bounds s b.before more a.before rest es ds (sym b.cut ∙ a.cut) b.spelled b.stops a.spelled in
    let same = same_behind a.before rest b.before more (sym a.cut ∙ b.cut) (omega (arith, one.1, other.1)) in
    (omega (arith, one.0, other.0), same)

-- words spell one list at most
pub run_one : (s : Scheme) (ws : List DataWord) (ds es : List ℤ) → SpellsRun s ws ds → SpellsRun s ws es → ds ≡ es
run_one s [] ds es h k = h ∙ sym k
run_one s (w ∷ ws) ds es h k =
    let one : h.0 ≡ k.0 = spells_one s w.code w.bits h.0 k.0 h.1.1.1.0 k.1.1.1.0 in
    let later : h.1.0 ≡ k.1.0 = run_one s ws h.1.0 k.1.0 h.1.1.1.1 k.1.1.1.1 in
    cc (h.1.1.0, k.1.1.0)

-- the first sum that isn't a sample
pub not_in : (prefix : List ℤ) (sum : ℤ) (rest : List ℤ) → All IsSample (prefix ++ sum ∷ rest) → ¬ (IsSample sum) → ⊥
not_in [] sum rest h not = not (All-head IsSample sum rest h)
not_in (x ∷ prefix) sum rest h not = not_in prefix sum rest (All-tail IsSample x (prefix ++ sum ∷ rest) h) not

first_over : (fa : List ℤ) (a : ℤ) (ra fb : List ℤ) (b : ℤ) (rb : List ℤ) → fa ++ a ∷ ra ≡ fb ++ b ∷ rb
    → All IsSample fa → All IsSample fb → ¬ (IsSample a) → ¬ (IsSample b) → length fa ≡ length fb
first_over [] a ra [] b rb e ha hb na nb = refl
first_over [] a ra (y ∷ fb) b rb e ha hb na nb = let same : y ≡ a = cc in
    absurd (na (subst IsSample same (All-head IsSample y fb hb)))
first_over (x ∷ fa) a ra [] b rb e ha hb na nb = let same : x ≡ b = cc in
    absurd (nb (subst IsSample same (All-head IsSample x fa ha)))
first_over (x ∷ fa) a ra (y ∷ fb) b rb e ha hb na nb =
    let rest : fa ++ a ∷ ra ≡ fb ++ b ∷ rb = cc in
    ap suc (first_over fa a ra fb b rb rest (All-tail IsSample x fa ha) (All-tail IsSample y fb hb) na nb)

pub last_one : (fa : List ℤ) (a : ℤ) (fb : List ℤ) (b : ℤ) → fa ++ a ∷ [] ≡ fb ++ b ∷ [] → a ≡ b
last_one [] a [] b e = cc
last_one [] a (y ∷ []) b e = cc
last_one [] a (y ∷ z ∷ fb) b e = cc
last_one (x ∷ []) a [] b e = cc
last_one (x ∷ z ∷ fa) a [] b e = cc
last_one (x ∷ fa) a (y ∷ fb) b e = let rest : fa ++ a ∷ [] ≡ fb ++ b ∷ [] = cc in last_one fa a fb b rest

-- sums leave no room for a fault of the words
pub not_ending : (s : Scheme) (p : List ℕ) (n : ℕ) (ss ds : List ℤ) (rest : List DataWord) → AreSums s p n ss
    → Ending s (data_words p) ds rest → length ds < n → ⊥
not_ending s p n ss ds rest a e less =
    let most = bounds s e.before rest a.prefix a.rest ds a.differences (sym e.cut ∙ a.cut) e.spelled e.stops
    a.spelled in
    omega (arith, most.0, a.enough)

-- why there are no samples: the words stop before, or a sum isn't what it has to be
pub data Reason (s : Scheme) (p : List ℕ) (n : ℕ) : ReadFault → Type 0 where
  lacks : (ds : List ℤ) (rest : List DataWord) → Ending s (data_words p) ds rest → length ds < n
      → Reason s p n (lack_at (length ds) (last_item rest))
  over : (prefix : List ℤ) (sum : ℤ) (rest : List ℤ) → AreSums s p n (prefix ++ sum ∷ rest) → All IsSample prefix
      → ¬ (IsSample sum) → Reason s p n (Overflow (length prefix))
  differs : (prefix : List ℤ) (last : ℤ) → AreSums s p n (prefix ++ last ∷ []) → All IsSample (prefix ++ last ∷ [])
      → last ≢ last_constant p → Reason s p n (LastDiffers last (last_constant p))

pub reason : (s : Scheme) (p : List ℕ) (n : ℕ) (f : ReadFault) → IsFrameFault s p n f → Reason s p n f
reason s p n f (short ds h less) =
    lacks ds [] (record { before = data_words p; cut = sym (append-nil (data_words p)); spelled = h; stops = tt }) less
reason s p n f (bad_word before bad after ds cut h less none) =
    lacks ds (bad ∷ after) (record { before = before; cut = cut; spelled = h; stops = none }) less
reason s p n f (overflow prefix sum rest a all not) = over prefix sum rest a all not
reason s p n f (last_differs prefix last a all not) = differs prefix last a all not

reason_one : (s : Scheme) (p : List ℕ) (n : ℕ) (f g : ReadFault) → Reason s p n f → Reason s p n g → f ≡ g
reason_one s p n f g (lacks ds rest e less) (lacks es more k less') = let same = one_ending e k in
    rw (same.0, same.1) refl
reason_one s p n f g (lacks ds rest e less) (over prefix sum others a all not) =
    absurd (not_ending s p n (prefix ++ sum ∷ others) ds rest a e less)
reason_one s p n f g (lacks ds rest e less) (differs prefix last a all not) =
    absurd (not_ending s p n (prefix ++ last ∷ []) ds rest a e less)
reason_one s p n f g (over prefix sum others a all not) (lacks ds rest e less) =
    absurd (not_ending s p n (prefix ++ sum ∷ others) ds rest a e less)
reason_one s p n f g (over prefix sum others a all not) (over prefix' sum' others' b all' not') =
    ap Overflow (first_over prefix sum others prefix' sum' others'
    (sums_one s p n (prefix ++ sum ∷ others) (prefix' ++ sum' ∷ others') a b) all all' not not')
reason_one s p n f g (over prefix sum others a all not) (differs prefix' last b all' not') =
    absurd (not_in prefix sum others (subst (All IsSample)
    (sums_one s p n (prefix' ++ last ∷ []) (prefix ++ sum ∷ others) b a) all') not)
reason_one s p n f g (differs prefix last a all not) (lacks ds rest e less) =
    absurd (not_ending s p n (prefix ++ last ∷ []) ds rest a e less)
reason_one s p n f g (differs prefix' last b all' not') (over prefix sum others a all not) =
    absurd (not_in prefix sum others (subst (All IsSample)
    (sums_one s p n (prefix' ++ last ∷ []) (prefix ++ sum ∷ others) b a) all') not)
reason_one s p n f g (differs prefix last a all not) (differs prefix' last' b all' not') =
    ap (λ (z : ℤ). LastDiffers z (last_constant p))
    (last_one prefix last prefix' last' (sums_one s p n (prefix ++ last ∷ []) (prefix' ++ last' ∷ []) a b))

-- Frames have one fault at most.
pub fault_one : (s : Scheme) (p : List ℕ) (n : ℕ) (f g : ReadFault) → IsFrameFault s p n f → IsFrameFault s p n g
    → f ≡ g
fault_one s p n f g h k = reason_one s p n f g (reason s p n f h) (reason s p n g k)
