-- Differences are packed in one way.
use Rattle.std.proofs.Common.{◌≡◌, refl, ℕ, ◌+◌, ◌*◌, ◌^◌, ◌<◌, ◌≤◌, List, [], ◌∷◌, length, take, drop, ℤ}
use Rattle.std.proofs.Common.{arith, sym, ◌∙◌, ⊎_elim, Some}
use Rattle.mseed_steim_pack.specs.private.Rows.{row_for}
use Rattle.std.proofs.lemmas.Bool.{cases_lt}
use Rattle.std.proofs.lemmas.List.{length-take-le}
use Rattle.mseed_steim.specs.declared.scheme.Scheme.{Scheme}
use Rattle.mseed_steim.specs.Spelling.{positional}
use Rattle.mseed_steim.specs.Frames.{DataWord}
use Rattle.mseed_steim_pack.specs.declared.row.WordFormat.{WordFormat}
use Rattle.mseed_steim_pack.specs.Packing.{IsFullest, PacksRun, contents}
use Rattle.mseed_steim_pack.proofs.Rows.{plain_word}

no_fewer : (s : Scheme) (ds : List ℤ) (c w u d v t : ℕ) → IsFullest s ds c w u → IsFullest s ds d v t → t ≤ u
no_fewer s ds c w u d v t a b = ⊎_elim (λ (less : u < t). absurd (a.largest t less b.inside (d, (v, b.spelled))))
    (λ (more : t ≤ u). more) (cases_lt u t)

-- it's that of its row
of_row : (s : Scheme) (ds : List ℤ) (c w u : ℕ) → IsFullest s ds c w u
    → (r : WordFormat) × ((row_for s u ≡ Some r) × (c ≡ r.code)
    × (w ≡ r.dnib * 2 ^ 30 + positional r.width (take u ds)))
of_row s ds c w u full =
    let long : length (take u ds) ≡ u = length-take-le u ds full.inside in
    rw long at (plain_word s c w (take u ds) (omega (arith, long, full.some)) full.spelled
    (λ two seven. full.plain two (sym long ∙ seven)))

-- one word takes the largest number
pub one_word : (s : Scheme) (ds : List ℤ) (c w u d v t : ℕ) → IsFullest s ds c w u → IsFullest s ds d v t
    → (c ≡ d) × (w ≡ v) × (u ≡ t)
one_word s ds c w u d v t a b =
    let count : u ≡ t = omega (arith, no_fewer s ds c w u d v t a b, no_fewer s ds d v t c w u b a) in
    let one = of_row s ds c w u a in
    let two = rw (← count) at (of_row s ds d v t b) in
    let row : one.0 ≡ two.0 = cc (one.1.0, two.1.0) in
    (cc (one.1.1, two.1.1, row), cc (one.1.2, two.1.2, row), count)

-- as many words that take it in turn are the same words, and leave the same
pub one_run : (s : Scheme) (ws vs : List DataWord) (ds rest more : List ℤ) → PacksRun s ws ds rest
    → PacksRun s vs ds more → length ws ≡ length vs → (contents ws ≡ contents vs) × (rest ≡ more)
one_run s [] [] ds rest more a b e = (refl, sym a ∙ b)
one_run s (w ∷ ws) (v ∷ vs) ds rest more a b e =
    let word = one_word s ds w.code w.bits a.0 v.code v.bits b.0 a.1.0 b.1.0 in
    let later = one_run s ws vs (drop a.0 ds) rest more a.1.1 (rw (← word.2) at b.1.1) (omega (arith, e)) in
    (cc (word.0, word.1, later.0), later.1)
one_run s _ _ ds rest more a b e = absurd (omega (arith, e))
