-- Records are cut into stretches in one way.
use Rattle.std.proofs.Common.{arith}
use Rattle.std.proofs.Common.{◌≡◌, List, [], ◌∷◌, ◌++◌, refl, sym, ap, subst, ◌∙◌, append_assoc, append-nil}
use Rattle.mseed_record.specs.View.{View}
use Rattle.mseed_repack.specs.Stretches.{AllGoOn, AreStretches, EndsBefore, IsFirstStretch}
use Rattle.mseed_repack.specs.Stretches.{IsStretch}

-- after records that both begin with, one doesn't end where the other goes on
same_after : (b s t rest others : List View) → AllGoOn b s → EndsBefore (b ++ s) rest → AllGoOn b t
    → EndsBefore (b ++ t) others → s ++ rest ≡ t ++ others → (s ≡ t) × (rest ≡ others)
same_after b [] [] rest others go ends on end e = (refl, e)
same_after b [] (y ∷ t) rest others go ends on end e = grind (arith, append-nil)
same_after b (x ∷ s) [] rest others go ends on end e = grind (arith, append-nil)
same_after b (x ∷ s) (y ∷ t) rest others go ends on end e =
    let first : x ≡ y = cc in
    let back : s ++ rest ≡ t ++ others = cc in
    let same : (s ≡ t) × (rest ≡ others) = same_after (b ++ x ∷ []) s t rest others go.1
    (rw (sym (append_assoc b (x ∷ []) s)) at ends) (rw first on.1) (subst (λ (vs : List View). EndsBefore vs others)
    (ap (λ (v : View). b ++ v ∷ t) (sym first) ∙ sym (append_assoc b (x ∷ []) t)) end) back in
    (λ i. first i ∷ same.0 i, same.1)

pub one_first : (vs s t rest others : List View) → IsFirstStretch vs s rest → IsFirstStretch vs t others
    → (s ≡ t) × (rest ≡ others)
one_first vs [] t rest others a b = absurd a.stretch
one_first vs (x ∷ s) [] rest others a b = absurd b.stretch
one_first vs (x ∷ s) (y ∷ t) rest others a b =
    let parts : x ∷ (s ++ rest) ≡ y ∷ (t ++ others) = sym a.parts ∙ b.parts in
    let first : x ≡ y = cc in
    let back : s ++ rest ≡ t ++ others = cc in
    let same : (s ≡ t) × (rest ≡ others) = same_after (x ∷ []) s t rest others a.stretch a.ends
    (rw (sym first) at b.stretch) (subst (λ (v : View). EndsBefore (v ∷ t) others) (sym first) b.ends) back in
    (λ i. first i ∷ same.0 i, same.1)

-- a stretch isn't nothing
stretch_some : (s rest : List View) → IsStretch s → [] ≡ s ++ rest → ⊥
stretch_some s rest h h2 = grind (arith)

pub one_list : (vs : List View) (ss ts : List (List View)) → AreStretches vs ss → AreStretches vs ts → ss ≡ ts
one_list vs [] [] a b = refl
one_list vs [] (t ∷ ts) a (rest, (first, more)) = absurd (stretch_some t rest first.stretch (sym a ∙ first.parts))
one_list vs (s ∷ ss) [] (rest, (first, more)) b = absurd (stretch_some s rest first.stretch (sym b ∙ first.parts))
one_list vs (s ∷ ss) (t ∷ ts) (rest, (first, more)) (others, (second, further)) =
    let same : (s ≡ t) × (rest ≡ others) = one_first vs s t rest others first second in
    let after : ss ≡ ts = one_list rest ss ts more (rw (sym same.1) at further) in
    λ i. same.0 i ∷ after i
