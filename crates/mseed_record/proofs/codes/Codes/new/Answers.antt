use Rattle.std.proofs.Common.{◌≡◌, ℕ, List, [], ◌∷◌, ◌++◌, length, get_or, ◌∙◌, rules}
use Rattle.mseed_record.proofs.Puts.{each_byte}
use Rattle.mseed_record.proofs.codes.Codes.new.Goals as goal

joined : (n s l c : List ℕ) → length n ≡ 2 → length s ≡ 5 → length l ≡ 2 → length c ≡ 3
    → (get_or n 0 0 ∷ get_or n 1 0 ∷ get_or s 0 0 ∷ get_or s 1 0 ∷ get_or s 2 0 ∷ get_or s 3 0 ∷ get_or s 4 0
    ∷ get_or l 0 0 ∷ get_or l 1 0 ∷ get_or c 0 0 ∷ get_or c 1 0 ∷ get_or c 2 0 ∷ []) ≡ n ++ s ++ l ++ c
joined n s l c hn hs hl hc =
    let en = each_byte n 2 hn in
    let es = each_byte s 5 hs in
    let el = each_byte l 2 hl in
    let ec = each_byte c 3 hc in
    λ i. en i ++ es i ++ el i ++ ec i

pub returns-clause-key : goal.returns-clause-key
returns-clause-key c =
    let network = c.in_ok-n.ensures.value in
    let station = c.in_ok-s.ensures.value in
    let location = c.in_ok-l.ensures.value in
    let channel = c.in_ok-c.ensures.value in
    c.of_key.ensures ∙ joined c.in_ok-n.n c.in_ok-s.s c.in_ok-l.l c.in_ok-c.c (search rules) (search rules)
    (search rules) (search rules) ∙ (λ i. network i ++ station i ++ location i ++ channel i)
