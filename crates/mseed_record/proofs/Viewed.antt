-- A record has one view.
use Rattle.std.proofs.Common.{◌≡◌, ℕ, List, [], ◌∷◌, refl}
use Rattle.std.proofs.Common.{sym, subst}
use Rattle.mseed_time.specs.declared.order.Order.{Order}
use Rattle.mseed_record.specs.Header.{blockette_at}
use Rattle.mseed_record.specs.Chain.{type_at, next_at, Passes, Rest, IsWholeChain}
use Rattle.mseed_record.specs.View.{View, IsView}

-- two chains to a first 1000 are one
pub passes_once : (order : Order) (b : List ℕ) (o : ℕ) (os ps : List ℕ) (last end : ℕ) → Passes order b o os last
    → type_at order b last ≡ 1000 → Passes order b o ps end → type_at order b end ≡ 1000 → (os ≡ ps) × (last ≡ end)
passes_once order b o [] [] last end h t k u = (refl, cc (h, k))
passes_once order b o [] (q ∷ ps) last end h t k u =
    absurd (k.1 (subst (λ (n : ℕ). type_at order b n ≡ 1000) (sym h) t))
passes_once order b o (q ∷ os) [] last end h t k u =
    absurd (h.1 (subst (λ (n : ℕ). type_at order b n ≡ 1000) (sym k) u))
passes_once order b o (q ∷ os) (r ∷ ps) last end h t k u =
    let later = passes_once order b (next_at order b o) os ps last end h.3 t k.3 u in
    (cc (h.0, k.0, later.0), later.1)

-- so are two rests of a chain
rest_once : (order : Order) (b : List ℕ) (o : ℕ) (ps qs : List ℕ) → Rest order b o ps → Rest order b o qs → ps ≡ qs
rest_once order b o [] [] h k = refl
rest_once order b o [] (q ∷ qs) h k = cc (h, k.0)
rest_once order b o (p ∷ ps) [] h k = cc (h.0, k)
rest_once order b o (p ∷ ps) (q ∷ qs) h k =
    let later = rest_once order b p ps qs h.2 (rw (h.1, ← k.1) k.2) in
    cc (h.1, k.1, later)

-- and two whole chains
pub whole_once : (order : Order) (b os ps : List ℕ) (last end : ℕ) (rest qs : List ℕ)
    → IsWholeChain order b os last rest → IsWholeChain order b ps end qs → (os ≡ ps) × (last ≡ end) × (rest ≡ qs)
whole_once order b os ps last end rest qs h k =
    let once = passes_once order b (blockette_at order b) os ps last end h.chain.others h.chain.found k.chain.others
    k.chain.found in
    (once.0, once.1, rest_once order b last rest qs h.others (rw once.1 k.others))

-- two views of the same bytes are one
pub view_once : (v w : View) → IsView v → IsView w → w.bytes ≡ v.bytes → w ≡ v
view_once v w (os, (last, (rest, h))) (ps, (end, (qs, k))) same =
    let dated : w.order ≡ v.order = cc (h.record_is.order_is, k.record_is.order_is, same) in
    let chain : IsWholeChain v.order v.bytes ps end qs = rw (← same, ← dated) k.chain_is in
    let once = whole_once v.order v.bytes os ps last end rest qs h.chain_is chain in
    let encoding : w.encoding ≡ v.encoding = cc in
    let words : w.payload_order ≡ v.payload_order = cc in
    let microseconds : w.microseconds ≡ v.microseconds = cc in
    let rate : w.has_rate_blockette ≡ v.has_rate_blockette = cc in
    λ i. record {
      bytes = same i;
      order = dated i;
      encoding = encoding i;
      payload_order = words i;
      microseconds = microseconds i;
      has_rate_blockette = rate i;
    }
