-- Along the whole chain of a record.
use Rattle.std.proofs.Common.{◌≡◌, ◌≢◌, ℕ, zero, suc, ◌+◌, ◌≤◌, ◌++◌, ◌==◌, ◌||◌, if◌then◌else◌, Bool, List, [], ◌∷◌}
use Rattle.std.proofs.Common.{length, true, false, Some, None, Option, refl, ap, ◌∙◌, arith}
use Rattle.std.proofs.lemmas.Bool.Decides.{nat_tests}
use Rattle.std.proofs.Math.Bool.{or_assoc, or-false}
use Rattle.std.specs.Option.{option_or}
use Rattle.mseed_time.specs.declared.order.Order.{Order}
use Rattle.mseed_record.specs.Chain.{type_at, next_at, head_of, goes_on, Passes, Rest, IsWholeChain, first_of, has_type}
use Rattle.mseed_record.specs.declared.chain.Blockettes.{Blockettes}
use Rattle.mseed_record.specs.Header.{blockette_at}
use Rattle.mseed_record.specs.Record.{IsRecordBy}
use Rattle.mseed_record.specs.private.Blockettes.{AreBlockettes}
use Rattle.mseed_record.proofs.Passing.{passes_above, record_room}

pub goes_on_within : (order : Order) (b : List ℕ) (o : ℕ) → goes_on order b o ≡ true → (o + 4 ≤ next_at order b o)
    × (next_at order b o + 4 ≤ length b)
    × (next_at order b o + head_of (type_at order b (next_at order b o)) ≤ length b)
goes_on_within order b o e = (grind (arith, nat_tests, e), grind (arith, nat_tests, e), grind (arith, nat_tests, e))

-- from each blockette on the chain has a rest
rest_from : (order : Order) (b : List ℕ) (n o : ℕ) (goes : Bool) → goes_on order b o ≡ goes → length b ≤ n + o
    → (rest : List ℕ) × Rest order b o rest
rest_from order b n o false e h = ([], e)
rest_from order b zero o true e h = absurd (omega (arith, goes_on_within order b o e))
rest_from order b (suc n) o true e h =
    let next : ℕ = next_at order b o in
    let later = rest_from order b n next (goes_on order b next) refl (omega (arith, goes_on_within order b o e)) in
    (next ∷ later.0, (e, refl, later.1))

-- the blockettes before the first 1000 go on to it, and to the rest after it
passes_rest : (order : Order) (b : List ℕ) (o : ℕ) (os : List ℕ) (last : ℕ) (rest : List ℕ) → last + 8 ≤ length b
    → Passes order b o os last → Rest order b last rest
    → (ps : List ℕ) × ((o ∷ ps ≡ os ++ last ∷ rest) × Rest order b o ps)
passes_rest order b o [] last rest w h r = (rest, (rw h refl, rw h r))
passes_rest order b o (q ∷ os) last rest w h r =
    let later = passes_rest order b (next_at order b o) os last rest w h.3 r in
    let goes : goes_on order b o ≡ true =
    grind (arith, nat_tests, passes_above order b (next_at order b o) os last h.3, h.2, w) in
    (next_at order b o ∷ later.0, (cc (h.0, later.1.0), (goes, refl, later.1.1)))

-- what counts of the blockettes that were found and of those from o on is what counts of all
pub record AreLeft (order : Order) (b all : List ℕ) (found : Blockettes) (o : ℕ) (ps : List ℕ) : Type 0 where
  rest_is : Rest order b o ps
  first_1001 : option_or found.first_1001 (first_of order 1001 b (o ∷ ps)) ≡ first_of order 1001 b all
  has_100 : (found.has_100 || has_type order 100 b (o ∷ ps)) ≡ has_type order 100 b all

-- the whole chain of the record, and which of its blockettes are left
abbrev pub Left : Order → List ℕ → Blockettes → ℕ → Type 0
Left order b found o = (os : List ℕ) (last : ℕ) → IsRecordBy order os last b
    → (rest : List ℕ) × (IsWholeChain order b os last rest
    × ((ps : List ℕ) × AreLeft order b (os ++ last ∷ rest) found o ps))

pub left_first : (order : Order) (b : List ℕ)
    → Left order b (record { first_1001 = None; has_100 = false }) (blockette_at order b)
left_first order b os last r =
    let rest = rest_from order b (length b) last (goes_on order b last) refl (omega arith) in
    let ps = passes_rest order b (blockette_at order b) os last rest.0 (record_room order os last b r).1 r.chain.others
    rest.1 in
    let counts : AreLeft order b (os ++ last ∷ rest.0) _ (blockette_at order b) ps.0 = record {
      rest_is = ps.1.1;
      first_1001 = ap (first_of order 1001 b) ps.1.0;
      has_100 = ap (has_type order 100 b) ps.1.0;
    } in
    (rest.0, (record { chain = r.chain; others = rest.1 }, (ps.0, counts)))

or_next : (t : Bool) (f : Option ℕ) (o : ℕ) (x : Option ℕ)
    → option_or (option_or f (if t then Some o else None)) x ≡ option_or f (if t then Some o else x)
or_next t (Some q) o x = refl
or_next true None o x = refl
or_next false None o x = refl

-- with one more blockette
module _ (order : Order) (b all : List ℕ) (found : Blockettes) (o kind : ℕ) (more : Blockettes)
    (kind_is : kind ≡ type_at order b o)
    (first : more.first_1001 ≡ option_or found.first_1001 (if kind == 1001 then Some o else None))
    (rate : more.has_100 ≡ (found.has_100 || (kind == 100))) where
  pub left_next : (ps : List ℕ) (next : ℕ) → AreLeft order b all found o ps → goes_on order b o ≡ true
      → next ≡ next_at order b o → (qs : List ℕ) × AreLeft order b all more next qs
  left_next [] next it goes is = cc (it.rest_is, goes)
  left_next (p ∷ ps) next it goes is =
      let same : p ≡ next = cc (it.rest_is.1, is) in
      let count = or_next (type_at order b o == 1001) found.first_1001 o (first_of order 1001 b (p ∷ ps)) in
      let any = or_assoc found.has_100 (type_at order b o == 100) (has_type order 100 b (p ∷ ps)) in
      let left : AreLeft order b all more p ps = record {
        rest_is = it.rest_is.2;
        first_1001 = rw (first, kind_is) (count ∙ it.first_1001);
        has_100 = rw (rate, kind_is) (any ∙ it.has_100);
      } in
      (ps, rw same at left)

  pub left_last : (ps : List ℕ) → AreLeft order b all found o ps → goes_on order b o ≡ false
      → AreBlockettes order b all more
  left_last [] it ends = record {
    first_1001 = rw (first, kind_is) it.first_1001;
    has_100 = rw (rate, kind_is) (rw or-false at it.has_100);
  }
  left_last (p ∷ ps) it ends = cc (it.rest_is.0, ends)

-- the chain of a record goes on from o to its first 1000
abbrev pub IsAhead : Order → List ℕ → ℕ → Type 0
IsAhead order b o = (o + 8 ≤ length b) × ((os : List ℕ) × ((last : ℕ) × ((ps : List ℕ)
    × (IsRecordBy order os last b × Passes order b o ps last))))

pub ahead : (order : Order) (b : List ℕ) (o : ℕ) (os : List ℕ) (last : ℕ) (ps : List ℕ) → IsRecordBy order os last b
    → Passes order b o ps last → IsAhead order b o
ahead order b o os last ps r p =
    (omega (arith, passes_above order b o ps last p, record_room order os last b r), (os, (last, (ps, (r, p)))))

pub ahead_next : (order : Order) (b : List ℕ) (o : ℕ) → IsAhead order b o → type_at order b o ≢ 1000
    → (o + 4 ≤ next_at order b o) × IsAhead order b (next_at order b o)
ahead_next order b o (w, (os, (last, ([], (r, p))))) n = absurd (n (rw p r.chain.found))
ahead_next order b o (w, (os, (last, (q ∷ ps, (r, p))))) n = (p.2, ahead order b (next_at order b o) os last ps r p.3)

pub ahead_here : (order : Order) (b : List ℕ) (o : ℕ) → IsAhead order b o → type_at order b o ≡ 1000
    → (os : List ℕ) × IsRecordBy order os o b
ahead_here order b o (w, (os, (last, ([], (r, p))))) t = (os, rw p r)
ahead_here order b o (w, (os, (last, (q ∷ ps, (r, p))))) t = absurd (p.1 t)
