-- A packing grows by one record.
use Rattle.std.proofs.Common.{◌≡◌, ℕ, suc, ◌+◌, ◌-◌, ◌*◌, ◌^◌, ◌<◌, ◌≤◌, List, [], ◌∷◌, ◌++◌, length, take, drop, map}
use Rattle.std.proofs.Common.{refl, sym, ap, ◌∙◌, arith, ℤ, length-append, append_assoc}
use Rattle.std.specs.Prelude.{slice_range, flat_map}
use Rattle.std.specs.List.{concat}
use Rattle.std.proofs.lemmas.List.{append-nil, take-append-drop, length-drop, length-map}
use Rattle.std.proofs.ByRecursion.{All-push, All-take}
use Rattle.std.proofs.lemmas.List.{take-append-le}
use Rattle.std.proofs.lemmas.List.Folds.{concat-append}
use Rattle.std.proofs.lemmas.Bool.{cases_lt}
use Rattle.std.proofs.Common.{zero, inl, inr}
use Rattle.std.proofs.Math.Seq.{take-append-add}
use Rattle.std.proofs.lemmas.List.{map_push, take-map, take_at}
use Rattle.std.proofs.lemmas.List.Concat.{flat_map-append}
use Rattle.mseed_pack.proofs.Onward.{parts}
use Rattle.mseed_stream.specs.Device.{BytesWritten}
use Rattle.mseed_audit.specs.Series.{Trace}
use Rattle.mseed_pack.specs.declared.batch.PackedSoFar.{PackedSoFar}
use Rattle.mseed_pack.specs.declared.options.Options.{Options}
use Rattle.mseed_pack.specs.Packing.{Piece, ArePlaced, IsPacked, PacksUpTo}
use Rattle.mseed_pack.specs.Outcome.{EmittedPrefix}
use Rattle.mseed_pack.specs.private.Spans.{PacksTo}

-- a piece of these samples, from one on
abbrev pub piece_at : Trace → ℕ → ℕ → ℕ → List ℕ → Piece
piece_at s number first n b =
    record { number = number; first = first; samples = slice_range s.samples first (first + n); bytes = b }

abbrev pub records_in : List Piece → List (List ℕ)
records_in ps = map (λ (p : Piece). p.bytes) ps

-- a piece at the end
placed_more : (ps : List Piece) (p : Piece) (number first : ℕ) → ArePlaced number first ps
    → p.number ≡ number + length ps → p.first ≡ first + length (flat_map (λ (q : Piece). q.samples) ps)
    → ArePlaced number first (ps ++ p ∷ [])
placed_more [] p number first h a b = (omega (arith, a), omega (arith, b), tt)
placed_more (q ∷ ps) p number first h a b =
    let size = length-append q.samples (flat_map (λ (x : Piece). x.samples) ps) in
    (h.0, h.1, placed_more ps p (number + 1) (first + length q.samples) h.2 (omega arith) (omega arith))

pub concat_more : (bs : List (List ℕ)) (b : List ℕ) → concat (bs ++ b ∷ []) ≡ concat bs ++ b
concat_more bs b = simp (concat-append, append-nil)

pub packed_length : (s : Trace) (o : Options) (p : Piece) → IsPacked s o p → length p.bytes ≡ 2 ^ o.exponent
packed_length s o p one = one.headed.size ∙ ap (λ (e : ℕ). 2 ^ e) one.fields.exponent

-- no record
pub packs_none : (s : Trace) (o : Options) (place : PackedSoFar) → place.number ≡ 0 → place.first ≡ 0
    → PacksTo s o place []
packs_none s o place number first = record {
  records = [];
  packing = rw first (record { pieces = []; bytes = refl; joined = refl; placed = tt; each = tt });
  count_is = number;
  long = rw number (omega arith);
  bytes_are = refl;
}

-- one record more
pub on_one : (s : Trace) (o : Options) (place next : PackedSoFar) (n : ℕ) (b : List ℕ) → next.number ≡ place.number + 1
    → next.first ≡ place.first + n → place.first + n ≤ length s.samples
    → IsPacked s o (piece_at s place.number place.first n b) → (before : List ℕ) → PacksTo s o place before
    → PacksTo s o next (before ++ b)
on_one s o place next n b number first inside one before h =
    let p = piece_at s place.number place.first n b in
    let k = h.packing in
    let whole = simp length-append at (ap (λ (l : List ℤ). length l) k.joined) in
    let count = simp length-map at (ap (λ (bs : List (List ℕ)). length bs) k.bytes) in
    let size : length b ≡ 2 ^ o.exponent = packed_length s o p one in
    record {
      records = h.records ++ b ∷ [];
      packing = record {
        pieces = k.pieces ++ p ∷ [];
        bytes = map_push (λ (q : Piece). q.bytes) k.pieces p ∙ ap (λ (bs : List (List ℕ)). bs ++ b ∷ []) k.bytes;
        joined = rw first (simp (
          flat_map-append,
          append-nil,
          append_assoc,
          parts s.samples place.first (place.first
              + n) (omega arith),
        ) k.joined);
        placed = placed_more k.pieces p 0 0 k.placed (omega (arith, count, h.count_is))
            (omega (arith, whole, inside, length-drop place.first s.samples));
        each = All-push (IsPacked s o) k.pieces p k.each one;
      };
      count_is = omega (arith, number, h.count_is, length-append h.records (b ∷ []));
      long = rw (length-append, h.long, size, number) (omega arith);
      bytes_are = concat_more h.records b ∙ ap (λ (l : List ℕ). l ++ b) h.bytes_are;
    }

-- the record in which so many bytes end
record EndsIn (records : List (List ℕ)) (taken : ℕ) : Type 0 where
  prefix : List (List ℕ)
  last : List ℕ
  rest : List (List ℕ)
  parts : records ≡ (prefix ++ last ∷ []) ++ rest
  whole : length (concat prefix) ≤ taken
  part : taken < length (concat prefix) + length last

ends_in : (records : List (List ℕ)) (taken : ℕ) → taken < length (concat records) → EndsIn records taken
ends_in [] taken h = absurd (omega (arith, h))
ends_in (r ∷ rs) taken h = elim (cases_lt taken (length r)) [
  | inl inside ↦
      record { prefix = []; last = r; rest = rs; parts = refl; whole = omega arith; part = omega (arith, inside) }
  | inr behind ↦
      let more = ends_in rs (taken - length r) (omega (arith, h, behind, length-append r (concat rs))) in
      record {
        prefix = r ∷ more.prefix;
        last = more.last;
        rest = more.rest;
        parts = ap (λ (l : List (List ℕ)). r ∷ l) more.parts;
        whole = omega (arith, more.whole, behind, length-append r (concat more.prefix));
        part = omega (arith, more.part, behind, length-append r (concat more.prefix));
      }
]

-- the pieces of the first records
placed_first : (n number first : ℕ) (ps : List Piece) → ArePlaced number first ps → ArePlaced number first (take n ps)
placed_first zero number first ps h = tt
placed_first (suc n) number first [] h = tt
placed_first (suc n) number first (p ∷ ps) h =
    (h.0, h.1, placed_first n (number + 1) (first + length p.samples) ps h.2)

-- a prefix of records that the series is packed into
packs_prefix : (s : Trace) (o : Options) (prefix back : List (List ℕ)) (left : List ℤ)
    → PacksUpTo s o (prefix ++ back) left → (rest : List ℤ) × PacksUpTo s o prefix rest
packs_prefix s o prefix back left h =
    let n = length prefix in (
      flat_map (λ (p : Piece). p.samples) (drop n h.pieces) ++ left,
      record {
        pieces = take n h.pieces;
        bytes = sym (take-map (λ (p : Piece). p.bytes) n h.pieces) ∙ ap (λ (bs : List (List ℕ)). take n bs) h.bytes
            ∙ take_at prefix back n refl;
        joined = rw (← append_assoc, ← flat_map-append, take-append-drop) h.joined;
        placed = placed_first n 0 0 h.pieces h.placed;
        each = All-take (IsPacked s o) n h.pieces h.each;
      },
    )

pub emitted_prefix : (s : Trace) (o : Options) (place next : PackedSoFar) (taken : ℕ) (bytes b : List ℕ)
    (old mid new : BytesWritten) → PacksTo s o place bytes → PacksTo s o next (bytes ++ b) → taken < length b
    → mid.bytes ≡ old.bytes ++ bytes → mid.failures ≡ old.failures → new.bytes ≡ mid.bytes ++ take taken b
    → new.failures ≡ mid.failures + 1 → EmittedPrefix s o (place.number * 2 ^ o.exponent + taken) old new
emitted_prefix s o place next taken bytes b old mid new before after part grown fine reported failed =
    let m : ℕ = place.number * 2 ^ o.exponent + taken in
    let at = ends_in after.records m (rw (after.bytes_are, length-append) (omega (arith, before.long, part))) in
    let lead : List (List ℕ) = at.prefix ++ at.last ∷ [] in
    let packs = packs_prefix s o lead at.rest (drop next.first s.samples) (rw at.parts at after.packing) in
    let size : m ≤ length (concat lead) = rw (concat_more, length-append) (omega (arith, at.part)) in
    let cut : take m (concat lead) ≡ bytes ++ take taken b =
    sym (take-append-le m (concat lead) (concat at.rest) size) ∙ ap (λ (l : List ℕ). take m l)
    (sym (concat-append lead at.rest) ∙ ap (λ (l : List (List ℕ)). concat l) (sym at.parts) ∙ after.bytes_are)
    ∙ ap (λ (n : ℕ). take (n + taken) (bytes ++ b)) (sym before.long) ∙ take-append-add bytes b taken in
    record {
      records = at.prefix;
      last = at.last;
      left = packs.0;
      packing = packs.1;
      whole = at.whole;
      part = at.part;
      bytes = reported ∙ rw (cut, grown, append_assoc);
      failures = failed ∙ ap (λ (n : ℕ). n + 1) fine;
    }
