-- An archive's records are the only ones.
use Rattle.std.proofs.Common.{◌≡◌, ℕ, ◌≤◌, ◌++◌, List, [], ◌∷◌, length, take, refl, sym, ap, ◌∙◌, arith}
use Rattle.std.proofs.Common.{append_assoc, length-append}
use Rattle.std.proofs.lemmas.Grind.{common_steps}
use Rattle.std.specs.List.{concat}
use Rattle.mseed_record.specs.Record.{IsRecord}
use Rattle.mseed_record.specs.View.{View, IsView}
use Rattle.mseed_record.proofs.OneRecord.{one_first, prefix_is}
use Rattle.mseed_stream.specs.Archive.{IsArchive}

none_left : (bytes : List ℕ) (r tail rest : List ℕ) → IsRecord r → bytes ≡ r ++ tail → bytes ≡ rest
    → ((k : ℕ) → k ≤ length rest → IsRecord (take k rest) → ⊥) → ⊥
none_left bytes r tail rest is e same no_further =
    let whole : rest ≡ r ++ tail = sym same ∙ e in
    let fits : length r ≤ length rest =
    omega (arith, ap (λ (xs : List ℕ). length xs) whole, length-append r tail) in
    no_further (length r) fits (rw (prefix_is r tail rest whole) is)

-- the records of an archive and what is left after them are the only ones
pub one_archive : (bytes : List ℕ) (records others : List (List ℕ)) (rest left : List ℕ)
    → IsArchive bytes records rest
    → IsArchive bytes others left → (records ≡ others) × (rest ≡ left)
one_archive bytes [] [] rest left a b = (refl, sym a.joined ∙ b.joined)
one_archive bytes [] (s ∷ others) rest left a b =
    absurd (none_left bytes s (concat others ++ left) rest b.each.0 (b.joined ∙ append_assoc s (concat others) left)
    a.joined a.no_further)
one_archive bytes (r ∷ records) [] rest left a b =
    absurd (none_left bytes r (concat records ++ rest) left a.each.0 (a.joined ∙ append_assoc r (concat records) rest)
    b.joined b.no_further)
one_archive bytes (r ∷ records) (s ∷ others) rest left a b =
    let one : bytes ≡ r ++ (concat records ++ rest) = a.joined ∙ append_assoc r (concat records) rest in
    let two : bytes ≡ s ++ (concat others ++ left) = b.joined ∙ append_assoc s (concat others) left in
    let first =
    one_first bytes r s (concat records ++ rest) (concat others ++ left) a.each.0 b.each.0 one two in
    let later = one_archive (concat records ++ rest) records others rest left
    (record { joined = refl; each = a.each.1; no_further = a.no_further })
    (record { joined = first.1; each = b.each.1; no_further = b.no_further }) in
    (ap (λ (x : List ℕ). x ∷ records) first.0 ∙ ap (λ (xs : List (List ℕ)). s ∷ xs) later.0, later.1)

-- a view shows a record
pub view_record : (v : View) → IsView v → IsRecord v.bytes
view_record v is = (v.order, (is.0, (is.1.0, is.1.1.1.record_is)))

pub prefix_within : (b xs : List ℕ) → xs ≡ take (length xs) b → length xs ≤ length b
prefix_within b xs e = grind (arith, common_steps)
