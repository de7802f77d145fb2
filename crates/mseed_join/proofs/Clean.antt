-- No line of the texts of parts is bad.
use Rattle.std.proofs.Common.{◌≡◌, ◌≢◌, ◌⊎◌, ℕ, ◌++◌, List, [], ◌∷◌, Bool, true, inl, inr, refl, sym, ap, ◌∙◌, subst}
use Rattle.std.proofs.Common.{append_assoc, append-nil, arith}
use Rattle.mseed_stream.specs.Device.{BytesRead}
use Rattle.mseed_join.specs.Lines.{Line, IsLine, text_of_line}
use Rattle.mseed_join.specs.Headline.{IsReadOf}
use Rattle.mseed_join.specs.Joined.{Begins, HasNoEnd, IsBadLine, IsJointOf, lacks, unended, wrong}
use Rattle.mseed_join.specs.Written.{Spells, Written}
use Rattle.mseed_join.proofs.Ended.{ended}
use Rattle.mseed_join.proofs.Machine.{AreAll, lines_text, texts_all, texts_are}

-- nothing, or bytes up to an LF
abbrev IsClosed : List ℕ → Type 0
IsClosed bytes = (bytes ≡ []) ⊎ ((first : List ℕ) × (bytes ≡ first ++ 10 ∷ []))

closed_more : (x : Line) (rest : List ℕ) → IsLine x → IsClosed rest → IsClosed (text_of_line x ++ rest)
closed_more x rest l (inl none) =
    let it = ended x l in
    inr (it.body, ap (λ (xs : List ℕ). text_of_line x ++ xs) none ∙ append-nil (text_of_line x) ∙ it.is)
closed_more x rest l (inr (first, is)) = inr (
  text_of_line x ++ first,
  ap (λ (xs : List ℕ). text_of_line x ++ xs) is ∙ sym (append_assoc (text_of_line x) first (10 ∷ [])),
)

lines_closed : (xs : List Line) → AreAll xs → IsClosed (lines_text xs)
lines_closed [] h = inl refl
lines_closed (x ∷ xs) h = closed_more x (lines_text xs) h.0 (lines_closed xs h.1)

texts_closed : (bytes : List ℕ) (ws : List Written) → Spells bytes ws → IsClosed bytes
texts_closed bytes ws spells = search (arith, texts_are, lines_closed, texts_all)

ends_there : (first : List ℕ) → HasNoEnd (first ++ 10 ∷ []) → ⊥
ends_there [] h = h.0 refl
ends_there (b ∷ first) h = ends_there first h.1

none_after : (first rest : List ℕ) → first ++ rest ≡ [] → rest ≡ []
none_after [] rest e = e
none_after (b ∷ first) rest e = cc e

-- what is closed doesn't end within a line
no_rest : (lines line first : List ℕ) → line ≢ [] → HasNoEnd line → lines ++ line ≡ first ++ 10 ∷ [] → ⊥
no_rest [] line first some plain e = ends_there first (subst HasNoEnd e plain)
no_rest (b ∷ lines) line [] some plain e = search (arith, none_after)
no_rest (b ∷ lines) line (c ∷ first) some plain e =
    let rest : lines ++ line ≡ first ++ 10 ∷ [] = cc e in
    no_rest lines line first some plain rest

not_unended : (bytes lines line : List ℕ) → IsClosed bytes → bytes ≡ lines ++ line → line ≢ [] → HasNoEnd line → ⊥
not_unended bytes lines line closed is some plain =
    search (arith, none_after, no_rest)

-- what was read goes on to the texts
begun : (past : Bool) (text bytes rest first : List ℕ) (left : List ℕ) (ws : List Written) (joint : Written)
    → Spells text ws → IsJointOf past ws joint → text ≡ bytes ++ left → bytes ≡ first ++ rest → Begins past first
begun past text bytes rest first left ws joint spells joined read is =
    search (arith, append_assoc)

pub all_read : (text : List ℕ) (input : BytesRead) → IsReadOf text input → input.is_at_end ≡ true → text ≡ input.bytes
all_read text input read done = search (arith, append-nil)

pub none_bad : (past : Bool) (text : List ℕ) (input : BytesRead) (line offset : ℕ) (ws : List Written)
    (joint : Written) → Spells text ws → IsJointOf past ws joint → IsReadOf text input
    → IsBadLine past input.bytes input.is_at_end line offset → ⊥
none_bad past text input _ _ ws joint spells joined read (wrong lines line rest count is are begins one not) =
    not (begun past text input.bytes rest (lines ++ line) read.rest ws joint spells joined read.bytes is)
none_bad past text input _ _ ws joint spells joined read (unended lines line count done is are begins some plain) =
    not_unended input.bytes lines line
    (subst IsClosed (all_read text input read done) (texts_closed text ws spells)) is some plain
none_bad past text input _ _ ws joint spells joined read (lacks count done are begins none) =
    none ws (subst (λ (xs : List ℕ). Spells xs ws) (all_read text input read done) spells)
