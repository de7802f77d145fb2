-- One thing is wrong with a line at most.
use Rattle.std.proofs.Common.{◌≡◌, ◌≢◌, ◌⊎◌, ◌<◌, ◌≤◌, ℕ, List, [], ◌∷◌, ◌++◌, length, take, drop, Bool, refl, sym}
use Rattle.std.proofs.Common.{ap, ◌∙◌, subst, arith, inl, inr, append_assoc, append-nil, length-append, length-take}
use Rattle.std.proofs.Common.{take-append-drop}
use Rattle.mseed_audit.specs.declared.channel.Channel.{Channel}
use Rattle.mseed_join.specs.Parts.{IsAscending}
use Rattle.mseed_join.specs.Lines.{Line, channel, text_of_line, IsLine}
use Rattle.mseed_join.specs.Lines.{header_line, channel_line, HasChannelLine}
use Rattle.mseed_join.specs.Fields.{IsFirstBad}
use Rattle.mseed_join.specs.declared.bad_field.Field.{Field}
use Rattle.mseed_join.proofs.FirstBad.{bad_field_one}
use Rattle.mseed_join.proofs.OneLine.{channel_one, line_one}
use Rattle.mseed_join.specs.declared.flaw.Flaw.{Flaw}
use Rattle.mseed_join.specs.declared.flaw.Flaw.TheVariants.{Beginning, Row, Order, Ending, Limit, Long}
use Rattle.mseed_join.specs.declared.flaw.Flaw.TheVariants.{Unended as NoEnd, Missing}
use Rattle.mseed_join.specs.Flaws.{May, IsNoChannel, IsNoCounts, IsNoFault, IsNoFaults, IsFlawOf, IsFlaw, begun_as}
use Rattle.mseed_join.specs.Joined.{HasNoEnd}
use Rattle.mseed_join.specs.Reached.{OpenPart, none, begun, whole}
use Rattle.mseed_join.specs.Written.{Written}
use Rattle.mseed_join.proofs.Ended.{plain_from, same_line, within_line}

-- ---- a whole line
-- it can stand there
pub record Stands (last : OpenPart) (line : List ℕ) : Type 0 where
  pub x : Line
  pub is_line : IsLine x
  pub may : May last x
  pub text : text_of_line x ≡ line

-- its channel is out of order
record IsDisordered (channels : List (List ℕ × Channel)) (key line : List ℕ) : Type 0 where
  c : Channel
  fits : HasChannelLine key c
  is : line ≡ channel_line key c
  never : IsAscending (channels ++ (key, c) ∷ []) → ⊥

record IsNoEnding (w : Written) (line : List ℕ) : Type 0 where
  other : line ≢ header_line
  fault : IsNoFault w.part.bytes line
  faults : w.faults ≡ 0 → IsNoFaults line

-- it is no line of a channel, and none of counts, and its first bad field is this one
record IsNoRow (field : Field) (line : List ℕ) : Type 0 where
  channel : IsNoChannel line
  counts : IsNoCounts line
  first : IsFirstBad field line

-- a flaw, by what stands before the line
abbrev Told : Flaw → OpenPart → List ℕ → Type 0
Told f none line = ((f ≡ Beginning) × (line ≢ header_line)) ⊎ ((f ≡ Limit) × Stands none line)
Told f (begun channels) line =
    ((field : Field) × ((f ≡ Row field) × IsNoRow field line))
    ⊎ (((key : List ℕ) × ((f ≡ Order key) × IsDisordered channels key line))
    ⊎ ((f ≡ Limit) × Stands (begun channels) line))
Told f (whole w) line = ((f ≡ Ending (begun_as line)) × IsNoEnding w line) ⊎ ((f ≡ Limit) × Stands (whole w) line)

stands_told : (last : OpenPart) (line : List ℕ) → Stands last line → Told Limit last line
stands_told last line h1 = grind arith

told : (f : Flaw) (last : OpenPart) (line : List ℕ) → IsFlawOf f last line → Told f last line
told _ _ _ (IsFlawOf.beginning line other) = inl (refl, other)
told _ _ _ (IsFlawOf.row channels line field no_channel no_counts first) = search arith
told _ _ _ (IsFlawOf.order channels key c line fits is never) = search arith
told _ _ _ (IsFlawOf.ending w line other no_fault no_faults) = search arith
told _ _ _ (IsFlawOf.limit last x line is_line may text) =
    search (arith, stands_told)

-- what can stand there has no other flaw
no_beginning : (line : List ℕ) → line ≢ header_line → Stands none line → ⊥
no_beginning line other s = search arith

no_row : (channels : List (List ℕ × Channel)) (field : Field) (line : List ℕ) → IsNoRow field line
    → Stands (begun channels) line → ⊥
no_row channels field line e s = search arith

no_order : (channels : List (List ℕ × Channel)) (key line : List ℕ) → IsDisordered channels key line
    → Stands (begun channels) line → ⊥
no_order channels key line d s =
    let same : channel key d.c ≡ s.x = line_one (channel key d.c) s.x d.fits s.is_line (sym d.is ∙ sym s.text) in
    d.never (subst (λ (x : Line). May (begun channels) x) (sym same) s.may)

no_ending : (w : Written) (line : List ℕ) → IsNoEnding w line → Stands (whole w) line → ⊥
no_ending w line e s = search arith

pub flaw_stands : (f : Flaw) (last : OpenPart) (line : List ℕ) → IsFlawOf f last line → f ≢ Limit → Stands last line
    → ⊥
flaw_stands _ _ _ (IsFlawOf.beginning line other) never s = no_beginning line other s
flaw_stands _ _ _ (IsFlawOf.row channels line field no_channel no_counts first) never s =
    search (arith, no_row)
flaw_stands _ _ _ (IsFlawOf.order channels key c line fits is ascends) never s =
    no_order channels key line (record { c = c; fits = fits; is = is; never = ascends }) s
flaw_stands _ _ _ (IsFlawOf.ending w line other no_fault no_faults) never s =
    search (arith, no_ending)
flaw_stands _ _ _ (IsFlawOf.limit last x line is_line may text) never s = never refl

one_key : (channels : List (List ℕ × Channel)) (key other line : List ℕ) → IsDisordered channels key line
    → IsDisordered channels other line → key ≡ other
one_key channels key other line d e = (channel_one key other d.c e.c d.fits e.fits (sym d.is ∙ e.is)).0

one_of : (f g : Flaw) (last : OpenPart) (line : List ℕ) → Told f last line → Told g last line → f ≡ g
one_of f g none line one other = grind (arith, no_beginning)
one_of f g (begun channels) line (inl a) (inl b) =
    a.1.0 ∙ ap (λ (field : Field). Row field) (bad_field_one a.0 b.0 line a.1.1.first b.1.1.first) ∙ sym b.1.0
one_of f g (begun channels) line (inl a) (inr (inl b)) = absurd (a.1.1.channel b.0 b.1.1.c b.1.1.fits b.1.1.is)
one_of f g (begun channels) line (inl a) (inr (inr b)) = absurd (no_row channels a.0 line a.1.1 b.1)
one_of f g (begun channels) line (inr (inl a)) (inl b) = absurd (b.1.1.channel a.0 a.1.1.c a.1.1.fits a.1.1.is)
one_of f g (begun channels) line (inr (inl a)) (inr (inl b)) =
    a.1.0 ∙ ap (λ (key : List ℕ). Order key) (one_key channels a.0 b.0 line a.1.1 b.1.1) ∙ sym b.1.0
one_of f g (begun channels) line (inr (inl a)) (inr (inr b)) = absurd (no_order channels a.0 line a.1.1 b.1)
one_of f g (begun channels) line (inr (inr a)) (inl b) = absurd (no_row channels b.0 line b.1.1 a.1)
one_of f g (begun channels) line (inr (inr a)) (inr (inl b)) = absurd (no_order channels b.0 line b.1.1 a.1)
one_of f g (begun channels) line (inr (inr a)) (inr (inr b)) = a.0 ∙ sym b.0
one_of f g (whole w) line one other = grind (arith, no_ending)

-- ---- the first line of some bytes
-- it is whole
record IsWhole (f : Flaw) (last : OpenPart) (bytes : List ℕ) : Type 0 where
  body : List ℕ
  after : List ℕ
  no_end : HasNoEnd body
  short : length body < 512
  is : bytes ≡ body ++ 10 ∷ after
  flaw : IsFlawOf f last (body ++ 10 ∷ [])

-- its flaw, by how far it goes
abbrev Lies : Flaw → OpenPart → List ℕ → Type 0
Lies f last bytes =
    IsWhole f last bytes
    ⊎ (((f ≡ Long) × HasNoEnd (take 512 bytes) × (512 ≤ length bytes))
    ⊎ (((f ≡ NoEnd) × HasNoEnd bytes × (length bytes < 512) × (bytes ≢ [])) ⊎ ((f ≡ Missing) × (bytes ≡ []))))

lies : (f : Flaw) (last : OpenPart) (bytes : List ℕ) (at_end : Bool) → IsFlaw f last bytes at_end → Lies f last bytes
lies _ _ _ _ (IsFlaw.line flaw last body after bytes at_end no_end short is wrong) =
    search (arith, append_assoc)
lies _ _ _ _ (IsFlaw.long last bytes at_end no_end many) = inr (inl (refl, no_end, many))
lies _ _ _ _ (IsFlaw.unended last bytes at_end ended some no_end short) = search arith
lies _ _ _ _ (IsFlaw.missing channels at_end ended) = inr (inr (inr (refl, refl)))

both_whole : (f g : Flaw) (last : OpenPart) (bytes : List ℕ) → IsWhole f last bytes → IsWhole g last bytes → f ≡ g
both_whole f g last bytes a b = search (arith, same_line, plain_from, one_of, told)

-- a whole line isn't too long, has its LF, and is there
not_long : (f : Flaw) (last : OpenPart) (bytes : List ℕ) → IsWhole f last bytes → HasNoEnd (take 512 bytes)
    → 512 ≤ length bytes → ⊥
not_long f last bytes a no_end many =
    let within = within_line (take 512 bytes) a.body (drop 512 bytes) a.after (plain_from (take 512 bytes) no_end)
    (take-append-drop 512 bytes ∙ a.is) in
    omega (arith, within, a.short, many, length-take 512 bytes)

not_unended : (f : Flaw) (last : OpenPart) (bytes : List ℕ) → IsWhole f last bytes → HasNoEnd bytes → ⊥
not_unended f last bytes a no_end =
    let within = within_line bytes a.body [] a.after (plain_from bytes no_end) (append-nil bytes ∙ a.is) in
    omega (arith, within, ap length a.is, length-append a.body (10 ∷ a.after))

not_missing : (f : Flaw) (last : OpenPart) (bytes : List ℕ) → IsWhole f last bytes → bytes ≡ [] → ⊥
not_missing f last bytes a e =
    omega (arith, ap length e, ap length a.is, length-append a.body (10 ∷ a.after))

-- where it is whole it lies nowhere else
one_whole : (f g : Flaw) (last : OpenPart) (bytes : List ℕ) → IsWhole f last bytes → Lies g last bytes → f ≡ g
one_whole f g last bytes a (inl b) = both_whole f g last bytes a b
one_whole f g last bytes a (inr (inl b)) = absurd (not_long f last bytes a b.1 b.2)
one_whole f g last bytes a (inr (inr (inl b))) = absurd (not_unended f last bytes a b.1)
one_whole f g last bytes a (inr (inr (inr b))) = absurd (not_missing f last bytes a b.1)

one_lie : (f g : Flaw) (last : OpenPart) (bytes : List ℕ) → Lies f last bytes → Lies g last bytes → f ≡ g
one_lie f g last bytes (inl a) other = one_whole f g last bytes a other
one_lie f g last bytes (inr one) (inl b) = sym (one_whole g f last bytes b (inr one))
one_lie f g last bytes (inr one) (inr other) = grind arith

pub flaw_one : (flaw other : Flaw) (last : OpenPart) (bytes : List ℕ) (at_end : Bool) → IsFlaw flaw last bytes at_end
    → IsFlaw other last bytes at_end → flaw ≡ other
flaw_one flaw other last bytes at_end a b = search (arith, one_lie, lies)
