-- A line, by where it stands: what it is taken as, and what no parts go on with.
use Rattle.std.proofs.Common.{◌≡◌, ◌≢◌, ℕ, List, [], ◌∷◌, ◌++◌, Bool, true, false, Option, Some}
use Rattle.std.proofs.Common.{None, refl, sym, subst, arith, inl, Result, Ok, Err}
use Rattle.std.specs.Prelude.{codes, IfErr, OnOk}
use Rattle.std.specs.List.Sorted.{IsStrictlySortedBy}
use Rattle.std.specs.Ordering.{nat_cmp}
use Rattle.std.specs.Cmp.Lexicographic.{slice_cmp}
use Rattle.std.specs.declared.cmp.Ordering.TheVariants.{Less}
use Rattle.std.proofs.lemmas.Cmp.{nat_list_cmp_total}
use Rattle.mseed_stream.specs.declared.fault.StreamFault.{StreamFault}
use Rattle.mseed_text.specs.Fault.{fault_line}
use Rattle.mseed_audit.specs.declared.channel.Channel.{Channel}
use Rattle.mseed_join.specs.Parts.{Held, IsAscending, IsPartOf}
use Rattle.mseed_record.specs.View.{View}
use Rattle.mseed_join.specs.Lines.{Line, header, channel, counts, faults, fault, text_of_line, IsLine}
use Rattle.mseed_join.specs.Lines.{header_line}
use Rattle.mseed_join.specs.Lines.{channel_line, counts_line, faults_line, HasChannelLine, HasCountsLine}
use Rattle.mseed_join.specs.Lines.{HasFaultsLine, HasFaultLine}
use Rattle.mseed_join.specs.Fields.{IsFirstBad}
use Rattle.mseed_join.specs.declared.bad_field.Field.{Field}
use Rattle.mseed_join.specs.Written.{HasText, Written}
use Rattle.mseed_join.specs.Joined.{AreJoined, Begins, HasNoEnd, none as no_more, nothing}
use Rattle.mseed_join.specs.Reached.{OpenPart, Stage, begun_part, open_part, start}
use Rattle.mseed_join.specs.declared.joint.Joint.{Joint}
use Rattle.mseed_join.specs.declared.joint.LineFault.{LineFault}
use Rattle.mseed_join.specs.declared.joint.LineFault.TheVariants.{Bad, Memory}
use Rattle.mseed_join.specs.declared.joint.PlaceInPart.{PlaceInPart}
use Rattle.mseed_join.specs.declared.joint.PlaceInPart.TheVariants.{Start, Channels, Whole}
use Rattle.mseed_join.specs.declared.joint.Reported.{Reported}
use Rattle.mseed_join.specs.private.Steps.{May, to}
use Rattle.mseed_join.specs.declared.flaw.Closing.{Closing}
use Rattle.mseed_join.specs.declared.flaw.Flaw.{Flaw}
use Rattle.mseed_join.specs.declared.flaw.Flaw.TheVariants.{Beginning, Ending, Order, Row}
use Rattle.mseed_join.specs.Flaws.{IsFlawOf, IsNoChannel, IsNoCounts, IsNoFault, begun_as}
use Rattle.mseed_join.specs.private.Taking.{IsAfterKey, IsFlawed, IsLastKey, IsLimit, IsLineStep, IsPlace, IsReadTo}
use Rattle.mseed_join.specs.private.Taking.{IsStep, IsTaken}
use Rattle.mseed_join.specs.private.Taking.{Takes, TakesLine}
use Rattle.mseed_join.specs.declared.flaw.Flaw.TheVariants.{Limit}
use Rattle.mseed_join.specs.Flaws.{IsNoFaults}
use Rattle.mseed_join.proofs.OneFlaw.{flaw_stands}
use Rattle.mseed_join.proofs.Onward.{Standing, standing}
use Rattle.mseed_join.proofs.Ahead.{IsNextLine, next_line}
use Rattle.mseed_join.proofs.Machine.{Entries}
use Rattle.mseed_join.proofs.Pieces.{of_nothing}
use Rattle.mseed_join.proofs.Extended.{AllKeys, key_among}
use Rattle.mseed_join.proofs.Running.{HaveTexts, each_after}

-- ---- keys in order
keys_one : (P : List ℕ → Type 0) (cs : Entries) (e : List ℕ × Channel) → AllKeys P cs → P e.0 → AllKeys P (cs ++ e ∷ [])
keys_one P [] e h k = (k, tt)
keys_one P (d ∷ cs) e h k = (h.0, keys_one P cs e h.1 k)

sorted_one : (cs : Entries) (last key : List ℕ) (b c : Channel) → IsAscending (cs ++ (last, b) ∷ [])
    → slice_cmp nat_cmp last key ≡ Less → IsAscending ((cs ++ (last, b) ∷ []) ++ (key, c) ∷ [])
unfolding IsStrictlySortedBy
sorted_one [] last key b c s l = ((l, tt), (tt, tt))
sorted_one (d ∷ cs) last key b c s l =
    let first = key_among (λ y. slice_cmp nat_cmp d.0 y ≡ Less) cs (last, b) [] s.0 in
    let less : slice_cmp nat_cmp d.0 key ≡ Less = nat_list_cmp_total.trans d.0 last key first l in (
      keys_one (λ y. slice_cmp nat_cmp d.0 y ≡ Less) (cs ++ (last, b) ∷ []) (key, c) s.0 less,
      sorted_one cs last key b c s.1 l,
    )

single : (key : List ℕ) (c : Channel) → IsAscending ((key, c) ∷ [])
unfolding IsStrictlySortedBy
single key c = (tt, tt)

in_order : (last : Option (List ℕ)) (cs : Entries) (key : List ℕ) (c : Channel) → IsLastKey last cs → IsAscending cs
    → IsAfterKey last key → IsAscending (cs ++ (key, c) ∷ [])
in_order None cs key c l s b = subst (λ (es : Entries). IsAscending (es ++ (key, c) ∷ [])) (sym l) (single key c)
in_order (Some last) cs key c l s b =
    subst (λ (es : Entries). IsAscending (es ++ (key, c) ∷ [])) (sym l.2)
    (sorted_one l.0 last key l.1 c (subst IsAscending l.2 s) b)

first_two : (d : List ℕ × Channel) (cs : Entries) (e : List ℕ × Channel) → IsAscending (d ∷ (cs ++ e ∷ []))
    → slice_cmp nat_cmp d.0 e.0 ≡ Less
unfolding IsStrictlySortedBy
first_two d cs e s = key_among (λ y. slice_cmp nat_cmp d.0 y ≡ Less) cs e [] s.0

two_last : (cs : Entries) (d e : List ℕ × Channel) → IsAscending ((cs ++ d ∷ []) ++ e ∷ [])
    → slice_cmp nat_cmp d.0 e.0 ≡ Less
unfolding IsStrictlySortedBy
two_last [] d e s = first_two d [] e s
two_last (f ∷ cs) d e s = two_last cs d e s.1

out_of_order : (last : Option (List ℕ)) (cs : Entries) (key : List ℕ) (c : Channel) → IsLastKey last cs
    → IsAscending (cs ++ (key, c) ∷ []) → IsAfterKey last key
out_of_order None cs key c l s = tt
out_of_order (Some last) cs key c l s =
    two_last l.0 (last, l.1) (key, c) (subst (λ (es : Entries). IsAscending (es ++ (key, c) ∷ [])) l.2 s)

-- ---- a step, by its line
pub step_line : {A : Type 0} → (lines : List ℕ) (s : Stage) (x : Line) (line : List ℕ) (r : Result Reported LineFault)
    (old new : Joint A) → line ≡ text_of_line x → IsStep lines s x r old new → IsLineStep lines s line r old new
step_line lines s x line (Ok reported) old new e h =
    (to s x, subst (λ (t : List ℕ). IsTaken lines t s (to s x) reported old new) (sym e) h)
step_line lines s x line (Err (Bad flaw)) old new e h = λ b.
    h (subst (λ (t : List ℕ). Begins old.past_faults (lines ++ t)) e b)
step_line lines s x line (Err Memory) old new e h = tt

-- ---- where a line stands
abbrev pub IsEndedLine : List ℕ → Type 0
IsEndedLine line = (body : List ℕ) × HasNoEnd body × (line ≡ body ++ codes "\n")

stands_at : {A : Type 0} {lines : List ℕ} {s : Stage} {j : Joint A} (place : PlaceInPart) → j.place ≡ place
    → IsReadTo lines s j → Standing place s.last
stands_at {s = s} place e q = standing place s.last (subst (λ (p : PlaceInPart). IsPlace p s.last) e q.place)

channel_may : (last : Option (List ℕ)) (over : List Written) (b : OpenPart) (key : List ℕ) (c : Channel)
    → Standing (Channels last) b → HaveTexts (over ++ open_part b)
    → IsAfterKey last key → May b (channel key c)
channel_may last over _ key c (Standing.rows _ cs p) h k =
    in_order last cs key c p (each_after HasText over (begun_part cs ∷ []) h).0.ascending k

counts_may : (last : Option (List ℕ)) (b : OpenPart) (n l : ℕ) → Standing (Channels last) b → May b (counts n l)
counts_may last _ n l (Standing.rows _ cs p) = tt

fault_may : (l : ℕ) (has : Bool) (b : OpenPart) (f : StreamFault) → Standing (Whole l has) b → May b (fault l f)
fault_may l has _ f (Standing.closes _ _ w e r) = sym e

faults_may : (l : ℕ) (b : OpenPart) (n : ℕ) → Standing (Whole l false) b → May b (faults n)
faults_may l _ n (Standing.closes _ _ w e r) = r

-- a header, or nothing
header_may : (place : PlaceInPart) (b : OpenPart) → Standing place b
    → ((last : Option (List ℕ)) → place ≡ Channels last → ⊥) → May b header
header_may _ _ (Standing.rows last cs p) never = absurd (never last refl)
header_may _ _ _ never = tt

-- ---- a line of a kind that can stand here
limit_flaw : (r : Result Reported LineFault) (last : OpenPart) (x : Line) (line : List ℕ) → IfErr r IsLimit → IsLine x
    → May last x → text_of_line x ≡ line → IfErr r (λ e. IsFlawed e last line)
limit_flaw (Err (Bad flaw)) last x line e i m t = rw e (IsFlawOf.limit last x line i m t)
limit_flaw _ last x line e i m t = tt

abbrev pub IsHeaderStep : {A : Type 0} → Result Reported LineFault → Joint A → Joint A → Type 0
IsHeaderStep r old new = (lines : List ℕ) (s : Stage) → IsReadTo lines s old → May s.last header
    → OnOk r (IsStep lines s header r old new)

module _ {A : Type 0} (old new : Joint A) (line : List ℕ) where
  -- it is taken, or its sum passes
  line_taken : (x : Line) (r : Result Reported LineFault) → line ≡ text_of_line x → IsLine x
      → ((lines : List ℕ) (s : Stage) → IsReadTo lines s old → May s.last x) → Takes x r old new → IfErr r IsLimit
      → TakesLine line r old new
  line_taken x r is fits may step limit lines s q = (
    step_line lines s x line r old new is (step lines s q fits (may lines s q)),
    limit_flaw r s.last x line limit fits (may lines s q) (sym is),
  )

  pub channel_taken : (last : Option (List ℕ)) (key : List ℕ) (c : Channel) (r : Result Reported LineFault)
      → old.place ≡ Channels last → IsAfterKey last key → line ≡ channel_line key c → HasChannelLine key c
      → Takes (channel key c) r old new → IfErr r IsLimit → TakesLine line r old new
  channel_taken last key c r at later is fits =
      line_taken (channel key c) r is fits (λ lines s q.
      channel_may last s.over s.last key c (stands_at (Channels last) at q) q.stage.each later)

  pub counts_taken : (last : Option (List ℕ)) (n l : ℕ) (r : Result Reported LineFault) → old.place ≡ Channels last
      → line ≡ counts_line n l → HasCountsLine n l → Takes (counts n l) r old new → IfErr r IsLimit
      → TakesLine line r old new
  counts_taken last n l r at is fits =
      line_taken (counts n l) r is fits (λ lines s q. counts_may last s.last n l (stands_at (Channels last) at q))

  pub fault_taken : (l : ℕ) (has : Bool) (f : StreamFault) (r : Result Reported LineFault) → old.place ≡ Whole l has
      → line ≡ fault_line f → HasFaultLine l f → Takes (fault l f) r old new → IfErr r IsLimit
      → TakesLine line r old new
  fault_taken l has f r at is fits =
      line_taken (fault l f) r is fits (λ lines s q. fault_may l has s.last f (stands_at (Whole l has) at q))

  pub faults_taken : (l n : ℕ) (r : Result Reported LineFault) → old.place ≡ Whole l false → line ≡ faults_line n
      → HasFaultsLine n → Takes (faults n) r old new → IfErr r IsLimit → TakesLine line r old new
  faults_taken l n r at is fits =
      line_taken (faults n) r is fits (λ lines s q. faults_may l s.last n (stands_at (Whole l false) at q))

  -- ---- what is wrong with any other line
  -- no parts go on with it, since a line that can stand there has no such flaw
  flawed : (flaw : Flaw) → flaw ≢ Limit → IsEndedLine line
      → ((lines : List ℕ) (s : Stage) → IsReadTo lines s old → IsFlawOf flaw s.last line)
      → TakesLine line (Err (Bad flaw)) old new
  flawed flaw never ends why lines s q = (
    λ b.
        let n : IsNextLine old.past_faults s line =
        next_line old.past_faults s lines ends.0 line q.stage ends.1 ends.2 b in
        flaw_stands flaw s.last line (why lines s q) never
        (record { x = n.x; is_line = n.is_line; may = n.may; text = n.text }),
    why lines s q,
  )

  pub order_flaw : (last : Option (List ℕ)) (key : List ℕ) (c : Channel) → old.place ≡ Channels last
      → IsEndedLine line → line ≡ channel_line key c → HasChannelLine key c → (IsAfterKey last key → ⊥)
      → TakesLine line (Err (Bad (Order key))) old new
  order_flaw last key c at ends is fits never =
      flawed (Order key) (λ e. cc e) ends (λ lines s q. by s.last (stands_at (Channels last) at q))
    where
      by : (b : OpenPart) → Standing (Channels last) b → IsFlawOf (Order key) b line
      by _ (Standing.rows _ cs p) =
          IsFlawOf.order cs key c line fits is (λ a. never (out_of_order last cs key c p a))

  pub row_flaw : (last : Option (List ℕ)) (field : Field) → old.place ≡ Channels last → IsEndedLine line
      → IsNoChannel line → IsNoCounts line → IsFirstBad field line → TakesLine line (Err (Bad (Row field))) old new
  row_flaw last field at ends f g first =
      flawed (Row field) (λ e. cc e) ends (λ lines s q. by s.last (stands_at (Channels last) at q))
    where
      by : (b : OpenPart) → Standing (Channels last) b → IsFlawOf (Row field) b line
      by _ (Standing.rows _ cs p) = IsFlawOf.row cs line field f g first

  -- where a header is wanted
  header_or : (flaw : Flaw) (place : PlaceInPart) (r : Result Reported LineFault) → flaw ≢ Limit → old.place ≡ place
      → ((last : Option (List ℕ)) → place ≡ Channels last → ⊥) → IsEndedLine line → IsHeaderStep r old new
      → OnOk r (line ≡ header_line) → IfErr r (λ e. (e ≡ Bad flaw) × (line ≢ header_line))
      → ((b : OpenPart) → Standing place b → line ≢ header_line → IsFlawOf flaw b line) → TakesLine line r old new
  header_or flaw place (Ok reported) other at never ends step is bad why = λ lines s q. (
    step_line lines s header line (Ok reported) old new is
        (step lines s q (header_may place s.last (stands_at place at q) never)),
    tt,
  )
  header_or flaw place (Err e) other at never ends step is bad why =
      rw bad.0 (flawed flaw other ends (λ lines s q. why s.last (stands_at place at q) bad.1))

  pub beginning_or : (r : Result Reported LineFault) → old.place ≡ Start → IsEndedLine line → IsHeaderStep r old new
      → OnOk r (line ≡ header_line) → IfErr r (λ e. (e ≡ Bad Beginning) × (line ≢ header_line))
      → TakesLine line r old new
  beginning_or r at ends step is bad =
      header_or Beginning Start r (λ e. cc e) at (λ last e. cc e) ends step is bad by
    where
      by : (b : OpenPart) → Standing Start b → line ≢ header_line → IsFlawOf Beginning b line
      by _ Standing.starts other = IsFlawOf.beginning line other

  pub ending_or : (l : ℕ) (has : Bool) (closing : Closing) (r : Result Reported LineFault) → old.place ≡ Whole l has
      → closing ≡ begun_as line → IsEndedLine line → IsHeaderStep r old new → OnOk r (line ≡ header_line)
      → IfErr r (λ e. (e ≡ Bad (Ending closing)) × (line ≢ header_line)) → IsNoFault l line
      → (has ≡ false → IsNoFaults line) → TakesLine line r old new
  ending_or l has closing r at same ends step is bad no_fault no_faults =
      header_or (Ending closing) (Whole l has) r (λ e. cc e) at (λ last e. cc e) ends step is bad
      (λ b stands other. rw same (by has b stands other no_faults))
    where
      by : (has : Bool) (b : OpenPart) → Standing (Whole l has) b → line ≢ header_line
          → (has ≡ false → IsNoFaults line) → IsFlawOf (Ending (begun_as line)) b line
      by false _ (Standing.closes _ _ w p r) other none =
          IsFlawOf.ending w line other (rw p at no_fault) (λ z. none refl)
      by true _ (Standing.closes _ _ w p r) other none =
          IsFlawOf.ending w line other (rw p at no_fault) (λ z. absurd (omega (arith, r, z)))

-- ---- where nothing was read
abbrev pub HaveOnePart : Type 0
HaveOnePart = (a b : Held) (views : List View) → IsPartOf a views → IsPartOf b views → a ≡ b

pub nothing_read : {A : Type 0} → (part : Held) (past : Bool) → HaveOnePart → IsPartOf part []
    → IsReadTo {A = A} [] start (record {
      so_far = record { part = part; faults = 0; end = None };
      parts = 0;
      place = Start;
      past_faults = past;
    })
nothing_read part past only is =
    let same : nothing.part ≡ part = only nothing.part part [] of_nothing is in record {
      stage = record { text = refl; each = tt; is_where = inl refl };
      joint = subst (λ (h : Held). AreJoined nothing [] (record { part = h; faults = 0; end = None })) same
          (no_more nothing);
      place = tt;
      number = refl;
    }
