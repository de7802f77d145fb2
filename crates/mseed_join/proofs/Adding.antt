-- One channel that is joined.
use Rattle.std.proofs.Common.{◌≡◌, ◌↔◌, ℕ, List, Bool, true, false, cond, Option, Some, None, Result}
use Rattle.std.proofs.Common.{refl, sym, ap, ◌∙◌, subst, arith}
use Rattle.std.specs.Prelude.{IfOk, OnErr, OnOk, IsOk, IsErrOf}
use Rattle.std.specs.Option.{option_map}
use Rattle.std.proofs.lemmas.Result.{on_ok_weaker}
use Rattle.mseed_audit.specs.declared.finding.Finding.{Finding}
use Rattle.mseed_audit.specs.Channels.{same_key}
use Rattle.mseed_audit.proofs.Maps.{same_back, same_is}
use Rattle.mseed_audit.specs.declared.channel.Channel.{Channel}
use Rattle.mseed_join.specs.declared.part.PartFault.{PartFault}
use Rattle.mseed_join.specs.declared.part.PartFault.TheVariants.{Limit}
use Rattle.mseed_join.specs.Joining.{border_of, border_between, moved_channel, channel_then, channel_joined}
use Rattle.mseed_audit.specs.Audit.{head_in, tail_in}
use Rattle.mseed_join.specs.Parts.{Held, IsAscending, kept_of, IsJoint, one_channel, Moves, CountsFit, FitsAt}

abbrev pub Entries : Type 0
Entries = List (List ℕ × Channel)

abbrev pub held : Entries → ℕ → ℕ → Held
held channels records bytes = record { channels = channels; records = records; bytes = bytes }

-- what follows from what holds where an error is answered
pub err_from : {T E : Type 0} {P Q : Type 0} (r : Result T E) → OnErr r P → (P → Q) → OnErr r Q
err_from r h1 h2 = grind arith

-- with something kept at a key
abbrev pub HasAt : Entries → List ℕ → Channel → Entries → Type 0
HasAt es key x fs = (other : List ℕ) → kept_of other fs ≡ cond (same_key key other) (Some x) (kept_of other es)

pub joined_none : (o : Option Channel) → channel_joined o None ≡ o
joined_none o = grind arith

-- by whether another key is the same
joined_by : (es : Entries) (key other : List ℕ) (x m : Channel) (b : Bool) → same_key key other ≡ b
    → Some x ≡ channel_joined (kept_of key es) (Some m)
    → cond b (Some x) (kept_of other es) ≡ channel_joined (kept_of other es) (cond b (Some m) None)
joined_by es key other x m true e h =
    subst (λ (k : List ℕ). Some x ≡ channel_joined (kept_of k es) (Some m)) (same_is key other e) h
joined_by es key other x m false e h = sym (joined_none (kept_of other es))

map_cond : (d e : ℕ) (c : Channel) (b : Bool)
    → cond b (Some (moved_channel d e c)) None ≡ option_map (moved_channel d e) (cond b (Some c) None)
map_cond d e c b = grind arith

pub joined_with : (es fs : Entries) (records bytes : ℕ) (key : List ℕ) (c x : Channel) → HasAt es key x fs
    → IsAscending fs → Some x ≡ channel_joined (kept_of key es) (Some (moved_channel records bytes c))
    → IsJoint (held es records bytes) (one_channel key c) (held fs records bytes)
joined_with es fs records bytes key c x has sorted is = record {
  records = omega arith;
  bytes = omega arith;
  ascending = sorted;
  each = λ other.
      has other
      ∙ joined_by es key other x (moved_channel records bytes c) (same_key key other) refl is
      ∙ ap (λ (b : Bool). channel_joined (kept_of other es) (cond b (Some (moved_channel records bytes c)) None))
      (same_back key other)
      ∙ ap (λ (o : Option Channel). channel_joined (kept_of other es) o)
      (map_cond records bytes c (same_key other key));
}

-- ---- where the channel is there
module _ (es : Entries) (records bytes : ℕ) (a : Held) (view : held es records bytes ≡ a) (key : List ℕ)
    (c k m : Channel) (there : Some k ≡ kept_of key es) (is : m ≡ moved_channel records bytes c)
    (r : Result (Option Finding) PartFault) where
  pub there_joined : (x : Channel) (fs : Entries) → HasAt es key x fs → IsAscending fs
      → OnOk r (x ≡ channel_then k m) → OnOk r (IsJoint a (one_channel key c) (held fs records bytes))
  there_joined x fs has sorted =
      on_ok_weaker r (λ e.
      let now : Some x ≡ channel_joined (kept_of key es) (Some (moved_channel records bytes c)) = search arith in
      rw (← view) (joined_with es fs records bytes key c x has sorted now))

  pub there_border : IfOk r (λ found. found ≡ border_of (tail_in k.findings) (head_in m.findings))
      → IfOk r (λ found. found ≡ border_between (kept_of key a.channels) (moved_channel a.records a.bytes c))
  there_border = search arith

  fits_is : FitsAt records bytes (Some k) (Some c) ≡ FitsAt a.records a.bytes (kept_of key a.channels) (Some c)
  fits_is = ap (λ (o : Option Channel). FitsAt records bytes o (Some c)) there
      ∙ ap (λ (h : Held). FitsAt h.records h.bytes (kept_of key h.channels) (Some c)) view

  pub there_fits : IsOk r ↔ CountsFit (channel_then k m) → Moves records bytes c
      → OnOk r (FitsAt a.records a.bytes (kept_of key a.channels) (Some c))
  there_fits fits moves = search (arith, fits_is)

  pub there_limit : IsOk r ↔ CountsFit (channel_then k m) → IsErrOf r Limit
      → FitsAt a.records a.bytes (kept_of key a.channels) (Some c) → ⊥
  there_limit fits limit fit = search (arith, fits_is)

-- ---- where it is new
pub new_joined : (es old fs : Entries) (records bytes : ℕ) (a : Held) (key : List ℕ) (c m : Channel)
    → held es records bytes ≡ a → old ≡ es → kept_of key es ≡ None → m ≡ moved_channel records bytes c
    → HasAt old key m fs → IsAscending fs → IsJoint a (one_channel key c) (held fs records bytes)
new_joined es old fs records bytes a key c m view same none is has sorted =
    let now : Some m ≡ channel_joined (kept_of key es) (Some (moved_channel records bytes c)) = search arith in
    let at : HasAt es key m fs = subst (λ (gs : Entries). HasAt gs key m fs) same has in
    rw (← view) (joined_with es fs records bytes key c m at sorted now)
