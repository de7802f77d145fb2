-- Channels of a further part that are joined one after another.
use Rattle.std.proofs.Common.{◌≡◌, ℕ, List, ◌∷◌, true, Some, None, refl, sym, ◌∙◌}
use Rattle.std.proofs.Common.{◌++◌, [], append_assoc, append-nil, arith}
use Rattle.std.specs.Prelude.{Err, IsErrOf}
use Rattle.std.specs.Ordering.{nat_cmp}
use Rattle.std.specs.Cmp.Lexicographic.{slice_cmp}
use Rattle.std.proofs.lemmas.Map.{lookup-none}
use Rattle.std.proofs.lemmas.Map.Keys.{IsDistinct-from_sorted}
use Rattle.std.proofs.lemmas.Map.Entries.{none_past_head}
use Rattle.mseed_audit.specs.Channels.{same_key}
use Rattle.mseed_audit.proofs.Maps.{keys_alike, same_itself}
use Rattle.mseed_audit.specs.declared.channel.Channel.{Channel}
use Rattle.mseed_join.specs.declared.part.PartFault.{PartFault}
use Rattle.mseed_join.specs.Parts.{Held, IsAscending, kept_of, IsJoint, one_channel, FitsAt, Fits, HasNewChannel}
use Rattle.mseed_join.specs.Parts.{counts_alone}
use Rattle.mseed_audit.proofs.Rosters.{kept_after}
use Rattle.mseed_join.proofs.Adding.{Entries, joined_none}
use Rattle.mseed_join.proofs.Extended.{Joins, fits_here, fits_more, joins_more, kept_none, leaves_kept}
use Rattle.mseed_join.proofs.Extended.{counts_after}

-- after an entry nothing is kept at its key
pub past_head : (key : List ℕ) (x : List ℕ × Channel) (rest : Entries) → IsAscending (x ∷ rest)
    → same_key key x.0 ≡ true → kept_of key rest ≡ None
past_head key x rest s e =
    lookup-none (same_key key) rest
    (none_past_head keys_alike key x rest (IsDistinct-from_sorted (slice_cmp nat_cmp) _ s) e)

-- the channels of a further part are joined in turn: some were, and these are left
pub record InTurn (a b now : Held) (rest : Entries) : Type 0 where
  pub passed : Entries
  pub are : b.channels ≡ passed ++ rest
  pub ascending : IsAscending b.channels
  pub joint : Joins a passed now
  pub fits : (key : List ℕ) → FitsAt a.records a.bytes (kept_of key a.channels) (kept_of key passed)

pub turns_begin : (a b : Held) → IsAscending b.channels → InTurn a b a b.channels
turns_begin a b further = record {
  passed = [];
  are = refl;
  ascending = further;
  joint = record { records = refl; bytes = refl; each = λ key. sym (joined_none (kept_of key a.channels)) };
  fits = λ key. tt;
}

module _ (a b now : Held) (x : List ℕ × Channel) (rest : Entries) (t : InTurn a b now (x ∷ rest)) where
  new : kept_of x.0 t.passed ≡ None
  new = kept_none t.passed x rest (rw t.are at t.ascending)

  pub turns_more : (next : Held) → IsJoint now (one_channel x.0 x.1) next
      → FitsAt now.records now.bytes (kept_of x.0 now.channels) (Some x.1) → InTurn a b next rest
  turns_more next j f = record {
    passed = t.passed ++ x ∷ [];
    are = t.are ∙ sym (append_assoc t.passed (x ∷ []) rest);
    ascending = t.ascending;
    joint = joins_more a now next t.passed x.0 x.1 t.joint new j;
    fits = fits_more a now t.passed x new t.joint f t.fits;
  }

  -- the first that is left fits, where all do
  pub first_fits : Fits a b → FitsAt now.records now.bytes (kept_of x.0 now.channels) (Some x.1)
  first_fits f = fits_here a now t.passed x rest new t.joint (rw t.are at (f.each x.0))

  -- where nothing is kept yet at its key, it is a new one
  pub first_new : kept_of x.0 now.channels ≡ None → HasNewChannel a b
  first_new e = search (arith, kept_after, new, same_itself, leaves_kept)

-- where none is left, the counts follow
module _ (a b now : Held) (t : InTurn a b now []) where
  all_passed : b.channels ≡ t.passed
  all_passed = t.are ∙ append-nil t.passed

  pub counts_join : (h : Held) → IsJoint now (counts_alone b.records b.bytes) h → IsJoint a b h
  counts_join h j = counts_after a b now h (rw all_passed t.joint) j

  pub all_fit : Fits now (counts_alone b.records b.bytes) → Fits a b
  all_fit f = search (arith, all_passed)

  pub counts_fit : Fits a b → Fits now (counts_alone b.records b.bytes)
  counts_fit f = search arith

-- an error is the same of whatever would have been answered
pub same_error : {T U : Type 0} (e x : PartFault) → IsErrOf {T = T} (Err e) x → IsErrOf {T = U} (Err e) x
same_error {T} {U} e x h = search arith
