use Rattle.std.proofs.Common.{◌≡◌, ◌≤◌, ◌+◌, ◌++◌, ◌∷◌, [], Result, Ok, Err, OnOk, ◌∙◌, ℕ, List, ap}
use Rattle.std.proofs.Common.{OnErr, false, length, arith, length-append}
use Rattle.std.specs.Result.{is_err}
use Rattle.std.specs.Vec.{vec_capacity, vec_len}
use Rattle.std.specs.Map.{lookup}
use Rattle.mseed_audit.specs.declared.channel.Channel.{Channel}
use Rattle.mseed_audit.specs.Channels.{same_key}
use Rattle.mseed_audit.proofs.Rosters.{no_place}
use Rattle.mseed_audit.proofs.roster.Roster.keep.Goals as goal

pub keep-requires : goal.keep-requires
keep-requires g c =
    no_place (same_key c.args.codes) c.self.inside.channels
    (ap (λ (fs : List (List ℕ × Channel)). lookup (same_key c.args.codes) fs) c.self.view_is ∙ c.requires)

-- there is room for one more, and so for what the list becomes
room_for_one : {X T D E F : Type 0} (reserved : Result D E) (kept : Result T F) (old new : List X) (x : X)
    (held count room : ℕ) → false ≡ is_err reserved → OnOk reserved (held + (count + 1) ≤ room) → count ≡ length old
    → OnOk kept (new ≡ old ++ x ∷ []) → OnErr kept (new ≡ old) → length new ≤ room
room_for_one {X} (Ok d) (Ok e) old new x held count room fine fits is more same =
    omega (arith, fits, is, length-append old (x ∷ []), ap (λ (xs : List X). length xs) more)
room_for_one {X} (Ok d) (Err e) old new x held count room fine fits is more same =
    omega (arith, fits, is, ap (λ (xs : List X). length xs) same)
room_for_one (Err e) kept old new x held count room fine fits is more same = absurd (cc fine)

pub invariant_of-self-2 : goal.invariant_of-self-2
invariant_of-self-2 g c = (
  c.reserve.ensures.items ∙ c.self.invariant.0,
  room_for_one c.reserve.result c.keep.result c.self.inside.channels c.keep.new.self (c.args.codes, c.args.channel)
      (vec_len c.reserve.new.self) c.len.result (vec_capacity c.reserve.new.self) c.if-is_err.ensures.value
      c.reserve.ensures.ok c.len.ensures.value c.keep.ensures.kept c.keep.ensures.unchanged,
)

pub returns-clause-kept : goal.returns-clause-kept
returns-clause-kept g c =
    rw c.self.view_is at c.keep.ensures.kept

pub returns-clause-unchanged : goal.returns-clause-unchanged
returns-clause-unchanged g c =
    rw c.self.view_is at c.keep.ensures.unchanged
