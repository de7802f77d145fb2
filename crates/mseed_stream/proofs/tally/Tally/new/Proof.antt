-- `new` makes a value of no bytes, at the empty list and no call.
use Rattle.std.proofs.Common.{[], ◌∷◌, refl}
use mir.Val.{vstruct, vnil}
use types.Kit.{◌$◌, ! }
use Rattle.mseed_stream.proofs.Made.{makes}
use Rattle.mseed_stream.proofs.Facts.{next_fact, last_fact}
use Rattle.mseed_stream.specs.contracts.tally.Tally as T
use Rattle.mseed_stream.specs.contracts.tally.Tally.new as f
use Rattle.mseed_stream.proofs.tally.Tally.new.Statement.{statement}
use Rattle.mseed_stream.proofs.tally.Tally.new.Code as code

pub new_spec : {M : Type 1} → statement M
new_spec 𝓤 𝓛 𝓜 𝓡 wired =
    makes 𝓛 T.the_row (f.clauses 𝓛 𝓜.mem 𝓡.returns) 𝓜 𝓡 _ _ f.Key.name (code.unfolded 𝓤 𝓛.H 𝓜 𝓡 wired)
    (record { marker = record {}; bytes = []; calls = 0; failures = 0 }) ((λ vss. (tt, ((λ uss. (tt, tt)), tt))), tt)
    (((vstruct vnil ∷ [], tt), (refl, ((tt, (refl, tt)), tt))), tt)
    (λ κs a g Γ. next_fact ! refl $ next_fact ! refl $ last_fact ! refl)
