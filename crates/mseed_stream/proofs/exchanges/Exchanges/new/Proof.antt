-- `new` makes a value of no bytes, at the empty list.
use Rattle.std.proofs.Common.{[], ◌∷◌, refl}
use mir.Val.{vstruct, vnil}
use types.Kit.{ ! }
use Rattle.mseed_stream.proofs.Made.{makes}
use Rattle.mseed_stream.proofs.Facts.{last_fact}
use Rattle.mseed_stream.specs.contracts.exchanges.Exchanges as T
use Rattle.mseed_stream.specs.contracts.exchanges.Exchanges.new as f
use Rattle.mseed_stream.proofs.exchanges.Exchanges.new.Statement.{statement}
use Rattle.mseed_stream.proofs.exchanges.Exchanges.new.Code as code

pub new_spec : {M : Type 1} → statement M
new_spec 𝓤 𝓛 𝓜 𝓡 wired =
    makes 𝓛 T.the_row (f.clauses 𝓛 𝓜.mem 𝓡.returns) 𝓜 𝓡 _ _ f.Key.name (code.unfolded 𝓤 𝓛.H 𝓜 𝓡 wired)
    (record { marker = record {}; all = [] }) ((λ vss. (tt, ((λ uss. (tt, tt)), tt))), tt)
    (((vstruct vnil ∷ [], tt), (refl, ((tt, (refl, tt)), tt))), tt) (λ κs a g Γ. last_fact ! refl)
