use Rattle.std.proofs.Common.{List, rules, subst, sym, w32, ◌∙◌}
use Rattle.std.proofs.lemmas.Int.{to_z-of_z}
use Rattle.std.specs.List.{AllByRecursion}
use Rattle.mseed_record.specs.View.{View}
use Rattle.mseed_record.specs.Viewing.{view_of}
use Rattle.mseed_audit.specs.Follows.{IsSound}
use Rattle.mseed_audit.specs.Series.{AreJoined}
use Rattle.mseed_repack.proofs.Supplied.{first_joined}
use Rattle.mseed_repack.proofs.unpacking.first_sample.Goals as goal

pub ends_of-requires : goal.ends_of-requires
ends_of-requires g c =
    let each = subst (λ (vs : List View). AllByRecursion IsSound vs) c.in-Some.ensures.next c.requires.sound in
    (each.0.samples, each.0.whole)

pub returns : goal.returns
returns g c = λ xs joined.
    first_joined (view_of c.in-Some.first) (g.R.Walk.left c.next.new.self) xs c.ends_of.result c.ends_of.ensures
    (subst (λ (vs : List View). AreJoined vs xs) c.in-Some.ensures.next joined) ∙ sym (to_z-of_z w32 _ (search rules))

pub unreachable-requires : goal.unreachable-requires
unreachable-requires g c = c.requires.some c.in-None.ensures.next.0
