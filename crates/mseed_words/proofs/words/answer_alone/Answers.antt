use Rattle.std.proofs.Common.{List, [], None, map, string_bytes, refl, subst}
use Rattle.clap.specs.Faults.{fault_of}
use Rattle.clap.specs.Kinds.{FailsBy, HasKind}
use Rattle.clap.specs.Simple.{app_of}
use Rattle.clap.specs.Walk.{Text}
use Rattle.mseed_words.specs.Options.{the_program}
use Rattle.mseed_words.specs.Words.{mistaken}
use Rattle.mseed_words.specs.declared.mistake.Mistake.TheVariants.{Command}
use Rattle.mseed_words.proofs.Taken.{fails_as}
use Rattle.mseed_words.proofs.words.answer_alone.Goals as goal

pub returns : goal.returns
returns c =
    let words : List Text = map string_bytes c.args.words.now in
    let fails : HasKind (fault_of the_program words) c.in-Err.error =
    subst (λ r. FailsBy (fault_of the_program words) r) c.in-Err.is
    (fails_as (app_of c.program.result) the_program words c.try_get_matches_from.result c.program.ensures refl
    c.try_get_matches_from.ensures.kinds) in
    c.refusal_of.ensures (fault_of the_program words) (mistaken (Command None) []) fails
