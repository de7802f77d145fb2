use Rattle.std.proofs.Common.{◌≡◌, ◌∙◌, Err, IfOk, Ok, Result, Some, ap, false}
use Rattle.clap.specs.Built.{AddsArg}
use Rattle.clap.specs.Simple.{app_of, with_rule}
use Rattle.clap.specs.Walk.{Rule, rule_of}
use Rattle.clap.specs.declared.builder.action.ArgAction.TheVariants.{Append}
use Rattle.clap.specs.declared.builder.arg.Arg.{Arg}
use Rattle.clap.specs.declared.builder.command.Command.{Command}
use Rattle.mseed_words.proofs.options.with_places.Goals as goal

-- an argument is added
module _ {E : Type 0} (start : Command) (places : Arg) (rule : Rule) where
  added : (result : Result Command E) → IfOk result (λ c. AddsArg start places c) → rule_of places ≡ rule
      → places.global ≡ false → IfOk result (λ c. app_of c ≡ with_rule (app_of start) rule)
  added (Ok new) adds are local = adds.shape local ∙ ap (with_rule (app_of start)) are
  added (Err error) adds are local = tt

pub returns : goal.returns
returns c =
    added _ _ _ c.arg.result c.arg.ensures
    (ap rule_of c.help-places.ensures ∙ (ap rule_of c.action.ensures
    ∙ (ap (λ (a : Arg). rule_of (record a { action = Some Append })) c.value_name.ensures
    ∙ ap (λ (r : Rule). record r { action = Some Append; value_names = 1 }) c.new.ensures.rule)))
    (ap (λ (a : Arg). a.global) c.help-places.ensures ∙ (ap (λ (a : Arg). a.global) c.action.ensures
    ∙ (ap (λ (a : Arg). a.global) c.value_name.ensures ∙ c.new.ensures.optional.1)))
