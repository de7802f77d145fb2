use Rattle.std.proofs.Common.{◌≡◌, ◌+◌, ◌<◌, List, drop, get_or, length, map, ℕ}
use Rattle.std.proofs.lemmas.List.{drop_all, drop_more}
use Rattle.clap.specs.Simple.{App, with_rule}
use Rattle.clap.specs.Walk.{Rule}
use Rattle.mseed_words.specs.declared.options.Named.{Named}
use Rattle.mseed_words.specs.Options.{with_rules}
use Rattle.mseed_words.specs.private.Named.{rule_named}
use Rattle.mseed_words.proofs.options.with_all.Goals as goal

-- the next argument is added, and those behind it are left
one_more : (all : List Named) (k : ℕ) (d : Named) (old new end : App) (rule : Rule) → k < length all
    → new ≡ with_rule old rule → rule ≡ rule_named (get_or all k d)
    → with_rules old (map rule_named (drop k all)) ≡ end
    → with_rules new (map rule_named (drop (k + 1) all)) ≡ end
one_more all k d old new end rule lt added named before =
    rw (added, named) (rw (drop_more all k d lt) at before)

pub loop-named-preserved : goal.loop-named-preserved
loop-named-preserved c =
    one_more _ _ _ _ _ _ _ c.loop-named-test.true (c.in_ok-command.ensures.shape c.argument.ensures.global)
    c.argument.ensures.rule c.loop-named.invariant

pub returns : goal.returns
returns c = rw (drop_all c.loop-named.named-index c.args.all.now c.loop-named-test.false) at c.loop-named.invariant
