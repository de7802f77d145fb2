use Rattle.std.proofs.Common.{◌≡◌, drop, map}
use Rattle.clap.specs.Simple.{app_of}
use Rattle.mseed_words.specs.Options.{with_rules}
use Rattle.mseed_words.specs.private.Named.{rule_named}
use Rattle.mseed_words.proofs.options.with_all.Given as goal

abbrev pub invariant-loop-named : goal.invariant-loop-named
invariant-loop-named l = with_rules (app_of l.command) (map rule_named (drop l.named-index l.all))
    ≡ with_rules (app_of l.fn.command) (map rule_named l.all)
