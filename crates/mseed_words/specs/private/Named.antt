-- What has a name on the command line: the name, what stands after it, and the rule of both.
use Rattle.std.specs.Prelude.{pos}
use Rattle.clap.specs.Walk.{Rule, Text}
use Rattle.clap.specs.declared.builder.value_parser.ValueParser.TheVariants.{Signed}
use Rattle.mseed_words.specs.Options.{flag_rule, number_rule, option_rule}
use Rattle.mseed_words.specs.declared.options.Kind.{Kind}
use Rattle.mseed_words.specs.declared.options.Kind.TheVariants as kind
use Rattle.mseed_words.specs.declared.options.Named.{Named}

-- `--name`, `--name VALUE` or `--name NUMBER`
abbrev pub rule_by : Kind → Text → Rule
rule_by kind.Flag name = flag_rule name
rule_by (kind.Text value) name = option_rule name
rule_by (kind.Number value most) name = number_rule name (Signed (pos 1) (pos most))

abbrev pub rule_named : Named → Rule
rule_named n = record (rule_by n.kind n.name.now) { required = n.is_needed }
