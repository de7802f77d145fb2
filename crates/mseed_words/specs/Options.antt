-- The commands as `clap` reads them: each is a simple command of its own, whose entries are a function of the words
-- behind its name, and what stands first on a command line where no command does.
use Rattle.std.specs.Prelude.{pos, true, List, [], ◌∷◌, Some, codes}
use Rattle.clap.specs.Walk.{Rule, Text}
use Rattle.clap.specs.Simple.{App, new_app, new_rule, on_top, with_rule}
use Rattle.clap.specs.declared.builder.action.ArgAction.TheVariants.{Append, SetTrue}
use Rattle.clap.specs.declared.builder.value_parser.ValueParser.{ValueParser}
use Rattle.clap.specs.declared.builder.value_parser.ValueParser.TheVariants.{Signed}
use Rattle.mseed_words.specs.declared.command_name.CommandName.{CommandName}
use Rattle.mseed_words.specs.declared.command_name.CommandName.TheVariants.{Audit, Join, Show, Select, Repack}
use Rattle.mseed_words.specs.declared.command_name.CommandName.TheVariants.{Serve, Fetch}

-- `--name VALUE`
abbrev pub option_rule : Text → Rule
option_rule name = record (new_rule name) { long = Some name; value_names = 1 }

-- `--name NUMBER`
abbrev pub number_rule : Text → ValueParser → Rule
number_rule name numbers = record (option_rule name) { parser = Some numbers }

-- `--name`
abbrev pub flag_rule : Text → Rule
flag_rule name = record (new_rule name) { long = Some name; action = Some SetTrue }

-- one that the command can't do without
abbrev pub needed : Rule → Rule
needed rule = record rule { required = true }

-- files or further places, for which the help has another name
abbrev pub places_rule : Rule
places_rule = record (new_rule (codes "place")) { action = Some Append; value_names = 1 }

-- which records are asked for
abbrev pub selecting_rules : List Rule
selecting_rules = option_rule (codes "channels") ∷ option_rule (codes "from") ∷ option_rule (codes "until") ∷ []

-- where a feed leads, and of which station
abbrev pub feed_rules : List Rule → List Rule
feed_rules further =
    needed (number_rule (codes "port") (Signed (pos 1) (pos 65535))) ∷ needed (option_rule (codes "station"))
    ∷ needed (option_rule (codes "network")) ∷ option_rule (codes "address") ∷ option_rule (codes "timeout") ∷ further

-- the options of each command, in the order of its help
abbrev pub option_rules : CommandName → List Rule
option_rules Audit = flag_rule (codes "each") ∷ flag_rule (codes "part") ∷ selecting_rules
option_rules Join =
    flag_rule (codes "each") ∷ flag_rule (codes "part") ∷ flag_rule (codes "past-faults")
    ∷ option_rule (codes "expect") ∷ []
option_rules Show = selecting_rules
option_rules Select = selecting_rules
option_rules Repack =
    option_rule (codes "length") ∷ option_rule (codes "encoding") ∷ flag_rule (codes "stretches")
    ∷ flag_rule (codes "leave") ∷ selecting_rules
option_rules Serve = feed_rules
    (option_rule (codes "capacity") ∷ option_rule (codes "first")
    ∷ number_rule (codes "connections") (Signed (pos 1) (pos 1000000)) ∷ flag_rule (codes "live")
    ∷ number_rule (codes "clients") (Signed (pos 1) (pos 1024)) ∷ [])
option_rules Fetch = feed_rules
    (option_rule (codes "from") ∷ number_rule (codes "tries") (Signed (pos 1) (pos 1000000))
    ∷ flag_rule (codes "tell-next") ∷ flag_rule (codes "holes") ∷ [])

-- as the help calls the command
abbrev pub title_of : CommandName → Text
title_of Audit = codes "mseed audit"
title_of Join = codes "mseed join"
title_of Show = codes "mseed show"
title_of Select = codes "mseed select"
title_of Repack = codes "mseed repack"
title_of Serve = codes "mseed serve"
title_of Fetch = codes "mseed fetch"

abbrev pub with_rules : App → List Rule → App
with_rules a [] = a
with_rules a (r ∷ rs) = with_rules (with_rule a r) rs

-- a command without places and options; its name isn't among the words behind it
abbrev pub bare_command : CommandName → App
bare_command name = on_top (λ s. record s { no_binary_name = true }) (new_app (title_of name))

-- with its places and its options
abbrev pub the_command : CommandName → App
the_command name = with_rules (with_rule (bare_command name) places_rule) (option_rules name)

-- the program without a command: it has its help, which it answers where no word is there, and its version
abbrev pub the_program : App
the_program = on_top (λ s. record s { has_version = true; no_binary_name = true; arg_required_else_help = true })
    (new_app (codes "mseed"))
