use Rattle.std.proofs.Common.{◌∙◌, ap, true}
use Rattle.clap.specs.Simple.{new_app, on_top}
use Rattle.mseed_words.proofs.options.bare_command.Goals as goal

pub returns : goal.returns
returns c =
    rw (c.no_binary_name.ensures, c.after_help.ensures, c.override_usage.ensures, c.about-2.ensures)
    (ap (on_top (λ s. record s { no_binary_name = true }))
    (c.new.ensures.app ∙ ap new_app c.title_of.ensures))
