use Rattle.std.proofs.Common.{◌∙◌, sym}
use Rattle.mseed_record.specs.View.{View}
use Rattle.mseed_record.specs.Viewing.{view_of}
use Rattle.mseed_select.specs.Selecting.{selection_of}
use Rattle.mseed_record.specs.Selection.{Selection}
use Rattle.mseed_select.proofs.Asking.{asked_back, asked_yes, lacks_back, lacks_yes}
use Rattle.mseed_select.proofs.selector.Selector.asks_for.Goals as goal

pub returns-clause-asked : goal.returns-clause-asked
returns-clause-asked c =
    let s : Selection = selection_of c.args.self.now in
    let v : View = view_of c.args.view.now in
    (λ e. asked_yes s v (sym c.answer.ensures ∙ e), λ a. c.answer.ensures ∙ asked_back s v a)

pub returns-clause-lacks : goal.returns-clause-lacks
returns-clause-lacks c =
    let s : Selection = selection_of c.args.self.now in
    let v : View = view_of c.args.view.now in
    (λ e. lacks_yes s v (sym c.answer.ensures ∙ e), λ l. c.answer.ensures ∙ lacks_back s v l)
