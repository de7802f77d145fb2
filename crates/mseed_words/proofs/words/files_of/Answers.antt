use Rattle.std.proofs.Common.{◌≡◌, List, Ok, Err, Result, ap}
use Rattle.std.proofs.Common.{map, rules, sym, ◌∙◌}
use Rattle.std.specs.Borrow.{Bor}
use Rattle.clap.specs.Matches.{found_of}
use Rattle.clap.specs.Walk.{Row, Text, rows_of}
use Rattle.mseed_words.specs.Words.{given_of}
use Rattle.mseed_words.specs.declared.mistake.Mistake.{Mistake}
use Rattle.mseed_words.specs.declared.refusal.Refusal.{Refusal}
use Rattle.mseed_words.specs.declared.refusal.Refusal.TheVariants as refusal
use Rattle.mseed_words.specs.private.Refused.{IsMistakenAs, IsRefusedAs}
use Rattle.mseed_words.proofs.Further.{all_files, texts_of}
use Rattle.mseed_words.proofs.words.files_of.Goals as goal

-- something is wrong with the files
is_refused : (asked : Result (List Text) Mistake) (m : Mistake) (rows : List Row) (refusal : Refusal) → asked ≡ Err m
    → IsMistakenAs m rows refusal → IsRefusedAs asked rows refusal
is_refused asked m rows (refusal.Text text) is said = absurd said
is_refused asked m rows (refusal.NoRequest mistake given) is said =
    (is ∙ ap Err (sym said.0), said.1 ∙ ap (λ (k : Mistake). given_of k rows) (sym said.0))
is_refused asked m rows refusal.Memory is said = tt

pub returns-in-Some-clause-refused : goal.returns-in-Some-clause-refused
returns-in-Some-clause-refused c =
    let rows : List Row = rows_of (found_of c.args.matches.now) in
    is_refused _ _ rows c.mistaken.result (all_files c.args.request.now rows c.takes_files.result _
    (texts_of c.further_in-words.result) c.takes_files.ensures (search rules)
    c.further_in-words.ensures c.in-Some.ensures) c.mistaken.ensures

pub returns-in-Ok-clause-files : goal.returns-in-Ok-clause-files
returns-in-Ok-clause-files c =
    let rows : List Row = rows_of (found_of c.args.matches.now) in
    let items : c.extend_from_slice.new.self.items ≡ c.further_in-words.result.now = search rules in
    all_files c.args.request.now rows c.takes_files.result _ (texts_of c.further_in-words.result)
    c.takes_files.ensures (search rules) c.further_in-words.ensures c.in_default.ensures
    ∙ ap (λ (ws : List (Bor Text)). Ok (map (λ (w : Bor Text). w.now) ws)) (sym items)
