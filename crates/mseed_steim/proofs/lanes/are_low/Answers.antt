use Rattle.std.proofs.Common.{◌≡◌, ◌∙◌, ◌<◌, ap, map, ℕ, List, get_or, length, refl, rules, subst, w8}
use Rattle.std.proofs.lemmas.Bool.{OnTrue_from, eqb-true}
use borrow.Rule.Simd.Lanes.{act2}
use borrow.Table.Row.{s_int}
use mir.Syntax.{mask, le, unsigned}
use Rattle.mseed_steim.specs.private.Lanes.{words}
use Rattle.mseed_steim.proofs.LaneDigits.{at_word}
use Rattle.mseed_steim.proofs.LaneSums.{table_words}
use Rattle.mseed_steim.proofs.LaneTables.{all_low, length_of_table}
use Rattle.mseed_steim.proofs.lanes.are_low.Goals as goal

-- what the lanes are compared by
abbrev is_most : ℕ → ℕ → ℕ
is_most = act2 (mask (le unsigned)) (s_int w8) (s_int w8) (s_int w8)

pub returns : goal.returns
returns c = OnTrue_from _ _ (λ e.
    let counts : List ℕ = c.look_up.result in
    let long = ap length c.look_up.ensures.value
    ∙ length_of_table (λ r. get_or c.args.table r 0) c.args.rows c.fits-rows.0 in
    let sixteen : length c.args.table ≡ 16 = search rules in
    let few = c.look_up.ensures.below 129 sixteen c.requires.few in
    let low : (row : ℕ → ℕ) → c.args.rows ≡ map row words → (word : ℕ) → word < 16
    → get_or c.args.table (row word) 0 < 128 = λ row rows word less.
    let at = ap (λ (xs : List ℕ). get_or xs word 0)
    (table_words counts c.args.rows c.args.table row words c.look_up.ensures.value rows)
    ∙ at_word (λ w. get_or c.args.table (row w) 0) word less in
    subst (λ n. n < 128) at (all_low is_most counts long few refl (eqb-true _ _ e) word less) in
    low)
