-- How the words of a row are unpacked: the tables hold the powers.
use Rattle.std.proofs.Common.{ℕ, ◌-◌, ◌*◌, ◌^◌, ◌<◌, List, get_or, arith, Bool, T, ◌&&◌, ◌||◌, not, eqb, ltb}
use Rattle.std.proofs.Common.{eqb→eq}
use mir.ValLaws.{and_both}
use Rattle.std.proofs.lemmas.Bool.Decides.{nat_tests}
use Rattle.mseed_steim.specs.declared.unpack.Unpacking.{Unpacking}
use Rattle.mseed_steim.specs.declared.unpack.TheConstants.{ROWS_ONE, ROWS_TWO}
use Rattle.mseed_steim.specs.private.Lanes.{all_counts_one, all_counts_two, all_widths_one, all_widths_two}
use Rattle.mseed_steim.specs.private.Unpacked.{Unpacks}
use Rattle.mseed_steim.proofs.Below.{all_below, every_below}

-- a test of a row's numbers, and of its powers
abbrev is_one : ℕ → ℕ → Unpacking → Bool
is_one count width by =
    eqb by.count count && (ltb (width * count) 33 && (eqb count 0 || (eqb by.fall (32 - width) && ltb 0 width)))

abbrev has_powers : ℕ → ℕ → Unpacking → Bool
has_powers count width by = all_below (λ i. eqb (get_or by.lifts i 0) (2 ^ (32 - width * (count - i)))) count

tested : (count width : ℕ) (by : Unpacking) → T (is_one count width by) → T (has_powers count width by)
    → Unpacks count width by
tested count width by one powers = record {
  as_many = grind (arith, nat_tests);
  fits = grind (arith, nat_tests);
  fall = λ some. grind (arith, nat_tests);
  positive = λ some. grind (arith, nat_tests);
  lifts = λ i less. eqb→eq _ _ (every_below _ count powers i less);
}

-- so it is of each row that isn't bad
abbrev is_row : List ℕ → List ℕ → List Unpacking → Unpacking → ℕ → Bool
is_row counts widths table none r =
    not (ltb (get_or counts r 0) 128) || (is_one (get_or counts r 0) (get_or widths r 0) (get_or table r none)
    && has_powers (get_or counts r 0) (get_or widths r 0) (get_or table r none))

abbrev InTable : List ℕ → List ℕ → List Unpacking → Unpacking → ℕ → Type 0
InTable counts widths table none r =
    get_or counts r 0 < 128 → Unpacks (get_or counts r 0) (get_or widths r 0) (get_or table r none)

of_test : (counts widths : List ℕ) (table : List Unpacking) (none : Unpacking) (r : ℕ)
    → T (is_row counts widths table none r) → InTable counts widths table none r
of_test counts widths table none r h few =
    let both : T (is_one (get_or counts r 0) (get_or widths r 0) (get_or table r none)
    && has_powers (get_or counts r 0) (get_or widths r 0) (get_or table r none)) = grind (arith, nat_tests) in
    let each = and_both _ _ both in
    tested (get_or counts r 0) (get_or widths r 0) (get_or table r none) each.0 each.1

pub rows_two : (none : Unpacking) (r : ℕ) → r < 16 → InTable all_counts_two all_widths_two ROWS_TWO none r
unfolding all_counts_two all_widths_two
rows_two none r less =
    of_test all_counts_two all_widths_two ROWS_TWO none r
    (every_below (is_row all_counts_two all_widths_two ROWS_TWO none) 16 tt r less)

pub rows_one : (none : Unpacking) (r : ℕ) → r < 16 → InTable all_counts_one all_widths_one ROWS_ONE none r
unfolding all_counts_one all_widths_one
rows_one none r less =
    of_test all_counts_one all_widths_one ROWS_ONE none r
    (every_below (is_row all_counts_one all_widths_one ROWS_ONE none) 16 tt r less)
