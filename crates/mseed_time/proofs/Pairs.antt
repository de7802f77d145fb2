-- An instant's text by pairs of digits.
use Rattle.std.proofs.Common.{◌≡◌, ℕ, ◌/◌, ◌%◌, ◌++◌, ◌∷◌, [], List, get_or, arith}
use Rattle.std.specs.Prelude.{codes}
use Rattle.mseed_time.specs.Text.{padded_decimal, clock_text}

pub pairs_text : (y m d t : ℕ) (century year month day hour minute second high middle low : List ℕ)
    → century ≡ padded_decimal 2 (y / 100) → year ≡ padded_decimal 2 (y % 100) → month ≡ padded_decimal 2 m
    → day ≡ padded_decimal 2 d → hour ≡ padded_decimal 2 (t / 1_000_000 / 3600)
    → minute ≡ padded_decimal 2 (t / 1_000_000 / 60 % 60) → second ≡ padded_decimal 2 (t / 1_000_000 % 60)
    → high ≡ padded_decimal 2 (t % 1_000_000 / 10_000) → middle ≡ padded_decimal 2 (t % 1_000_000 / 100 % 100)
    → low ≡ padded_decimal 2 (t % 1_000_000 % 100)
    → get_or century 0 0 ∷ get_or century 1 0 ∷ get_or year 0 0 ∷ get_or year 1 0 ∷ 45 ∷ get_or month 0 0
    ∷ get_or month 1 0 ∷ 45 ∷ get_or day 0 0 ∷ get_or day 1 0 ∷ 84 ∷ get_or hour 0 0 ∷ get_or hour 1 0 ∷ 58
    ∷ get_or minute 0 0 ∷ get_or minute 1 0 ∷ 58 ∷ get_or second 0 0 ∷ get_or second 1 0 ∷ 46 ∷ get_or high 0 0
    ∷ get_or high 1 0 ∷ get_or middle 0 0 ∷ get_or middle 1 0 ∷ get_or low 0 0 ∷ get_or low 1 0 ∷ []
    ≡ padded_decimal 4 y ++ codes "-" ++ padded_decimal 2 m ++ codes "-" ++ padded_decimal 2 d ++ codes "T"
    ++ clock_text t
pairs_text y m d t century year month day hour minute second high middle low e1 e2 e3 e4 e5 e6 e7 e8 e9 e10 =
    let n : ℕ = t % 1_000_000 in
    let thousands : y / 100 / 10 % 10 ≡ y / 1000 % 10 = omega arith in
    let hundreds : y / 100 / 1 % 10 ≡ y / 100 % 10 = omega arith in
    let tens : y % 100 / 10 % 10 ≡ y / 10 % 10 = omega arith in
    let ones : y % 100 / 1 % 10 ≡ y / 1 % 10 = omega arith in
    let hours : t / 1_000_000 / 3600 ≡ t / 3_600_000_000 = omega arith in
    let minutes : t / 1_000_000 / 60 ≡ t / 60_000_000 = omega arith in
    let sixth : n / 10_000 / 10 % 10 ≡ n / 100_000 % 10 = omega arith in
    let fifth : n / 10_000 / 1 % 10 ≡ n / 10_000 % 10 = omega arith in
    let fourth : n / 100 % 100 / 10 % 10 ≡ n / 1000 % 10 = omega arith in
    let third : n / 100 % 100 / 1 % 10 ≡ n / 100 % 10 = omega arith in
    let second_last : n % 100 / 10 % 10 ≡ n / 10 % 10 = omega arith in
    let last : n % 100 / 1 % 10 ≡ n / 1 % 10 = omega arith in
    rw (e1, e2, e3, e4, e5, e6, e7, e8, e9, e10) (cc (
      thousands,
      hundreds,
      tens,
      ones,
      hours,
      minutes,
      sixth,
      fifth,
      fourth,
      third,
      second_last,
      last,
    ))
