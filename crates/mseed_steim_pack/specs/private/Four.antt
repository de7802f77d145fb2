-- Three or four words that are known ahead, one after another.
use Rattle.std.specs.Prelude.{◌≡◌, ℕ, ℤ, ◌+◌, ◌%◌, ◌^◌, List, drop}
use Rattle.std.specs.Simd.Lanes.{sum_l}
use Rattle.mseed_steim.specs.declared.scheme.Scheme.{Scheme}
use Rattle.mseed_steim_pack.specs.declared.ahead.Lookahead.{Lookahead}
use Rattle.mseed_steim_pack.specs.declared.four.FourWords.{FourWords}
use Rattle.mseed_steim_pack.specs.declared.four.Parts.{Parts}
use Rattle.mseed_steim_pack.specs.declared.four.ThreeWords.{ThreeWords}
use Rattle.mseed_steim_pack.specs.Packing.{IsFullest}

-- what is known, from another place on
abbrev pub known_from : Lookahead → ℕ → Lookahead
known_from known place = record { most = known.most; cut = known.cut; place = place }

-- words by what their pairs count for
abbrev pub three_of : Parts → Parts → Parts → ThreeWords
three_of a b c = record {
  first = (a.code, sum_l a.pairs % 2 ^ 32, a.count);
  second = (b.code, sum_l b.pairs % 2 ^ 32, b.count);
  third = (c.code, sum_l c.pairs % 2 ^ 32, c.count);
  count = a.count + b.count + c.count;
}

abbrev pub four_of : Parts → Parts → Parts → Parts → FourWords
four_of a b c d = record {
  three = three_of a b c;
  fourth = (d.code, sum_l d.pairs % 2 ^ 32, d.count);
  count = a.count + b.count + c.count + d.count;
}

-- each in turn takes the largest number of the differences that are left
pub record AreThree (scheme : Scheme) (ds : List ℤ) (three : ThreeWords) : Type 0 where
  pub first : IsFullest scheme ds three.first.0 three.first.1 three.first.2
  pub second : IsFullest scheme (drop three.first.2 ds) three.second.0 three.second.1 three.second.2
  pub third : IsFullest scheme (drop (three.first.2 + three.second.2) ds) three.third.0 three.third.1 three.third.2
  pub count : three.count ≡ three.first.2 + three.second.2 + three.third.2

pub record AreFour (scheme : Scheme) (ds : List ℤ) (four : FourWords) : Type 0 where
  pub three : AreThree scheme ds four.three
  pub fourth : IsFullest scheme (drop four.three.count ds) four.fourth.0 four.fourth.1 four.fourth.2
  pub count : four.count ≡ four.three.count + four.fourth.2
