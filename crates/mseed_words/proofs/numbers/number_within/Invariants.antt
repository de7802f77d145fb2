use Rattle.std.proofs.Common.{◌≡◌, ◌<◌, ◌^◌, true, take}
use Rattle.std.specs.List.{list_all}
use Rattle.mseed_words.specs.Numbers.{is_digit, value_of}
use Rattle.mseed_words.proofs.numbers.number_within.Given as goal

abbrev pub invariant-loop-digit : goal.invariant-loop-digit
invariant-loop-digit l = (list_all is_digit (take l.digit-index l.digits) ≡ true)
    × (l.number ≡ value_of (take l.digit-index l.digits))
    × (l.number < 10 ^ l.digit-index)
