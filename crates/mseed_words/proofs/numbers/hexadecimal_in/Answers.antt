use Rattle.std.proofs.Common.{◌≡◌, ◌≤◌, ◌∙◌, sym, arith, List, ℕ, length, true}
use Rattle.std.proofs.lemmas.Grind.{common_steps}
use Rattle.std.specs.List.{list_all}
use Rattle.std.specs.Char.{is_ascii_hexdigit}
use Rattle.mseed_words.proofs.Digits.{hex_is, hex_parsed, hex_small}
use Rattle.mseed_words.proofs.numbers.hexadecimal_in.Goals as goal

pub returns : goal.returns
returns c =
    let text : List ℕ = c.args.text.now in
    let some : 1 ≤ length text = grind (arith, common_steps) in
    let short : length text ≤ 6 = grind (arith, common_steps) in
    let all : list_all is_ascii_hexdigit text ≡ true =
    rw (c.are_hexadecimal.ensures, c.as_bytes.ensures.value) at c.if-not-are_hexadecimal.false in
    let parsed = c.ok.ensures.value ∙ hex_parsed text c.from_str_radix.result some short all
    c.from_str_radix.ensures.value in
    record {
      value = parsed ∙ sym (hex_is text some short all);
      range = rw parsed (hex_small text short all);
    }
