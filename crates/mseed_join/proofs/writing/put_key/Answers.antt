use Rattle.std.proofs.Common.{◌<◌, length, rules, arith}
use Rattle.mseed_join.proofs.Keys.{key_pushed}
use Rattle.mseed_join.proofs.writing.put_key.Goals as goal

pub loop-byte-preserved : goal.loop-byte-preserved
loop-byte-preserved c =
    let within : c.loop-byte.byte-index < length c.args.key.now = search rules in
    record {
      text = key_pushed c.args.key.now c.loop-byte.byte-index _ c.hex_digit.result
          c.hex_digit-in-loop-byte.result c.args.line.now c.loop-byte.line c.put.new.self within c.hex_digit.ensures
          c.hex_digit-in-loop-byte.ensures c.loop-byte.invariant.text c.put.ensures.text;
      len = omega (arith, c.loop-byte.invariant.len, c.put.ensures.len);
    }
