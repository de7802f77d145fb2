use Rattle.std.proofs.Common.{◌≡◌, ◌++◌, List, ℕ, length, drop, refl, ◌∙◌, rules}
use Rattle.mseed_time.specs.Parts.{parts_of}
use Rattle.mseed_record.specs.Fields.{header_of}
use Rattle.mseed_record.specs.Written.{name_bytes}
use Rattle.mseed_record.proofs.Puts.{Begins, put_next}
use Rattle.mseed_record.proofs.Headed.{length-name_bytes, reads_back, time_written}
use Rattle.mseed_record.proofs.write.write_header.Goals as goal

pub returns-clause-bytes : goal.returns-clause-bytes
returns-clause-bytes c =
    let old : List ℕ = c.args.out.now in
    let names : List ℕ = name_bytes (header_of c.args.fields.now) in
    let ten : length c.write.result ≡ 10 = search rules in
    let time = time_written (parts_of c.args.fields.now.start) c.write.result ten (search rules) c.write.ensures.fields
    c.write.ensures.unused in
    let counts = c.counts.ensures.bytes in
    let blockettes = c.blockettes.ensures.bytes in
    let one : Begins old c.put_names.new.out names 20 =
    record {
      bytes = c.put_names.ensures.bytes;
      size = length-name_bytes (header_of c.args.fields.now) c.put_names.ensures.key;
    } in
    let two = put_next old c.put_names.new.out c.put.new.out names c.write.result 20 30 (rw ten refl) one
    c.put.ensures in
    let three = put_next old c.put.new.out c.put-2.new.out _ c.counts.result 30 48 (rw counts refl) two
    c.put-2.ensures in
    let four = put_next old c.put-2.new.out c.put-3.new.out _ c.blockettes.result 48 64 (rw blockettes refl) three
    c.put-3.ensures in
    four.bytes ∙ (λ i. names ++ time i ++ counts i ++ blockettes i ++ drop 64 old)

pub returns-clause-reads_back : goal.returns-clause-reads_back
returns-clause-reads_back c b e = reads_back (header_of c.args.fields.now) b (record {
  key = c.put_names.ensures.key;
  time = c.args.fields.now.start.valid;
  samples = c.counts.ensures.samples;
  factor = c.counts.ensures.factor;
  multiplier = c.counts.ensures.multiplier;
  microseconds = c.blockettes.ensures.microseconds;
}) e
