use Rattle.std.proofs.Common.{◌≤◌}
use Rattle.std.proofs.Common.{◌≡◌, ◌+◌, ◌^◌, ℕ, ℤ, List, rules, arith, sym, ap, ◌∙◌, length}
use Rattle.std.specs.Prelude.{slice_range}
use Rattle.mseed_record.specs.Fields.{header_of}
use Rattle.mseed_record.specs.Written.{header_bytes}
use Rattle.mseed_pack.specs.Traces.{headed}
use Rattle.mseed_pack.specs.Stretches.{differences, span_end}
use Rattle.mseed_pack.proofs.Differences.{length-differences}
use Rattle.std.proofs.lemmas.List.Edits.{length-between}
use Rattle.mseed_pack.proofs.Recorded.{header_first}
use Rattle.mseed_pack.proofs.Steps.{end_at}
use Rattle.mseed_pack.proofs.record.write_record.Goals as goal

pub fill-filled-requires-clause-left : goal.fill-filled-requires-clause-left
fill-filled-requires-clause-left g c =
    let on = c.requires.on.1 in (
      c.requires.on.0,
      (on.stands_there, record { some = c.requires.end; inside = omega (arith, on.standing.span.most, on.count) }),
    )

pub returns-clause-recorded : goal.returns-clause-recorded
returns-clause-recorded g c = λ xs on.
    let s = headed c.args.job.now.head.now xs in
    let span = c.args.place.span in
    let first = c.args.place.first in
    let filled = c.fill-filled.result in
    let most : span.end ≤ length xs = omega (arith, on.standing.span.most, on.count) in
    let within = c.fill-filled.ensures.taken.within in
    let done = c.fill-filled.ensures.filled xs on.stands_there (record { some = c.requires.end; inside = most }) in
    let mine : List ℤ = slice_range xs first (first + filled.samples) in
    let count : length mine ≡ filled.samples =
    omega (arith, length-between xs first (first + filled.samples) (omega (arith, within, most))) in
    let end : span_end s first ≡ span.end =
    rw on.count (end_at on.standing.span first on.standing.begun c.requires.end) in
    let left_long = length-between (differences xs) first span.end (omega (arith, most, length-differences xs)) in
    let size : length c.write_header.new.out ≡ length c.args.out.now = search rules in
    let parts = header_first (header_bytes (header_of c.fields_at-fields.result)) c.args.out.now
    c.fill-filled.new.payload c.write_header.new.out (omega (arith, c.requires.long)) (search rules) size
    c.in-Ok.ensures.bytes in
    let fields = c.fields_at-fields.ensures xs mine c.write_header.new.out on.count count in
    record {
      packed = record {
        some = omega (arith, count, c.fill-filled.ensures.taken.some);
        within = rw end (omega (arith, count, left_long, within));
        frames = filled.frames;
        header = header_of c.fields_at-fields.result;
        fields = fields;
        headed = record {
          octets = λ i. (c.type_inv.out i).fits;
          begins = parts.0;
          exponent_low = omega (arith, fields.exponent, c.args.job.now.options.now.long);
          exponent_high = omega (arith, fields.exponent, c.args.job.now.options.now.short);
          size = size ∙ c.requires.size ∙ ap (λ (n : ℕ). 2 ^ n) (sym fields.exponent);
        };
        payload = rw (parts.1, end) done.0;
      };
      stands_after = done.1;
    }
