use Rattle.std.proofs.Common.{◌≡◌, ◌∙◌, append_assoc, codes, of_z, rules, to_z, w32, w64}
use Rattle.std.proofs.lemmas.Int.{to_z-of_z}
use Rattle.mseed_repack.specs.Misfits.{outside_text, sample_bits}
use Rattle.mseed_repack.proofs.misfit.put_large_sample.Goals as goal

pub returns : goal.returns
returns c =
    let narrow : to_z w32 (of_z w32 c.args.sample) ≡ c.args.sample = to_z-of_z w32 c.args.sample c.ranges.sample in
    let value : c.from.result ≡ c.args.sample = cc (c.from.ensures, narrow) in
    let same = to_z-of_z w64 c.from.result (search rules) ∙ value in
    let put = rw (c.put.ensures.text, c.sample_bits.ensures.value, same) at c.put_outside.ensures in
    put ∙ append_assoc c.args.line.now (codes "mseed: sample ")
    (outside_text c.args.encoding (sample_bits c.args.encoding)
    c.args.index c.args.sample)
