use Rattle.std.proofs.Common.{List, ℕ, sym, subst, ap, ◌∙◌, ◌/◌, length}
use Rattle.std.specs.Simd.{first_chunks}
use Rattle.mseed_pack.specs.Packing.{IsPacking}
use Rattle.mseed_pack.specs.ReadBack.{ReadsAs}
use Rattle.slink_model.proofs.Relayed.{cut_out, relayed}
use Rattle.slink_model.proofs.relaying.relay.Goals as goal

pub send-requires-clause-reads : goal.send-requires-clause-reads
send-requires-clause-reads c =
    let packed = c.in_ok-packed.ensures.ok in
    let chunks = c.as_chunks.ensures.front ∙ ap (λ (bytes : List ℕ). first_chunks 512 (length bytes / 512) bytes)
    c.deref.ensures.value in
    subst (ReadsAs c.args.series.now)
    (sym (cut_out c.one_length.ensures _ _ _ _ c.requires.exponent packed chunks)) packed.reads

pub returns : goal.returns
returns c =
    let packed = c.in_ok-packed.ensures.ok in
    let chunks = c.as_chunks.ensures.front ∙ ap (λ (bytes : List ℕ). first_chunks 512 (length bytes / 512) bytes)
    c.deref.ensures.value in
    let same = cut_out c.one_length.ensures _ _ _ _ c.requires.exponent packed chunks in
    relayed _ _ _ _ _ _ packed.fits (subst (IsPacking c.args.series.now c.args.options.now) (sym same) packed.packing)
    c.send.ensures.ok c.send.ensures.err
