use Rattle.std.proofs.Common.{◌+◌, get_or, refl, arith}
use Rattle.mseed_steim.specs.private.Lanes.{words}
use Rattle.mseed_steim.proofs.LaneSums.{spelled}
use Rattle.mseed_steim.proofs.unpack.words_of.Goals as goal

pub returns : goal.returns
unfolding words
returns c =
    let f = c.args.frame.now in
    let a = c.four_words-a.ensures (λ i. get_or f (0 + i) 0) (λ i. c.fits-frame (0 + i))
    (rw (spelled f (omega arith)) refl) in
    let b = c.four_words-b.ensures (λ i. get_or f (16 + i) 0) (λ i. c.fits-frame (16 + i))
    (rw (spelled f (omega arith)) refl) in
    let d = c.four_words-c.ensures (λ i. get_or f (32 + i) 0) (λ i. c.fits-frame (32 + i))
    (rw (spelled f (omega arith)) refl) in
    let e = c.four_words-d.ensures (λ i. get_or f (48 + i) 0) (λ i. c.fits-frame (48 + i))
    (rw (spelled f (omega arith)) refl) in
    rw (a, b, d, e) refl
