use Rattle.std.proofs.Common.{ℕ, arith, get_or, inl, inr, ◌<◌}
use Rattle.mseed_steim.specs.private.Lanes.{words}
use Rattle.mseed_steim.proofs.LaneSums.{spelled}
use Rattle.mseed_steim.proofs.FrameRows.{rows_later, rows_first, rows_third}
use Rattle.mseed_steim.proofs.lanes.rows_of.Goals as goal

pub returns-clause-value : goal.returns-clause-value
unfolding words
returns-clause-value c = λ from begins.
    let f = c.args.frame.now in
    let small : (k : ℕ) → get_or f k 0 < 256 = c.fits-frame in
    rw (c.low-2.ensures.value, c.look_up-codes.ensures.value, c.low.ensures.value) (elim begins [
      | inl h ↦ rw (h.0, h.1, c.requires, spelled f (omega arith)) (rows_later f small)
      | inr (inl h) ↦ rw (h.0, h.1, c.requires, spelled f (omega arith)) (rows_first f small)
      | inr (inr h) ↦ rw (h.0, h.1, c.requires, spelled f (omega arith)) (rows_third f small)
    ])
