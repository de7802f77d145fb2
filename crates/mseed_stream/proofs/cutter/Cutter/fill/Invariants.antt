use Rattle.std.proofs.Common.{◌≡◌, ◌-◌, ◌≤◌, take, false, vec_len}
use Rattle.mseed_record.specs.Framer.{IsFramerOf}
use Rattle.mseed_stream.specs.Calls.{ReadsOn}
use Rattle.mseed_stream.specs.private.Steps.{HoldsMore, state_of}
use Rattle.mseed_stream.proofs.cutter.Cutter.fill.Given as goal

abbrev pub invariant-loop-self : goal.invariant-loop-self
invariant-loop-self g l = let c = l.self-inside in record {
  holds : HoldsMore l.fn.self (state_of c) (g.R.Source.read l.fn.source) (g.R.Source.read l.source);
  reads : ReadsOn (g.R.Source.read l.fn.source) (g.R.Source.read l.source) (g.R.Source.remaining l.fn.source)
      (g.R.Source.remaining l.source) (g.R.Source.beside l.fn.source) (g.R.Source.beside l.source);
  fits : l.needed ≤ vec_len c.held;
  within : c.have ≤ l.needed;
  framer : IsFramerOf c.framer (take c.have c.held.items);
  going_on : (g.R.Source.read l.source).is_at_end ≡ false;
  failures : (g.R.Source.read l.source).failures ≡ (g.R.Source.read l.fn.source).failures;
}

abbrev pub decreases-loop-self : goal.decreases-loop-self
decreases-loop-self g l = l.needed - l.self-inside.have
