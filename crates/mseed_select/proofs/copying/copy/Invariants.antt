use Rattle.std.proofs.Common.{◌≡◌, ◌≤◌, ◌+◌, ◌-◌, ◌^◌, List, length}
use Rattle.mseed_record.specs.View.{View}
use Rattle.mseed_stream.specs.Cutting.{GivesMore, IsAlong}
use Rattle.mseed_stream.specs.Walk.{HasHandedOut}
use Rattle.mseed_stream.specs.declared.whole.TheConstants.{GATHERED}
use Rattle.mseed_select.specs.Counting.{counts_of}
use Rattle.mseed_select.specs.private.Copying.{IsHeld}
use Rattle.mseed_select.proofs.copying.copy.Given as goal

abbrev pub invariant-records : goal.invariant-records
invariant-records g l = record {
  along : IsAlong (g.R.Source.read l.input) l.cutter;
  copied : (views : List View) × (HasHandedOut (g.R.Source.read l.input) l.cutter views
      × IsHeld (g.F.Format.texts l.fn.format) (g.C.Choice.selection l.fn.choice) (g.W.Sink.written l.fn.output)
      (g.W.Sink.written l.output) l.text.items views
      × (l.counts ≡ counts_of (g.C.Choice.selection l.fn.choice) views));
  more : GivesMore (g.R.Source.read l.fn.input) (g.R.Source.read l.input) (g.R.Source.remaining l.fn.input)
      (g.R.Source.remaining l.input);
  beside : g.R.Source.beside l.input ≡ g.R.Source.beside l.fn.input;
  few : length l.text.items ≤ GATHERED;
}

abbrev pub decreases-records : goal.decreases-records
decreases-records g l = 2 ^ 40 + 1 - (g.R.Source.read l.input).calls
