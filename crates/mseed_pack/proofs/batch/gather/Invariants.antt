use Rattle.std.proofs.Common.{◌≡◌, ◌≤◌, ◌*◌, ◌-◌, ℤ, List, length, take, drop}
use Rattle.mseed_pack.specs.private.Spans.{CanGoOn, ComesTo, StandsAt}
use Rattle.mseed_pack.proofs.batch.gather.Given as goal

abbrev pub invariant-loop-out : goal.invariant-loop-out
invariant-loop-out g l = record {
  standing : StandsAt l.job.head.now.steps.now l.job.head.now.count l.next;
  to : (samples : List ℤ) → CanGoOn g.F.Filler.stands l.job l.fn.filler l.fn.supply l.fn.place samples
      → ComesTo g.F.Filler.stands l.job l.filler l.supply l.fn.place l.next (take l.bytes l.out) samples;
  within : l.bytes ≤ length l.out;
  order : l.fn.place.first ≤ l.next.first;
  some : l.bytes ≤ 4096 * (l.next.first - l.fn.place.first);
  beside : g.F.Filler.beside l.supply ≡ g.F.Filler.beside l.fn.supply;
  behind : drop l.bytes l.out ≡ drop l.bytes l.fn.out;
}

abbrev pub decreases-loop-out : goal.decreases-loop-out
decreases-loop-out g l = length l.out - l.bytes
