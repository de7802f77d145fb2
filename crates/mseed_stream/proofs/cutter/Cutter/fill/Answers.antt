use Rattle.std.proofs.Common.{◌≡◌, ◌+◌, ◌<◌, ◌^◌, ◌++◌, length, take, drop, List, ℕ, arith, slice_range, ap}
use Rattle.std.proofs.Common.{◌∙◌, length-take}
use Rattle.std.proofs.lemmas.Grind.{common_steps}
use Rattle.mseed_record.proofs.Reached.{framer_more}
use Rattle.mseed_stream.proofs.Calls.{reads_pull}
use Rattle.mseed_stream.proofs.Filled.{holds_pull, written_back, prefix_more}
use Rattle.std.proofs.Common.{Ok}
use Rattle.mseed_stream.specs.declared.device.Failed.{Failed}
use Rattle.mseed_stream.specs.private.Steps.{state_of}
use Rattle.mseed_stream.proofs.cutter.Cutter.fill.Goals as goal

pub loop-self-preserved : goal.loop-self-preserved
loop-self-preserved g c =
    let i = c.loop-self.self-inside in
    let inv = c.loop-self.invariant in
    let have : ℕ = i.have in
    let n : ℕ = c.in-Ok.n in
    let now : List ℕ = c.pull_between.new.held in
    let reported : List ℕ = take n (slice_range now have c.args.needed) in
    let all : List ℕ = take i.held.len (now ++ drop (length now) i.held.items) in
    let size : length now ≡ i.held.len = c.pull_between.auto.held ∙ c.deref_mut.ensures.len in
    let same : take have now ≡ take have i.held.items = c.in-Ok.ensures.before
    ∙ ap (λ (xs : List ℕ). take have xs) c.deref_mut.ensures.value in
    let prefix : take (have + n) all ≡ take have i.held.items ++ reported =
    ap (λ (xs : List ℕ). take (have + n) xs) (written_back now i.held.items i.held.len size)
    ∙ prefix_more i.held.items now have n c.args.needed same c.in-Ok.ensures.bound in
    let few : i.reads < 2 ^ 40 = omega (arith, inv.holds.read.few_reads, c.if-self-eq-READS.false) in
    record {
      holds = holds_pull {E = Failed} _ (state_of i) _ _ _ (Ok n) _ (take (have + n) all) inv.holds
          c.in-Ok.ensures.read few prefix (omega (arith, length-take (have + n) all, inv.fits, c.in-Ok.ensures.bound));
      reads = reads_pull {E = Failed} _ _ _ _ _ _ _ _ _ (Ok n) (slice_range now have c.args.needed) inv.reads.more
          inv.reads.beside c.in-Ok.ensures.read c.in-Ok.ensures.known (λ end. cc) (grind (arith, common_steps))
          c.in-Ok.ensures.beside;
      fits = inv.fits;
      within = c.in-Ok.ensures.bound;
      framer = rw (← prefix) at (framer_more i.framer (take have i.held.items) reported inv.framer);
      going_on = grind (arith, common_steps, c.in-Ok.ensures.read);
      failures = grind (arith, common_steps, c.in-Ok.ensures.read);
    }

pub invariant_of-self-in-Ok-eq0 : goal.invariant_of-self-in-Ok-eq0
invariant_of-self-in-Ok-eq0 g c = grind (arith, common_steps)

pub returns-in-Ok-eq0-clause-holds : goal.returns-in-Ok-eq0-clause-holds
returns-in-Ok-eq0-clause-holds g c = grind (arith, common_steps)

pub returns-in-Ok-eq0-clause-reads : goal.returns-in-Ok-eq0-clause-reads
returns-in-Ok-eq0-clause-reads g c = grind (arith, common_steps)

pub returns-in-Ok-eq0-clause-filled : goal.returns-in-Ok-eq0-clause-filled
returns-in-Ok-eq0-clause-filled g c = grind (arith, common_steps)

pub invariant_of-self-in-Err : goal.invariant_of-self-in-Err
invariant_of-self-in-Err g c = grind (arith, common_steps)

pub returns-in-Err-clause-holds : goal.returns-in-Err-clause-holds
returns-in-Err-clause-holds g c = grind (arith, common_steps)

pub returns-in-Err-clause-reads : goal.returns-in-Err-clause-reads
returns-in-Err-clause-reads g c = grind (arith, common_steps)

pub returns-in-Err-clause-filled : goal.returns-in-Err-clause-filled
returns-in-Err-clause-filled g c = grind (arith, common_steps)
