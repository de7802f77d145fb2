use Rattle.std.proofs.Common.{◌≤◌, arith, length, refl, rules, take, true, sym}
use Rattle.std.proofs.lemmas.Bool.{false≢true}
use Rattle.slink_live.specs.Turns.{finds_wrong, reads, stays, too_often}
use Rattle.slink_live.specs.declared.intake.TheConstants.{INPUT}
use Rattle.slink_live.proofs.Steps.{few_records}
use Rattle.slink_live.specs.Happening.{Input}
use Rattle.slink_live.proofs.Slots.{goes_one, keeps_both}
use Rattle.slink_live.proofs.Updating.{awake_then}
use Rattle.slink_live.proofs.Steps.{answers_links}
use Rattle.slink_live.proofs.Takings.{no_further, taken_awake, taken_err, taken_off, taken_on, taken_sound}
use Rattle.slink_live.proofs.Updating.{awake_same}
use Rattle.slink_live.proofs.server.Server.on_input.Goals as goal

pub take-requires : goal.take-requires
take-requires g c =
    let sound = rw (← c.self.view_is) at c.requires in
    record {
      short = sound.short c.if-self.false;
      begins = sound.begins c.if-self.false;
      size = search (rules, arith);
      below = λ k w there. omega (arith, sound.below k w there, sound.few_reads);
      few = few_records c.self.view_is c.requires;
    }

pub update_those-requires : goal.update_those-requires
update_those-requires g c =
    let most : length (take c.read_input-count.result c.read_input-count.new.buf) ≤ INPUT = search (rules, arith) in
    taken_sound _ c.if-self.false (rw (← c.self.view_is) at c.requires) c.in-Ok.ensures.ok c.self.inside.has_ended most
    c.if-self-eq-TURNS.false (λ e. (c.in-Ok.ensures.short, c.in-Ok.ensures.begins))

pub end-requires : goal.end-requires
end-requires g c =
    let most : length (take c.read_input-count.result c.read_input-count.new.buf) ≤ INPUT = search (rules, arith) in
    taken_sound _ c.if-self.false (rw (← c.self.view_is) at c.requires) c.in-Err.ensures.err.cuts true most
    c.if-self-eq-TURNS.false (λ e. absurd (false≢true (sym e)))

pub returns-in-Ok : goal.returns-in-Ok
returns-in-Ok g c =
    let sound = rw (← c.self.view_is) at c.requires in
    let cuts = c.in-Ok.ensures.ok in
    let short = c.in-Ok.ensures.short in
    let update = rw c.read_input-count.ensures.log at c.update_those.ensures in
    let most : length (take c.read_input-count.result c.read_input-count.new.buf) ≤ 4096 = search (rules, arith) in
    rw (← c.self.view_is) (record {
      answers = answers_links (keeps_both (taken_on _ c.if-self.false sound cuts short) update.keeps);
      called = reads _ _ cuts.records c.if-self.false (omega (arith, c.if-self-eq-TURNS.false, sound.few_reads)) most
          (record {
            joined = cuts.joined;
            each = cuts.each;
            no_further = no_further _ c.if-self.false sound cuts short;
          }) c.in-Ok.ensures.begins update.closes;
      keeps_awake = taken_awake _ c.if-self.false sound cuts short _ _ _ c.in-Ok.places c.in-Ok.ensures.others
          update.keeps_awake;
    })

pub returns-in-Err : goal.returns-in-Err
returns-in-Err g c =
    let sound = rw (← c.self.view_is) at c.requires in
    let off = c.in-Err.ensures.err in
    let end = rw c.read_input-count.ensures.log at c.end.ensures in
    let most : length (take c.read_input-count.result c.read_input-count.new.buf) ≤ 4096 = search (rules, arith) in
    rw (← c.self.view_is) (record {
      answers = taken_err _ c.if-self.false sound off _ _ _ end.keeps;
      called = finds_wrong _ off.rest off.cuts.records c.in-Err.fault c.if-self.false
          (omega (arith, c.if-self-eq-TURNS.false, sound.few_reads)) most
          (record { joined = off.cuts.joined; each = off.cuts.each; no_further = off.no_further })
          (rw off.cuts.counted at off.is_fault) off.of_bytes end.leaves;
      keeps_awake = awake_then (taken_off _ c.if-self.false sound off).serving (λ a. tt)
          (λ start v a. goes_one (Input _) tt) (λ a. end.keeps_awake);
    })

pub returns-then-self-eq-TURNS-clause-called : goal.returns-then-self-eq-TURNS-clause-called
returns-then-self-eq-TURNS-clause-called g c = rw (c.give_up.ensures.fault, ← c.self.view_is)
    (too_often c.if-self.false c.if-self-eq-TURNS.true c.give_up.ensures.leaves)

pub returns-then-self-clause-called : goal.returns-then-self-clause-called
returns-then-self-clause-called g c = rw (← c.self.view_is) (stays c.if-self.true refl)

pub returns-then-self-clause-keeps_awake : goal.returns-then-self-clause-keeps_awake
returns-then-self-clause-keeps_awake g c = awake_same
