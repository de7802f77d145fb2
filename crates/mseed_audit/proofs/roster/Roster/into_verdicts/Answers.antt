use Rattle.std.proofs.Common.{◌≡◌, ◌≤◌, ◌∙◌, List, ℕ, get_or, length, refl, sym, ap, arith, rules}
use Rattle.std.specs.Vec.{vec_capacity}
use Rattle.mseed_audit.specs.Audit.{verdict_of}
use Rattle.mseed_audit.specs.declared.channel.Channel.{Channel}
use Rattle.mseed_audit.proofs.Rosters.{all_made, making_begin, making_more}
use Rattle.mseed_audit.proofs.roster.Roster.into_verdicts.Goals as goal

pub loop-codes-init : goal.loop-codes-init
loop-codes-init g c =
    let many : length c.places.result.now.entries ≤ vec_capacity c.self.inside.verdicts =
    omega (arith, c.places.ensures.many, c.self.invariant.1) in
    making_begin verdict_of c.self.inside.channels c.args.self _ c.places.result.now.entries _ _ (search rules)
    c.places.ensures.places c.self.view_is c.self.invariant.0 many

pub loop-codes-preserved : goal.loop-codes-preserved
loop-codes-preserved g c =
    let e : List ℕ × Channel = c.index-as_slice-index.result in
    let at : e ≡ get_or c.args.self c.in-Some.index.now e = c.index-as_slice-index.is
    ∙ ap (λ (fs : List (List ℕ × Channel)). get_or fs c.in-Some.index.now e) (c.as_slice.ensures ∙ c.self.view_is) in
    let is : c.verdict.result ≡ verdict_of e.1 = c.verdict.ensures
    ∙ ap (λ (x : List ℕ × Channel). verdict_of x.1) (sym c.index-as_slice-index.is) in
    making_more verdict_of c.args.self _ c.in-Some.codes.now c.in-Some.index.now c.next.new.self
    e c.verdict.result c.loop-codes.verdicts.items c.push.new.self.items _ _
    (rw c.in-Some.ensures.steps at c.loop-codes.invariant) at is c.in-Ok.ensures.items
    c.in-Ok.ensures.capacity

pub returns : goal.returns
returns g c =
    let all = all_made verdict_of c.args.self c.args.self _ _ c.places.result.now.entries
    c.loop-codes.verdicts.items _ c.loop-codes.invariant c.in-None.ensures.steps.0 (search rules)
    (rw c.self.view_is at c.places.ensures.places) c.places.ensures.ascending refl in
    record { ascending = all.ascending; each = all.each }

pub bounds-as_slice-index : goal.bounds-as_slice-index
bounds-as_slice-index g c =
    let inv = rw c.in-Some.ensures.steps at c.loop-codes.invariant in
    rw (c.as_slice.ensures ∙ c.self.view_is) (inv.within 0 0 (omega arith))
