use Rattle.std.proofs.Common.{◌≡◌, refl, ◌++◌, ◌∷◌, [], ℕ, List, length, take, drop, ap}
use Rattle.std.proofs.Common.{arith, rules, length-append}
use Rattle.mseed_record.specs.declared.view.RecordView.{RecordView}
use Rattle.mseed_record.specs.Viewing.{view_of}
use Rattle.mseed_record.specs.View.{IsView}
use Rattle.std.proofs.ByRecursion.{All-push}
use Rattle.std.proofs.lemmas.List.{take_rest}
use Rattle.mseed_stream.specs.Split.{bytes_of_each}
use Rattle.mseed_stream.proofs.Splits.{split_fault, split_more, size_of_each}
use Rattle.mseed_stream.proofs.Records.{prefix_within}
use Rattle.std.proofs.Common.{length-drop}
use Rattle.mseed_stream.proofs.slices.split_in.Goals as goal

pub returns-in-Err-clause-fault : goal.returns-in-Err-clause-fault
returns-in-Err-clause-fault g c =
    let few = size_of_each c.loop-offset.records.items _ refl in
    rw c.fault_at.ensures (split_fault _ _ _ c.in-Err.fault c.loop-offset-test.true c.loop-offset.invariant.records
    (omega (arith, c.loop-offset.invariant.few, few)) (rw take_rest at c.in-Err.ensures.decides))

pub returns-then-len-eq-MOST-clause-fault : goal.returns-then-len-eq-MOST-clause-fault
returns-then-len-eq-MOST-clause-fault g c =
    let views : List RecordView = c.loop-offset.records.items in
    let size =
    size_of_each views c.len.result (omega (arith, c.loop-offset.records.ok, c.len.ensures)) in
    let there = rw take_rest at (c.in-Ok.ensures.ok.0 refl) in
    (bytes_of_each views, record { before = c.loop-offset.invariant.records; further = there }, omega arith)

pub loop-offset-preserved : goal.loop-offset-preserved
loop-offset-preserved g c =
    let inv = c.loop-offset.invariant in
    let bytes : List ℕ = c.args.bytes.now in
    let views : List RecordView = c.loop-offset.records.items in
    let r : RecordView = c.in-Ok.record in
    let b : List ℕ = (view_of r).bytes in
    let items : c.push.new.self.items ≡ views ++ r ∷ [] = search rules in
    let prefix : b ≡ take (length b) (drop c.loop-offset.offset bytes) =
    rw take_rest at c.in-Ok.ensures.prefix in
    let size : length c.bytes.result.now ≡ length b =
    ap (λ (xs : List ℕ). length xs) c.bytes.ensures.value in
    let count : length views ≡ c.len.result = omega (arith, c.loop-offset.records.ok, c.len.ensures) in
    let other = c.if-len-eq-MOST.false in
    record {
      records = rw (items, size) (split_more bytes _ views r inv.records c.in-Ok.ensures.view prefix);
      views = rw items (All-push (λ (v : RecordView). IsView (view_of v)) views r inv.views c.in-Ok.ensures.view);
      few = rw items (omega (arith, inv.few, length-append views (r ∷ [])));
      within = omega (arith, size, prefix_within _ b prefix, length-drop {A = ℕ}, c.loop-offset-test.true);
    }

pub returns-then-is_err-clause-fault : goal.returns-then-is_err-clause-fault
returns-then-is_err-clause-fault g c =
    let there = rw take_rest at (c.in-Ok.ensures.ok.0 refl) in
    let views = bytes_of_each c.loop-offset.records.items in
    (_, (views, record { before = c.loop-offset.invariant.records; further = there }))
