-- Differences that a window takes from a supply.
use Rattle.std.proofs.Common.{◌≡◌, ◌∙◌, ℕ, ◌+◌, ◌-◌, ◌<◌, ◌≤◌, List, ◌++◌, length, take, sym, arith}
use Rattle.std.proofs.Common.{inl, inr, ℤ, pos}
use borrow.Rule.Slice.PartMut.{put_mid, post_of}
use Rattle.std.proofs.lemmas.Bool.{cases_lt}
use Rattle.std.proofs.lemmas.List.{get_or_append_left, get_or-append_right, get_or-take, length-take-le}
use Rattle.mseed_pack.specs.declared.window.Window.{Window}
use Rattle.mseed_pack.specs.private.Filling.{HoldsDifferences}
use Rattle.mseed_pack.specs.Stretches.{differences}
use Rattle.mseed_pack.specs.Supplies.{IsNextGiven}
use Rattle.mseed_pack.proofs.Filled.{part_at}

-- they stand after those that it held
pub taken : (xs : List ℤ) (w : Window) (out : List ℤ) (count : ℕ) → HoldsDifferences xs w
    → length w.differences ≡ 7056 → length out ≡ 7056 - (w.end - w.first) → count ≤ length out
    → IsNextGiven xs w.end out count
    → HoldsDifferences xs (record {
      differences = put_mid (w.end - w.first) (7056 - (w.end - w.first)) w.differences out;
      first = w.first;
      end = w.end + count;
      marks = w.marks;
    })
taken xs w out count h long size fits next =
    let held = w.end - w.first in
    let rest = post_of held (7056 - held) w.differences in
    let before : length (take held w.differences) ≡ held =
    length-take-le held w.differences (omega (arith, long, h.few)) in
    record {
      order = omega (arith, h.order);
      inside = next.inside;
      few = omega (arith, h.order, h.few, size, fits);
      each = λ k b. elim (cases_lt k held) [
        | inl less ↦
            get_or_append_left (take held w.differences) (out ++ rest) (pos 0) k (omega (arith, less, before))
            ∙ get_or-take held w.differences k (pos 0) less ∙ h.each k less
        | inr more ↦
            let here : k - held < count = omega (arith, b, more, h.order) in
            let place : w.end + (k - held) ≡ w.first + k = omega (arith, more, h.order) in
            get_or-append_right (take held w.differences) (out ++ rest) held k (pos 0) before more
            ∙ get_or_append_left out rest (pos 0) (k - held) (omega (arith, here, fits))
            ∙ sym (get_or-take count out (k - held) (pos 0) here)
            ∙ rw (next.items, part_at (differences xs) w.end (w.end + count) (k - held) (omega (arith, here)), place)
      ];
      marked = h.marked;
    }
