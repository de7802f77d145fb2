-- Whether all stations are done, one after another.
use Rattle.std.proofs.Common.{◌≡◌, ℕ, ◌+◌, ◌<◌, ◌≤◌, zero, suc, refl, sym, ◌∙◌, arith, add-one, Bool, true}
use Rattle.std.proofs.Common.{false, List, [], ◌∷◌, length, take, take_all, Some, slice_get}
use Rattle.std.specs.List.{list_all, zip}
use Rattle.slink_feed.specs.Session.{Grants, has_sent_all, grant_at, has_sent}
use Rattle.slink_feed.specs.Window.{Window}
use Rattle.std.proofs.lemmas.Option.{none-some, same_Some}
use Rattle.std.proofs.lemmas.Slice.Zip.{length-zip}
use Rattle.slink_feed.proofs.Items.{within_is}
use Rattle.std.proofs.lemmas.Bool.{and_from, and_left, and_right, and_parts}

-- what was called of the first k stations
abbrev pub first_done : List Window → Grants → ℕ → Bool
first_done feed grants k = list_all (λ p. has_sent p.0 p.1) (take k (zip feed grants))

done_next : (ws : List Window) (gs : Grants) (k : ℕ) (w : Window) → slice_get ws k ≡ Some w
    → has_sent w (grant_at gs k) ≡ true → first_done ws gs k ≡ true → first_done ws gs (suc k) ≡ true
done_next [] gs k w here d before = refl
done_next (v ∷ ws) [] k w here d before = refl
done_next (v ∷ ws) (o ∷ gs) zero w here d before =
    and_from (has_sent v o) true (rw (same_Some v w here) d) refl
done_next (v ∷ ws) (o ∷ gs) (suc k) w here d before =
    let each = and_parts (has_sent v o) (first_done ws gs k) before in
    and_from (has_sent v o) (first_done ws gs (suc k)) each.0 (done_next ws gs k w here d each.1)

pub done_more : (ws : List Window) (gs : Grants) (k : ℕ) (w : Window) (t : Bool) → slice_get ws k ≡ Some w
    → t ≡ has_sent w (grant_at gs k) → t ≡ true → first_done ws gs k ≡ true → first_done ws gs (k + 1) ≡ true
done_more ws gs k w t here d passes before = rw (add-one k) (done_next ws gs k w here (sym d ∙ passes) before)

not_done_at : (ws : List Window) (gs : Grants) (k : ℕ) (w : Window) → slice_get ws k ≡ Some w
    → has_sent w (grant_at gs k) ≡ false → has_sent_all ws gs ≡ false
not_done_at [] gs k w here d = absurd (none-some w here)
not_done_at (v ∷ ws) [] k w here d = absurd (let bad : true ≡ false = d in cc bad)
not_done_at (v ∷ ws) (o ∷ gs) zero w here d =
    and_left (has_sent v o) (has_sent_all ws gs) (rw (same_Some v w here) d)
not_done_at (v ∷ ws) (o ∷ gs) (suc k) w here d = and_right (has_sent v o) (has_sent_all ws gs)
    (not_done_at ws gs k w here d)

pub not_done : (ws : List Window) (gs : Grants) (k : ℕ) (w : Window) (t : Bool) → slice_get ws k ≡ Some w
    → t ≡ has_sent w (grant_at gs k) → t ≡ false → has_sent_all ws gs ≡ false
not_done ws gs k w t here d fails = not_done_at ws gs k w here (sym d ∙ fails)

pub done_all : (ws : List Window) (gs : Grants) (k : ℕ) → length ws ≤ k → first_done ws gs k ≡ true
    → has_sent_all ws gs ≡ true
done_all ws gs k e before = rw (take_all k (zip ws gs) (omega (arith, e, length-zip ws gs))) at before

pub some_at : (ws : List Window) (k : ℕ) → k < length ws → (w : Window) × (slice_get ws k ≡ Some w)
some_at ws k lt = within_is ws k lt
