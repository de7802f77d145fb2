-- What a client is granted that holds the records up to a number.
use Rattle.std.proofs.Common.{◌≡◌, ℕ, ◌+◌, ◌-◌, ◌%◌, ◌^◌, ◌<◌, ◌≤◌, arith, length}
use Rattle.std.proofs.Common.{Some, None, refl}
use Rattle.std.proofs.lemmas.Bool.{le-leb, lt-leb}
use Rattle.slink_feed.specs.declared.grant.Mode.{Mode}
use Rattle.slink_feed.specs.declared.grant.Mode.TheVariants as modes
use Rattle.slink_feed.specs.Grant.{grant_of}
use Rattle.slink_feed.specs.Window.{Window, ahead_of_oldest, oldest_of, resolve_of}

ahead_there : (o n : ℕ) → o ≤ n → n ≤ o + 1000000 → ((n % 2 ^ 24) % 2 ^ 24 + 2 ^ 24 - o % 2 ^ 24) % 2 ^ 24 ≡ n - o
ahead_there o n le near = omega (arith, le, near)

ahead_lost : (o n : ℕ) → n < o → o < n + 2 ^ 24
    → ((n % 2 ^ 24) % 2 ^ 24 + 2 ^ 24 - o % 2 ^ 24) % 2 ^ 24 ≡ n + 2 ^ 24 - o
ahead_lost o n lt near = omega (arith, lt, near)

resolved_there : (w : Window) (n : ℕ) → length w.records ≤ 1000000 → n ≤ w.next → oldest_of w ≤ n
    → resolve_of w (n % 2 ^ 24) ≡ Some n
resolved_there w n few at_most there =
    let ahead = ahead_there (oldest_of w) n there (omega (arith, few, at_most)) in
    let same : oldest_of w + ahead_of_oldest w (n % 2 ^ 24) ≡ n = omega (arith, ahead, there) in
    rw (le-leb (ahead_of_oldest w (n % 2 ^ 24)) (w.next - oldest_of w) (omega (arith, ahead, at_most, there)), same)
    refl

resolved_lost : (w : Window) (n : ℕ) → w.next < n + 2 ^ 24 → n < oldest_of w → resolve_of w (n % 2 ^ 24) ≡ None
resolved_lost w n near lost =
    let ahead = ahead_lost (oldest_of w) n lost (omega (arith, near)) in
    rw (lt-leb (ahead_of_oldest w (n % 2 ^ 24)) (w.next - oldest_of w) (omega (arith, ahead, near, lost))) refl

pub granted_there : (mode : Mode) (w : Window) (n : ℕ) → length w.records ≤ 1000000 → n ≤ w.next → oldest_of w ≤ n
    → grant_of mode (Some (n % 2 ^ 24)) w ≡ Some n
granted_there modes.Data w n few at_most there = resolved_there w n few at_most there
granted_there modes.Fetch w n few at_most there = resolved_there w n few at_most there

pub granted_lost : (mode : Mode) (w : Window) (n : ℕ) → w.next < n + 2 ^ 24 → n < oldest_of w
    → grant_of mode (Some (n % 2 ^ 24)) w ≡ None
granted_lost modes.Data w n near lost = resolved_lost w n near lost
granted_lost modes.Fetch w n near lost = resolved_lost w n near lost
