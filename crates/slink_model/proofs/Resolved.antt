-- The number that is granted is the one that is requested, modulo 2^24.
use Rattle.std.proofs.Common.{◌≡◌, ℕ, ◌+◌, ◌-◌, ◌%◌, ◌^◌, inl, inr, sym, ap, ◌∙◌, arith, Some, None, if◌then◌else◌}
use Rattle.std.proofs.lemmas.Bool.Decides.{leb_tells}
use Rattle.slink_feed.specs.Window.{Window, ahead_of_oldest, oldest_of, resolve_of}

pub ahead_alike : (o x : ℕ) → (o + (x % 2 ^ 24 + 2 ^ 24 - o % 2 ^ 24) % 2 ^ 24) % 2 ^ 24 ≡ x % 2 ^ 24
ahead_alike o x = omega arith

pub resolved_alike : (w : Window) (seq p : ℕ) → resolve_of w seq ≡ Some p → p % 2 ^ 24 ≡ seq % 2 ^ 24
resolved_alike w seq p e = elim (leb_tells (ahead_of_oldest w seq) (w.next - oldest_of w)) [
  | inl passes ↦ let both : Some (oldest_of w + ahead_of_oldest w seq) ≡ Some p =
      sym (ap (λ t. if t then Some (oldest_of w + ahead_of_oldest w seq) else None) passes.0) ∙ e in
      let at : oldest_of w + ahead_of_oldest w seq ≡ p = cc both in
      ap (λ n. n % 2 ^ 24) (sym at) ∙ ahead_alike (oldest_of w) seq
  | inr fails ↦ absurd (let bad : None ≡ Some p = sym
      (ap (λ t. if t then Some (oldest_of w + ahead_of_oldest w seq) else None) fails.0) ∙ e in cc bad)
]
