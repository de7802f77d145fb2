-- What notes that an output accepted records, over one call after another.
use Rattle.std.proofs.Common.{◌≡◌, ◌+◌, ◌<◌, ◌++◌, ◌∙◌, Bool, List, true, false, ap, inl, inr, length, length-append}
use Rattle.std.proofs.Common.{refl, sym, arith, ℕ}
use Rattle.mseed_stream.specs.Device.{BytesWritten}
use Rattle.slink_feed.specs.Fetching.{Notes}

pub nothing_noted : (was : Bool) (now : BytesWritten) → Notes was was now now
nothing_noted was now = record {
  yes = λ e. inl e;
  no = λ e. e;
  none = λ e same. refl;
  grows = omega arith;
}

pub notes_both : (r s t : Bool) (a b c : BytesWritten) → b.failures ≡ a.failures → Notes r s a b → Notes s t b c
    → Notes r t a c
notes_both r s t a b c fine p q = record {
  yes = λ e. elim (q.yes e) [
    | inl was ↦ (elim (p.yes was) [ inl first ↦ inl first | inr grown ↦ inr (omega (arith, grown, q.grows)) ])
    | inr grown ↦ inr (omega (arith, grown, p.grows))
  ];
  no = λ e. p.no (q.no e);
  none = λ e same. let between : c.failures ≡ b.failures = omega (arith, same, fine) in
      q.none e between ∙ p.none (q.no e) fine;
  grows = omega (arith, p.grows, q.grows);
}

-- within a record the output failed
pub failed_noted : (was is : Bool) (old new : BytesWritten) (more : List ℕ) → is ≡ was
    → new.bytes ≡ old.bytes ++ more → new.failures ≡ old.failures + 1 → Notes was is old new
failed_noted was is old new more stays bytes failed = record {
  yes = λ e. inl (sym stays ∙ e);
  no = λ e. sym stays ∙ e;
  none = λ e same. absurd (omega (arith, same, failed));
  grows = omega (arith, ap length bytes, length-append old.bytes more);
}

-- it accepted one
pub record_noted : (was is : Bool) (old new : BytesWritten) (more : List ℕ) → is ≡ true
    → new.bytes ≡ old.bytes ++ more → 0 < length more → Notes was is old new
record_noted was is old new more set bytes some = record {
  yes = λ e. inr (omega (arith, some, ap length bytes, length-append old.bytes more));
  no = λ e. absurd (let bad : true ≡ false = sym set ∙ e in cc bad);
  none = λ e same. absurd (let bad : true ≡ false = sym set ∙ e in cc bad);
  grows = omega (arith, ap length bytes, length-append old.bytes more);
}
