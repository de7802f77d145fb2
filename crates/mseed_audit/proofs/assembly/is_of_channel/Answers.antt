use Rattle.std.proofs.Common.{◌≡◌, ℕ, ◌&&◌, nat_lt, nat_eq, true, ap, sym, ◌∙◌, rules, arith}
use Rattle.std.specs.Ordering.{nat_cmp, is_eq}
use Rattle.std.specs.Cmp.Lexicographic.{lists_ties}
use Rattle.std.proofs.lemmas.Bool.Decides.{nat_tests}
use Rattle.mseed_record.specs.Header.{key_at}
use Rattle.mseed_record.specs.Viewing.{view_of}
use Rattle.mseed_steim.specs.Reading.{count_of}
use Rattle.mseed_audit.specs.Channels.{same_key}
use Rattle.mseed_audit.proofs.assembly.is_of_channel.Goals as goal

tied : (m n : ℕ) → nat_eq m n ≡ is_eq (nat_cmp m n)
tied m n = grind (arith, nat_tests)

pub returns-then-samples-gt0 : goal.returns-then-samples-gt0
returns-then-samples-gt0 c =
    let some : nat_lt 0 (count_of (view_of c.args.view.now)) ≡ true = search rules in
    let key = c.args.codes.now in
    c.eq.ensures ∙ lists_ties nat_cmp tied key c.codes.result ∙ ap (λ k. same_key key k) c.codes.ensures
    ∙ sym (ap (λ b. b && same_key key (key_at (view_of c.args.view.now).bytes)) some)
