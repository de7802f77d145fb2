use Rattle.std.proofs.Common.{◌≡◌, ◌∙◌, ℕ, IsSome, Option, sym, ap, rules}
use Rattle.mseed_time.specs.Btime.{IsInstant}
use Rattle.mseed_time.specs.Rate.{rate_of}
use Rattle.mseed_pack.specs.Options.{first_bad_option}
use Rattle.mseed_pack.specs.declared.options.BadOption.{BadOption}
use Rattle.mseed_audit.proofs.Judged.{none_unless}
use Rattle.mseed_c.specs.Heading.{bad_option, no_rate, no_instant, bad_leap, bad_option_in, exponent_of}
use Rattle.mseed_c.specs.declared.heading.Heading.{Heading}
use Rattle.mseed_c.proofs.heading.parts_of.Goals as goal

-- what is found of the options is what is bad in the heading
bad_in : (h : Heading) (exponent : ℕ) (bad : Option BadOption) → exponent ≡ exponent_of h.length
    → bad ≡ first_bad_option exponent h.encoding h.sequence → bad_option_in h ≡ bad
bad_in h exponent bad is found = ap (λ (k : ℕ). first_bad_option k h.encoding h.sequence) (sym is) ∙ sym found

pub returns-in-Err-clause-refused : goal.returns-in-Err-clause-refused
returns-in-Err-clause-refused c =
    bad_option c.in-Err.bad (bad_in c.args.heading.now _ _ c.exponent_of-exponent.ensures c.in-Err.ensures.fault)

pub returns-in_default-clause-refused : goal.returns-in_default-clause-refused
returns-in_default-clause-refused c =
    no_rate (bad_in c.args.heading.now _ _ c.exponent_of-exponent.ensures c.in-Ok.ensures.fault)
    (none_unless (rate_of c.args.heading.now.factor c.args.heading.now.multiplier) (λ some. search rules))

pub returns-in_default-new-clause-refused : goal.returns-in_default-new-clause-refused
returns-in_default-new-clause-refused c =
    let some : IsSome (rate_of c.args.heading.now.factor c.args.heading.now.multiplier) = search rules in
    no_instant (bad_in c.args.heading.now _ _ c.exponent_of-exponent.ensures c.in-Ok.ensures.fault) some
    (λ (inside : IsInstant c.args.heading.now.start). search rules)

pub returns-in_default-leap_of-clause-refused : goal.returns-in_default-leap_of-clause-refused
returns-in_default-leap_of-clause-refused c =
    let some : IsSome (rate_of c.args.heading.now.factor c.args.heading.now.multiplier) = search rules in
    let inside : IsInstant c.args.heading.now.start = search rules in
    bad_leap (bad_in c.args.heading.now _ _ c.exponent_of-exponent.ensures c.in-Ok.ensures.fault) some inside
    c.in_default-leap_of.ensures.none
