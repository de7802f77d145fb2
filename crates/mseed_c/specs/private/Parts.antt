-- What was read of a heading.
use Rattle.std.specs.Prelude.{◌≡◌, ℕ}
use Rattle.std.specs.Option.{option_to_list}
use Rattle.mseed_c.specs.Heading.{HasLeap, HasOptions}
use Rattle.mseed_c.specs.declared.heading.Heading.{Heading}
use Rattle.mseed_c.specs.declared.heading.Parts.{Parts}

-- what was read of a heading
pub record AreParts (h : Heading) (samples : ℕ) (p : Parts) : Type 0 where
  pub options : HasOptions h p.options
  pub start : p.start ≡ h.start
  pub factor : p.rate.factor ≡ h.factor
  pub multiplier : p.rate.multiplier ≡ h.multiplier
  pub steps : HasLeap h samples (option_to_list p.step)
