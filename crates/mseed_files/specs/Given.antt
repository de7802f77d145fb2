-- What was given on a command line, as it is reported.
use Rattle.std.specs.Prelude.{ℕ, List, ◌++◌, codes}
use Rattle.mseed_text.specs.Shown.{shown}

-- a line of it, by what stands before it and after it
abbrev pub given_line : List ℕ → List ℕ → List ℕ → List ℕ
given_line before given after = codes "mseed: " ++ before ++ shown given ++ after ++ codes "\n"
