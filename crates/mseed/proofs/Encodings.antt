-- An encoding and its code.
use Rattle.std.proofs.Common.{◌≡◌, ◌∙◌, ap, refl, sym, Option, Some, unwrap_or}
use Rattle.mseed_pack.specs.Options.{code_of, encoding_of}
use Rattle.mseed_steim.specs.declared.encoding.Encoding.{Encoding}
use Rattle.mseed_steim.specs.declared.encoding.Encoding.TheVariants.{Int16, Int32, Steim1, Steim2}

back : (e : Encoding) → encoding_of (code_of e) ≡ Some e
back Int16 = refl
back Int32 = refl
back Steim1 = refl
back Steim2 = refl

-- a code is of one encoding
pub one_encoding : (a b : Encoding) → code_of a ≡ code_of b → a ≡ b
one_encoding a b e = ap (λ (o : Option Encoding). unwrap_or o a) (sym (back a) ∙ (ap encoding_of e ∙ back b))
