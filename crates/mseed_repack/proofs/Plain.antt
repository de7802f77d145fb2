-- Records whose samples are near one another in whatever order they stand.
use Rattle.std.proofs.ByRecursion.{All-weaker as each_weaker}
use Rattle.std.proofs.Common.{ℤ, pos, ◌-ℤ◌, List, [], ◌∷◌, ◌++◌, arith, All}
use Rattle.std.specs.List.{AllByRecursion}
use Rattle.std.proofs.lemmas.Int.{ints}
use Rattle.std.proofs.lemmas.List.Elements.{All-from_recursion, All-weaker}
use Rattle.mseed_record.specs.View.{View}
use Rattle.mseed_steim.specs.Samples.{AreEnds, differences_from}
use Rattle.mseed_steim.specs.Spelling.{IsWithin}
use Rattle.mseed_steim.specs.declared.encoding.Encoding.{Encoding}
use Rattle.mseed_steim.specs.declared.fault.Ends.{Ends}
use Rattle.mseed_steim.proofs.Widths.{within_wider}
use Rattle.mseed_audit.specs.Series.{AreJoined, none, one}
use Rattle.mseed_pack.specs.Options.{IsSteim}
use Rattle.mseed_repack.specs.private.Outline.{AreHeld, AreNear}
use Rattle.mseed_repack.specs.private.Supplying.{AreBounded, AreUnread, IsPlain, IsUnpackable}
use Rattle.mseed_repack.proofs.Near.{after_near, ends_on, zero_near}

pub bounded_by : (ends : Ends) (s : List ℤ) → AreEnds ends s → AreNear s → IsWithin 29 ends.first
    → IsWithin 29 ends.last → AreBounded s
bounded_by ends s h h2 h3 h4 = grind (arith, ends_on)

between : (before x : ℤ) → IsWithin 29 before → IsWithin 29 x → IsWithin 30 (x -ℤ before)
between before x h k = (omega (arith, ints, h.0, h.1, k.0, k.1), omega (arith, ints, h.0, h.1, k.0, k.1))

before_more : (before : ℤ) (s more : List ℤ) → IsWithin 29 before → AreBounded s
    → ((z : ℤ) → IsWithin 29 z → AllByRecursion (IsWithin 30) (differences_from z more))
    → AllByRecursion (IsWithin 30) (differences_from before (s ++ more))
before_more before s more h h2 h3 = grind (arith, between, after_near)

joined_from : (vs : List View) (xs : List ℤ) → AllByRecursion IsPlain vs → AreJoined vs xs → (before : ℤ)
    → IsWithin 29 before → AllByRecursion (IsWithin 30) (differences_from before xs)
joined_from _ _ plain none before small = tt
joined_from _ _ plain (one v vs s more whole rest) before small =
    grind (arith, before_more, joined_from vs more plain.1 rest)

pub near_joined : (vs : List View) (xs : List ℤ) → AllByRecursion IsPlain vs → AreJoined vs xs → AreNear xs
near_joined vs [] plain joined = tt
near_joined vs (x ∷ xs) plain joined =
    (zero_near, (joined_from vs (x ∷ xs) plain joined (pos 0) (omega (arith, ints), omega (arith, ints))).1)

pub unread_plain : (vs : List View) → AllByRecursion IsPlain vs → AreUnread vs
unread_plain vs plain = record {
  unpackable = each_weaker IsPlain IsUnpackable (λ v is. is.unpackable) vs plain;
  near = λ xs. near_joined vs xs plain;
}

-- either Steim holds samples that are near one another
pub near_held : (e : Encoding) (xs : List ℤ) → IsSteim e → All (IsWithin 32) xs → AreNear xs → AreHeld e xs
near_held e xs h h2 h3 = grind (arith, All-weaker, within_wider, All-from_recursion)
