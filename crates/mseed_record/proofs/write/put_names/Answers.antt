use Rattle.std.proofs.Common.{◌≡◌, ◌+◌, ◌++◌, List, ℕ, [], length, drop, slice_range, codes, refl, ◌∙◌, arith, ap}
use Rattle.std.proofs.Common.{length-drop, length-take, rules}
use Rattle.mseed_record.proofs.Puts.{put_next}
use Rattle.mseed_record.proofs.write.put_names.Goals as goal

pub returns-clause-bytes : goal.returns-clause-bytes
returns-clause-bytes c =
    let old : List ℕ = c.args.out.now in
    let number = c.sequence_digits.ensures in
    let key = c.key-key.ensures in
    let long : length c.key-key.result.now ≡ 12 = search rules in
    let six : 0 + length c.sequence_digits.result ≡ 6 = omega (arith, ap (λ (xs : List ℕ). length xs) number) in
    let one = put_next old old c.put.new.out [] c.sequence_digits.result 0 6 six (record { bytes = refl; size = refl })
    c.put.ensures in
    let two = put_next old c.put.new.out c.put-2.new.out _ (codes "D ") 6 8 refl one c.put-2.ensures in
    let three = put_next old c.put-2.new.out c.put-3.new.out _ (slice_range c.key-key.result.now 2 7) 8 13
    (simp (length-take, length-drop) (omega arith)) two c.put-3.ensures in
    let four = put_next old c.put-3.new.out c.put-4.new.out _ (slice_range c.key-key.result.now 7 9) 13 15
    (simp (length-take, length-drop) (omega arith)) three c.put-4.ensures in
    let five = put_next old c.put-4.new.out c.put-5.new.out _ (slice_range c.key-key.result.now 9 12) 15 18
    (simp (length-take, length-drop) (omega arith)) four c.put-5.ensures in
    let six = put_next old c.put-5.new.out c.put-6.new.out _ (slice_range c.key-key.result.now 0 2) 18 20
    (simp (length-take, length-drop) (omega arith)) five c.put-6.ensures in
    six.bytes ∙ (λ i. number i ++ codes "D " ++ slice_range (key i) 2 7 ++ slice_range (key i) 7 9 ++ slice_range
    (key i) 9 12 ++ slice_range (key i) 0 2 ++ drop 20 old)
