use Rattle.std.proofs.Common.{◌≡◌, ◌-◌, ◌++◌, ◌∙◌, ℕ, List, length, min, sym, ap, subst, arith}
use borrow.Rule.Slice.PartMut.{put_mid}
use Rattle.mseed_record.specs.declared.answer.Answer.{Answer}
use Rattle.mseed_pack.proofs.Overwritten.{over_more}
use Rattle.mseed_c.specs.Room.{overwritten}
use Rattle.mseed_c.specs.private.Copied.{added}
use Rattle.mseed_c.proofs.Asking.{length_over}
use Rattle.mseed_c.proofs.selecting.put_record.Goals as goal

pub returns-in-AskedFor-clause-room : goal.returns-in-AskedFor-clause-room
returns-in-AskedFor-clause-room c = λ first text was size.
    let p = c.args.room.now in
    let q = c.overwrite.new.room in
    let n = c.min-from.result in
    let bytes = c.args.bytes.now in
    let long : length p ≡ length first = ap (λ (xs : List ℕ). length xs) was ∙ length_over text first in
    let least : n ≡ min (length first) (length text) = omega (arith, c.min-from.ensures, size, long) in
    subst (λ (a : Answer). put_mid n (length p - n) p q ≡ overwritten (text ++ added a bytes) first)
    (sym c.in-AskedFor.is) (over_more text bytes first p q n least was c.overwrite.ensures)
