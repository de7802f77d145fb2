use Rattle.std.proofs.Common.{◌≡◌, ◌<◌, ◌-◌, ◌^◌, ◌∙◌, ℕ, ap, arith, length, rules, sym, to_z, w16, w32}
use Rattle.std.proofs.lemmas.Int.{to_z-of_z}
use Rattle.byteorder.specs.Endian.{twos_complement}
use Rattle.mseed_time.proofs.Reading.{number_there}
use Rattle.mseed_time.specs.Fields.{number_at}
use Rattle.mseed_time.specs.declared.order.Order.TheVariants.{Little}
use Rattle.mseed_steim.proofs.Integers.{number_lt, signed_is}
use Rattle.mseed_steim.proofs.Spelled.{signed_16, signed_32}
use Rattle.mseed_steim.proofs.form.integer_at.Goals as goal

pub returns-in-Little-order : goal.returns-in-Little-order
returns-in-Little-order c =
    let p = c.args.payload.now in
    let o = c.args.offset in
    let x : ℕ = number_at Little 4 o p in
    let small : x < 2 ^ 32 = number_lt Little 4 o p (λ i. (c.type_inv.payload i).fits) in
    let number : twos_complement 4 x ≡ to_z w32 x = signed_is 4 x small ∙ signed_32 x small in
    rw (c.in-Four.is, c.in-Little-order.is)
    (to_z-of_z w32 _ (search rules) ∙ c.read_i32-in-Little-order.ensures
    ∙ ap (to_z w32) (number_there o 4 (length p - o) p (omega (arith, rw c.in-Four.is at c.requires))) ∙ sym number)

pub returns-in-Little : goal.returns-in-Little
returns-in-Little c =
    let p = c.args.payload.now in
    let o = c.args.offset in
    let x : ℕ = number_at Little 2 o p in
    let small : x < 2 ^ 16 = number_lt Little 2 o p (λ i. (c.type_inv.payload i).fits) in
    let number : twos_complement 2 x ≡ to_z w16 x = signed_is 2 x small ∙ signed_16 x small in
    rw (c.in-Two.is, c.in-Little.is)
    (to_z-of_z w32 _ (search rules) ∙ c.from-in-Little.ensures ∙ to_z-of_z w16 _ (search rules)
    ∙ c.read_i16-in-Little.ensures
    ∙ ap (to_z w16) (number_there o 2 (length p - o) p (omega (arith, rw c.in-Two.is at c.requires))) ∙ sym number)
