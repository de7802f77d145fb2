use Rattle.std.proofs.Common.{◌+◌, ◌-◌, ◌++◌, ◌∙◌, ap, arith, length, sym, take}
use Rattle.std.proofs.lemmas.Slice.{take-put_mid}
use Rattle.slink_live.proofs.pending.put_packet.Goals as goal

pub returns-clause-value : goal.returns-clause-value
returns-clause-value c =
    take-put_mid c.args.at (c.args.at + 520 - c.args.at) c.args.room.now c.fill_packet.new.room
    (c.args.at + 520) (omega (arith, c.fill_packet.ensures.size)) (omega arith)
    ∙ ap (λ bytes. take c.args.at c.args.room.now ++ bytes) c.fill_packet.ensures.value

pub returns-clause-size : goal.returns-clause-size
returns-clause-size c = ap length (sym c.fill_packet.ensures.value) ∙ c.fill_packet.ensures.size
