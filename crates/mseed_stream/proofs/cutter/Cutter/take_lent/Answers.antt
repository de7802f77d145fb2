use Rattle.std.proofs.Common.{◌≡◌, ◌∙◌, ◌+◌, ◌≤◌, ◌^◌, [], List, ℕ, length, sym, ap, arith}
use Rattle.std.proofs.Common.{refl}
use Rattle.mseed_record.specs.Record.{IsRecord}
use Rattle.mseed_record.specs.Viewing.{view_of}
use Rattle.mseed_stream.specs.CutterState.{CutterState}
use Rattle.mseed_stream.proofs.Records.{view_record}
use Rattle.mseed_stream.proofs.RecordStops.{lent_cut, lent_read}
use Rattle.mseed_stream.proofs.cutter.Cutter.take_lent.Goals as goal

pub returns-clause-cut : goal.returns-clause-cut
returns-clause-cut g c =
    let bytes : List ℕ = c.in-Ok.view.bytes.now in
    let is : IsRecord bytes = view_record (view_of c.in-Ok.view) c.in-Ok.ensures.view in
    let nothing : c.self.inside.have ≡ 0 = omega (arith, c.if-self-gt0.false) in
    let none : c.args.self.now.prefix ≡ [] =
    sym (ap (λ (s : CutterState). s.prefix) c.self.view_is) ∙ rw nothing refl in
    let prefix = rw c.lend-lent.ensures.bytes at c.in-Ok.ensures.prefix in
    let read = lent_read _ _ _ _ _ c.bytes-size.ensures.value prefix c.pass_whole.ensures.reported in
    let reads = ap (λ (s : CutterState). s.reads) c.self.view_is in
    let few : c.args.self.now.reads + 2 ≤ 2 ^ 40 = omega (arith, reads, c.if-self.false) in
    let within : length bytes ≤ c.args.self.now.room = omega (
      arith,
      ap (λ (s : CutterState). s.room) c.self.view_is,
      c.if-len-size.false,
      c.len-2.ensures,
      ap (λ (xs : List ℕ). length xs) c.bytes-size.ensures.value,
    ) in
    lent_cut _ _ _ _ bytes c.requires.read c.requires.not_lent none c.requires.going_on is read
    (rw c.bytes.ensures.value at c.hold.ensures) few within
