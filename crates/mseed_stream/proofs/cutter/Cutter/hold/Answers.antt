use Rattle.std.proofs.Common.{◌≡◌, ◌∙◌, ◌+◌, List, ℕ, length, take, ap}
use Rattle.mseed_stream.specs.CutterState.{CutterState}
use Rattle.mseed_stream.proofs.Filled.{written_back}
use Rattle.mseed_stream.proofs.cutter.Cutter.hold.Goals as goal

pub returns : goal.returns
returns g c =
    let i = c.self.inside in
    let bytes : List ℕ = c.args.bytes.now in
    let now : List ℕ = c.copy_to_front.new.held in
    let size : length now ≡ i.held.len = c.copy_to_front.auto.held ∙ c.deref_mut.ensures.len in
    let prefix = ap (λ (xs : List ℕ). take (length bytes) xs) (written_back now i.held.items i.held.len size)
    ∙ c.copy_to_front.ensures in
    ap (λ (xs : List ℕ). let s : CutterState = record {
      offset = i.offset;
      prefix = xs;
      is_lent = i.is_lent;
      room = i.held.len;
      reads = i.reads + 2;
      answer = i.ending;
    } in s) prefix
    ∙ ap (λ (s : CutterState). let t : CutterState = record s { prefix = bytes; reads = s.reads + 2 } in t)
    c.self.view_is
