use Rattle.std.proofs.Common.{◌≡◌, ◌≤◌, ◌-◌, ℕ, List, length, take, drop, ap, ◌∙◌, arith, length-drop}
use Rattle.std.proofs.KnownBytes.{Consumes-trans}
use Rattle.mseed_stream.specs.Device.{BytesRead, lent_also}
use Rattle.mseed_stream.specs.Cutting.{lent_whole}
use Rattle.mseed_stream.proofs.Filled.{two_parts}
use Rattle.std.proofs.Common.{length-append}
use Rattle.std.proofs.lemmas.List.{length-take-le, take-take}
use Rattle.std.proofs.Math.Seq.{drop-append_seam}
use Rattle.mseed_stream.proofs.Passed.{lent_twice, rest_twice}
use Rattle.mseed_stream.proofs.cutter.pass_whole.Goals as goal

pub consume-requires-2 : goal.consume-requires-2
consume-requires-2 g c =
    omega (arith, ap (λ (xs : List ℕ). length xs) c.consume.ensures.rest, length-drop {A = ℕ}, c.requires.whole)

-- the two calls give the record
whole_read : (old : BytesRead) (lent later : List ℕ) (size : ℕ) (between new : BytesRead) → 48 ≤ size
    → later ≡ drop 48 lent → between ≡ lent_also old (take 48 lent)
    → new ≡ lent_also between (take (size - 48) later)
    → new ≡ lent_whole old (take size lent)
whole_read old lent later size between new header rest first second =
    rw (second, first, rest, two_parts lent 48 size header) (lent_twice old _ _)

pub note_record-requires : goal.note_record-requires
note_record-requires g c =
    let size : ℕ = c.args.size in
    let long = length-take-le size (g.R.Source.lent c.args.source.now) c.requires.whole in
    let read = whole_read _ _ _ _ _ _ c.requires.header c.consume.ensures.rest c.consume.ensures.read
    c.consume-2.ensures.read in
    rw (read, c.requires.offset) (record {
      inside = rw length-append (omega (arith, long));
      is_record = rw (drop-append_seam, take-take size size _ (omega arith)) c.requires.is_record;
    })

pub returns-clause-reported : goal.returns-clause-reported
returns-clause-reported g c =
    c.note_record.ensures.read ∙ whole_read _ _ _ _ _ _ c.requires.header c.consume.ensures.rest c.consume.ensures.read
    c.consume-2.ensures.read

pub returns-clause-rest : goal.returns-clause-rest
returns-clause-rest g c =
    c.note_record.ensures.lent ∙ rest_twice _ _ _ _ c.requires.header c.consume.ensures.rest c.consume-2.ensures.rest

pub returns-clause-known : goal.returns-clause-known
returns-clause-known g c =
    let lent : List ℕ = g.R.Source.lent c.args.source.now in
    let both = Consumes-trans _ _ _ _ _ c.consume.ensures.known c.consume-2.ensures.known in
    rw (c.note_record.ensures.remaining, two_parts lent 48 c.args.size c.requires.header)
    (rw c.consume.ensures.rest at both)
