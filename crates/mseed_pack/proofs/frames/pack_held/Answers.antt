use Rattle.std.proofs.Common.{arith, rules, ◌∙◌, w32}
use Rattle.std.proofs.lemmas.Int.{to_z-of_z}
use Rattle.mseed_pack.proofs.Filled.{some_used_of, taken_of}
use Rattle.mseed_pack.proofs.frames.pack_held.Goals as goal

pub add_ends-ends-requires : goal.add_ends-ends-requires
add_ends-ends-requires c =
    let h = c.requires.held.1 in
    let some = some_used_of (c.pack_window-packed.ensures.filled c.requires.held.0 h).0 in
    rw c.pack_window-packed.ensures.window
    (record { some = some.0; low = h.low; high = omega (arith, some.1); held = (c.requires.held.0, h.held) })

pub end_payload-filled-requires : goal.end_payload-filled-requires
end_payload-filled-requires c =
    let xs = c.requires.held.0 in
    (c.args.scheme, (xs, (c.args.left, (_, (c.pack_window-packed.ensures.filled xs c.requires.held.1).0))))

pub returns-clause-filled : goal.returns-clause-filled
returns-clause-filled c = λ xs h.
    let done = c.pack_window-packed.ensures in
    let both = done.filled xs h in
    let ends = c.add_ends-ends.ensures.ends xs (rw done.window h.held) h.ahead.fit (done.before ∙ h.before) in
    rw (c.end_payload-filled.ensures.samples, c.add_ends-ends.ensures.known) (
      rw c.end_payload-filled.ensures.samples at
          (c.end_payload-filled.ensures.filled c.args.scheme xs c.args.left _ both.0 ends),
      to_z-of_z w32 _ (search rules) ∙ ends.last_is,
      both.1,
    )

pub returns-clause-taken : goal.returns-clause-taken
returns-clause-taken c =
    rw c.end_payload-filled.ensures.samples
    (taken_of (c.pack_window-packed.ensures.filled c.requires.held.0 c.requires.held.1).0)

pub returns-clause-few : goal.returns-clause-few
returns-clause-few c =
    let some = some_used_of (c.pack_window-packed.ensures.filled c.requires.held.0 c.requires.held.1).0 in
    omega (arith, some.1, c.end_payload-filled.ensures.samples)
