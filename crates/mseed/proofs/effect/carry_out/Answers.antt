use Rattle.std.proofs.Common.{inl, inr, refl}
use Rattle.mseed_feed.specs.Transport.{transport_state}
use Rattle.mseed_stream.specs.Device.{nothing_read}
use Rattle.mseed.proofs.Done.{effect, still}
use Rattle.mseed.proofs.effect.carry_out.Goals as goal

pub returns-in-Ok-clause-called : goal.returns-in-Ok-clause-called
returns-in-Ok-clause-called g c request asked files asks =
    effect _ (g.F.Files.found c.args.files.now) _ c.in-Ok.command request asked files c.execute.result
    (g.W.Sink.written c.args.output.now) (g.W.Sink.written c.execute.new.output)
    (g.E.Sink.written c.args.errors.now) (g.E.Sink.written c.command_of.new.errors)
    (g.E.Sink.written c.execute.new.errors)
    (transport_state (g.T.Transport.planned c.args.transport.now) (g.T.Transport.came c.args.transport.now))
    (transport_state (g.T.Transport.planned c.execute.new.transport) (g.T.Transport.came c.execute.new.transport))
    (c.in-Ok.ensures.called request asked files asks)
    (rw c.deref.ensures.value at c.execute.ensures.done)

pub returns-in-Ok-clause-bad : goal.returns-in-Ok-clause-bad
returns-in-Ok-clause-bad g c mistake given nothing = elim (c.in-Ok.ensures.bad mistake given nothing) [
  | inl command ↦ absurd command
  | inr command ↦ absurd command
]

pub returns-in-Ok-clause-refused : goal.returns-in-Ok-clause-refused
returns-in-Ok-clause-refused g c refused = elim (c.in-Ok.ensures.refused refused) [
  | inl command ↦ absurd command
  | inr command ↦ absurd command
]

pub returns-in-Ok-clause-unreported : goal.returns-in-Ok-clause-unreported
returns-in-Ok-clause-unreported g c =
    still _ c.execute.result _ _ _ c.in-Ok.ensures.silent c.execute.ensures.unreported

pub returns-in-Err-clause-called : goal.returns-in-Err-clause-called
returns-in-Err-clause-called g c request asked files asks = elim (c.in-Err.ensures.called request asked files asks) [
  | inl command ↦ absurd command
  | inr lacks ↦ (nothing_read, inr ((lacks, refl), refl))
]

pub returns-in-Err-clause-bad : goal.returns-in-Err-clause-bad
returns-in-Err-clause-bad g c mistake given nothing = (c.in-Err.ensures.bad mistake given nothing, refl)

pub returns-in-Err-clause-refused : goal.returns-in-Err-clause-refused
returns-in-Err-clause-refused g c refused = (c.in-Err.ensures.refused refused, refl)

pub returns-in-Ok-clause-unopened : goal.returns-in-Ok-clause-unopened
returns-in-Ok-clause-unopened g c = (
  λ mistake given nothing. elim (c.in-Ok.ensures.bad mistake given nothing) [
    | inl command ↦ absurd command
    | inr command ↦ absurd command
  ],
  λ refused. elim (c.in-Ok.ensures.refused refused) [
    | inl command ↦ absurd command
    | inr command ↦ absurd command
  ],
)

pub returns-in-Ok-clause-unlinked : goal.returns-in-Ok-clause-unlinked
returns-in-Ok-clause-unlinked g c = (
  λ mistake given nothing. elim (c.in-Ok.ensures.bad mistake given nothing) [
    | inl command ↦ absurd command
    | inr command ↦ absurd command
  ],
  λ refused. elim (c.in-Ok.ensures.refused refused) [
    | inl command ↦ absurd command
    | inr command ↦ absurd command
  ],
)
