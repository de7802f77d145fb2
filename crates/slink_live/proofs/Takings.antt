-- The input brings bytes, or ends.
use Rattle.std.proofs.Common.{◌≡◌, ◌≢◌, ℕ, ◌+◌, ◌*◌, ◌^◌, ◌<◌, ◌≤◌, ◌∙◌, ap, refl, sym, arith, Bool, true, false}
use Rattle.std.proofs.Common.{List, [], ◌∷◌, ◌++◌, length, get_or, take, None, Ok, Err, IfErr, OnOk, Result}
use Rattle.std.proofs.lemmas.Bool.{false≢true}
use Rattle.std.proofs.Common.{append_assoc, length-append}
use Rattle.std.proofs.ByRecursion.{All-append}
use Rattle.std.proofs.lemmas.List.Folds.{concat-append}
use Rattle.std.proofs.lemmas.List.{length-map}
use Rattle.std.specs.List.{concat}
use Rattle.mseed_stream.specs.declared.fault.StreamFault.TheVariants as faults
use Rattle.slink_feed.specs.Window.{Window}
use Rattle.slink_feed.specs.declared.input.InputFault.{InputFault}
use Rattle.slink_feed.specs.declared.input.InputFault.TheVariants.{Stream}
use Rattle.slink_feed.specs.Intake.{places_of}
use Rattle.slink_live.specs.declared.intake.TheConstants.{INPUT}
use Rattle.slink_live.specs.declared.places.Places.{Places}
use Rattle.slink_live.specs.Happening.{Happening, Input, first_interest, input_of}
use Rattle.slink_live.specs.Input.{IsFaultIn, IsFedTo, IsInputFault, IsOf, MayBegin, fed}
use Rattle.slink_live.specs.Served.{IntakeState, IsServing, IsSound, ServerState}
use Rattle.slink_live.specs.Turns.{Answer, Ends, Leaves, is_cut_off, is_whole}
use Rattle.slink_live.specs.private.Cutting.{Cuts, CutsOff}
use Rattle.slink_live.specs.private.Granting.{StaysBut}
use Rattle.slink_live.specs.private.Keeping.{AnswersFault, AreAwakeBut, Awakens, Carries, EndsInput, KeepsAwake}
use Rattle.slink_live.specs.private.Keeping.{KeepsServing}
use Rattle.slink_live.specs.Awake.{nothing}
use Rattle.slink_live.proofs.Fed.{below_more, fed_append, places_fed}
use Rattle.slink_live.proofs.Cuts.{cut_below, cut_few, cut_fits, short_none}
use Rattle.slink_live.proofs.Updating.{awake_same, awake_then}
use Rattle.slink_live.proofs.Apart.{updated_on}
use Rattle.slink_live.proofs.Slots.{goes_one, history_elsewhere, input_last, interest_last, keeps_both, left_last}
use Rattle.slink_live.proofs.Slots.{links_last, keeps_same, leaves_input, reads_last}
use Rattle.slink_live.proofs.Steps.{answers_links, carries_end, ended, if_err_always}

-- The input is read no more, and what is wrong with it is answered.
pub ends_input : {s t : ServerState} {log last : List Happening} {r : Result (Unit {0}) InputFault}
    → KeepsServing (ended s) t log last → Awakens (Unit {0}) (ended s) t log last
    → IfErr r (λ e. (start : List Window) → IsServing start s log → IsInputFault (places_of start) (input_of last) e)
    → EndsInput s t log last r
ends_input {t = t} {r = r} keeps keeps_awake fault = record {
  answers = record {
    keeps = keeps_both carries_end keeps;
    fault = fault;
    ended = if_err_always r (t.has_ended ≡ true) (keeps.carries.unread refl).0;
  };
  keeps_awake = awake_then carries_end.serving (λ a. tt) (λ start v a. nothing) (λ a. keeps_awake);
}

-- It was read no more before.
pub nothing_ends : {s : ServerState} {log : List Happening} → IsSound s → EndsInput s s log log (Ok tt)
nothing_ends sound = record { answers = answers_links (keeps_same sound); keeps_awake = awake_same }

-- as many rings stay
fed_length : (feed : List Window) (rs : List (List ℕ)) → length (fed feed rs) ≡ length feed
fed_length feed rs =
    sym (length-map (fed feed rs) (λ (w : Window). w.place)) ∙ (ap length (places_fed feed rs)
    ∙ length-map feed (λ (w : Window). w.place))

-- the server, once the input brought bytes
abbrev with_intake : ServerState → IntakeState → ServerState
with_intake s intake = record s { intake = intake; reads = s.reads + 1 }

-- Bytes came, and were cut as far as they go.
module _ (s : ServerState) (on : s.has_ended ≡ false) (sound : IsSound s) {bytes rest : List ℕ} {new : IntakeState}
    (cuts : Cuts s.intake bytes new rest) where
  pub taken_sound : (has_ended : Bool) → length bytes ≤ INPUT → s.reads ≢ 2 ^ 40
      → (has_ended ≡ false → (length new.kept < 512) × MayBegin new.kept)
      → IsSound (record (with_intake s new) { has_ended = has_ended })
  taken_sound has_ended most few goes_on =
      let added : length cuts.records ≤ length bytes = cut_few s.intake new bytes rest (sound.short on) cuts in
      record {
        short = λ e. (goes_on e).0;
        begins = λ e. (goes_on e).1;
        fit = λ k l e. cut_fits s.intake new bytes rest (sound.short on) cuts l.session.state (sound.fit k l e);
        below = below_more (2 ^ 62 + INPUT * s.reads + length bytes) (2 ^ 62 + INPUT * (s.reads + 1)) new.feed
            (omega (arith, most))
            (cut_below s.intake new bytes rest (sound.short on) cuts (2 ^ 62 + INPUT * s.reads) sound.below);
        few = omega (arith, cuts.counted, added, most, sound.few);
        few_reads = omega (arith, few, sound.few_reads);
      }

  module _ (none : ¬ (IsOf (places_of s.intake.feed) (take 512 rest))) {log : List Happening} (start : List Window)
      (v : IsServing start s log) where
    fed_now : (to : IsFedTo start (input_of (log ++ Input bytes ∷ [])) new.feed rest)
        × (new.records ≡ length to.records)
    fed_now =
        let same : places_of s.intake.feed ≡ places_of start =
        ap places_of v.fed.feed_is ∙ places_fed start v.fed.records in (
          record {
            records = v.fed.records ++ cuts.records;
            input = record {
              joined = rw (
                input_last log (Input bytes),
                v.fed.input.joined,
                v.goes_on on,
                append_assoc (concat v.fed.records) s.intake.kept bytes,
                cuts.joined,
                concat-append v.fed.records cuts.records,
                append_assoc (concat v.fed.records) (concat cuts.records) rest,
              ) refl;
              each = All-append (IsOf (places_of start)) v.fed.records cuts.records v.fed.input.each
                  (rw same at cuts.each);
              no_further = rw same at none;
            };
            feed_is = rw (cuts.feed_is, v.fed.feed_is, fed_append start v.fed.records cuts.records) refl;
          },
          omega (arith, cuts.counted, v.counted, length-append v.fed.records cuts.records),
        )

  taken_carries : {log : List Happening} → (has_ended : Bool) → (has_ended ≡ false → rest ≡ new.kept)
      → ¬ (IsOf (places_of s.intake.feed) (take 512 rest))
      → Carries s (record (with_intake s new) { has_ended = has_ended }) log (log ++ Input bytes ∷ [])
  taken_carries {log} has_ended goes_on none = record {
    serving = λ start v. record {
      rest = rest;
      fed = (fed_now none start v).0;
      counted = (fed_now none start v).1;
      goes_on = goes_on;
      read = ap (λ n. n + 1) v.read ∙ sym (reads_last log (Input bytes));
      slots = λ k. history_elsewhere start k (get_or s.links k None) log (Input bytes) refl (v.slots k);
    };
    unread = λ e. absurd (false≢true (sym on ∙ e));
    slots = refl;
    grows = (Input bytes ∷ [], refl);
  }

-- They went into the rings, and go on.
module _ (s : ServerState) (on : s.has_ended ≡ false) (sound : IsSound s) {bytes : List ℕ} {new : IntakeState}
    (cuts : Cuts s.intake bytes new new.kept) (short : length new.kept < 512) where
  pub no_further : ¬ (IsOf (places_of s.intake.feed) (take 512 new.kept))
  no_further = short_none (places_of s.intake.feed) new.kept short

  pub taken_on : {log : List Happening} → Carries s (with_intake s new) log (log ++ Input bytes ∷ [])
  taken_on = taken_carries s on sound cuts s.has_ended (λ e. refl) no_further

  -- Then the links of their stations were updated.
  pub taken_awake : (t : ServerState) (log last : List Happening) (places : Places)
      → StaysBut places s.intake.feed new.feed
      → Awakens (AreAwakeBut places (with_intake s new) (log ++ Input bytes ∷ [])) (with_intake s new) t
      (log ++ Input bytes ∷ []) last → KeepsAwake s t log last
  taken_awake t log last places stays but =
      let long = ap length cuts.feed_is ∙ fed_length s.intake.feed cuts.records in
      awake_then taken_on.serving (λ a. record {
        is_reported = record {
          links = links_last log (Input bytes) true ∙ a.is_reported.links;
          left = left_last log (Input bytes) false ∙ a.is_reported.left;
        };
        each = λ k out l is. rw (interest_last k log (Input bytes) first_interest)
            (updated_on _ _ l long (λ streams i g granted. stays i (out l is streams i g granted)) _ _ (a.each k l is));
      }) (λ start v a. goes_one (Input bytes) tt) (λ a. but)

-- It is wrong with them that they go no further.
module _ (s : ServerState) (on : s.has_ended ≡ false) (sound : IsSound s) {bytes : List ℕ} {new : IntakeState}
    {fault : InputFault} (off : CutsOff s.intake bytes new fault) where
  pub taken_off : {log : List Happening} → Carries s (ended (with_intake s new)) log (log ++ Input bytes ∷ [])
  taken_off = taken_carries s on sound off.cuts true (λ e. absurd (false≢true (sym e))) off.no_further

  pub taken_err : (t : ServerState) (log last : List Happening)
      → KeepsServing (ended (with_intake s new)) t (log ++ Input bytes ∷ []) last
      → AnswersFault s t log last (Err fault)
  taken_err t log last x = record {
    keeps = keeps_both taken_off x;
    fault = λ start v.
        let now = fed_now s on sound off.cuts off.no_further start v in
        record {
          records = now.0.records;
          rest = off.rest;
          input = rw (x.carries.unread refl).1 now.0.input;
          is_fault = rw now.1 at (rw (ap places_of v.fed.feed_is ∙ places_fed start v.fed.records) at off.is_fault);
        };
    ended = (x.carries.unread refl).0;
  }

-- What is wrong with an input of which nothing further came.
pub fault_in : {start : List Window} {s : ServerState} {log last : List Happening} {fault : InputFault}
    → Leaves log last → (v : IsServing start s log)
    → IsFaultIn (places_of start) (length v.fed.records) v.rest fault → IsInputFault (places_of start) (input_of last)
    fault
fault_in {log = log} {last = last} leaves v f = record {
  records = v.fed.records;
  rest = v.rest;
  input = rw (leaves_input log last leaves) v.fed.input;
  is_fault = f;
}

pub cut_off_fault : (s : ServerState) {log last : List Happening} → IsSound s → s.has_ended ≡ false → Leaves log last
    → (start : List Window) → IsServing start s log → (fault : InputFault)
    → (0 < length s.intake.kept)
    × (fault ≡ Stream (faults.Truncated (512 * s.intake.records) (length s.intake.kept)))
    → IsInputFault (places_of start) (input_of last) fault
cut_off_fault s sound on leaves start v fault is = rw is.1 (fault_in leaves v
    (is.0, ap length (sym (v.goes_on on)), sound.short on, ap (λ n. 512 * n) v.counted))

-- what the end of an input comes to
pub ends_called : (s : ServerState) {log last : List Happening} → Leaves log last → s.has_ended ≡ false → (r : Answer)
    → OnOk r (s.intake.kept ≡ []) → IfErr r (λ e. (0 < length s.intake.kept)
    × (e ≡ Stream (faults.Truncated (512 * s.intake.records) (length s.intake.kept)))) → Ends s log last r
ends_called s leaves on (Ok tt) none off = is_whole on none leaves
ends_called s leaves on (Err e) none off = rw off.1 (is_cut_off on off.0 leaves)
