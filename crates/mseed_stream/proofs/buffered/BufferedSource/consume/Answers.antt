use Rattle.std.proofs.Common.{◌≡◌, ℕ, ◌==◌, ◌++◌, Bool, true, false, if◌then◌else◌, List, [], take, drop, Option, Some}
use Rattle.std.proofs.Common.{None, sym, ap, ◌∙◌, append_assoc}
use Rattle.std.proofs.Common.{arith}
use Rattle.std.proofs.lemmas.Grind.{common_steps}
use Rattle.std.proofs.lemmas.List.{take-append-drop}
use Rattle.std.specs.Io.KnownBytes.{Consumes, prepend_known}
use Rattle.std.specs.Io.Buffered.{reader_buffer, reader_capacity, reader_inner, reader_remaining}
use Rattle.std.specs.declared.io.buffered.BufReader.{BufReader}
use Rattle.mseed_stream.proofs.buffered.BufferedSource.consume.Goals as goal

-- what a buffered reader lends is the prefix of what it is known to have left
prefix_taken : (known : Option (List ℕ)) (buffer : List ℕ) (n : ℕ)
    → Consumes (prepend_known buffer known) (prepend_known (drop n buffer) known) (take n buffer)
prefix_taken None buffer n = tt
prefix_taken (Some xs) buffer n = ap (λ (prefix : List ℕ). prefix ++ xs) (sym (take-append-drop n buffer))
    ∙ append_assoc (take n buffer) (drop n buffer) xs

where_known : (unknown : Bool) (known : Option (List ℕ)) (buffer : List ℕ) (n : ℕ)
    → Consumes (if unknown then None else prepend_known buffer known)
    (if unknown then None else prepend_known (drop n buffer) known) (take n buffer)
where_known true known buffer n = tt
where_known false known buffer n = prefix_taken known buffer n

reader_taken : {T A : Type 0} (remaining : T → Option (List ℕ)) (old new : BufReader T A) (n : ℕ)
    → reader_capacity new ≡ reader_capacity old → reader_inner new ≡ reader_inner old
    → reader_buffer new ≡ drop n (reader_buffer old)
    → Consumes (reader_remaining remaining old) (reader_remaining remaining new) (take n (reader_buffer old))
reader_taken remaining old new n capacity inner buffer =
    rw (capacity, inner, buffer) (where_known (reader_capacity old == 0) (remaining (reader_inner old))
    (reader_buffer old) n)

-- once it is at its end, nothing is taken of nothing
lent_taken : {T A : Type 0} (is_at_end : Bool) (remaining : T → Option (List ℕ)) (old new : BufReader T A) (n : ℕ)
    → reader_capacity new ≡ reader_capacity old → reader_inner new ≡ reader_inner old
    → reader_buffer new ≡ drop n (reader_buffer old)
    → Consumes (if is_at_end then Some [] else reader_remaining remaining old)
    (if is_at_end then Some [] else reader_remaining remaining new)
    (take n (if is_at_end then [] else reader_buffer old))
lent_taken true remaining old new n capacity inner buffer = grind (arith, common_steps)
lent_taken false remaining old new n capacity inner buffer =
    reader_taken remaining old new n capacity inner buffer

pub returns-clause-known : goal.returns-clause-known
returns-clause-known g c =
    lent_taken c.args.self.now.counted.is_at_end g.T.Read.remaining c.args.self.now.counted.inner c.consume.new.self
    c.args.amount c.consume.ensures.capacity c.consume.ensures.inner c.consume.ensures.buffer
