use Rattle.std.proofs.Common.{◌≡◌, ◌++◌, ◌∙◌, List, ℕ, ap, append_assoc, codes, decimal, refl}
use Rattle.std.proofs.lemmas.Result.{IfOk-equal}
use Rattle.mseed_audit.specs.Audit.{head_in, tail_in}
use Rattle.mseed_audit.specs.declared.channel.Channel.{Channel}
use Rattle.mseed_audit.specs.declared.channel.Findings.{Findings}
use Rattle.mseed_audit.specs.declared.channel.Findings.TheVariants.{Nothing, Counted}
use Rattle.mseed_text.proofs.Prefixes.{prefix_trans}
use Rattle.mseed_join.specs.Lines.{findings_text, first_text, head_text, key_text, tail_text, text_or_none}
use Rattle.mseed_join.specs.private.Found.{found_text}
use Rattle.mseed_join.proofs.writing.push_channel_line.Goals as goal

spread : (ends findings count gap first : List ℕ)
    → ends ++ (findings ++ count ++ gap ++ first) ≡ ends ++ findings ++ count ++ gap ++ first
spread ends findings count gap first = simp append_assoc

-- how a channel begins and ends, and then what is found of it
all_text : (f : Findings) → codes " head " ++ text_or_none head_text (head_in f)
    ++ codes " tail " ++ text_or_none tail_text (tail_in f) ++ found_text f ≡ findings_text f
all_text (Nothing head tail) = refl
all_text (Counted count first head tail) =
    spread (codes " head " ++ text_or_none head_text head ++ codes " tail " ++ text_or_none tail_text tail)
    (codes " findings ") (decimal count) (codes " ") (first_text first)

-- what was put, one after another
joined : (text key records samples head tail found : List ℕ)
    → (text ++ ((key ++ codes " records " ++ records ++ codes " samples " ++ samples) ++ (codes " head " ++ head)))
    ++ (((codes " tail " ++ tail) ++ found) ++ codes "\n")
    ≡ text ++ (key ++ codes " records " ++ records ++ codes " samples " ++ samples
    ++ (codes " head " ++ head ++ codes " tail " ++ tail ++ found) ++ codes "\n")
joined text key records samples head tail found = simp append_assoc

pub returns-clause-ok : goal.returns-clause-ok
returns-clause-ok g c =
    let a1 = rw (c.new-line.ensures, c.key.ensures) at c.put_counts.ensures.text in
    let a2 = rw (a1, c.head.ensures) at c.put_known.ensures.text in
    let a3 = rw (c.as_slice.ensures ∙ a2) at c.in_ok-push_line.ensures.ok in
    let b1 = rw (c.new-line-2.ensures, c.tail.ensures) at c.put_known-2.ensures.text in
    let b2 = rw b1 at c.put_found.ensures.text in
    let b3 = rw b2 at c.put.ensures.text in
    let b4 = rw (a3, c.as_slice-2.ensures ∙ b3) at c.push_line-2.ensures.ok in
    let key : List ℕ = key_text c.args.codes.now in
    let channel : Channel = c.args.channel.now in
    let text : List ℕ = c.args.text.now.items in
    IfOk-equal c.push_line-2.result _ _ _ b4
    (joined text key (decimal channel.records) (decimal channel.samples)
    (text_or_none head_text (head_in channel.findings)) (text_or_none tail_text (tail_in channel.findings))
    (found_text channel.findings)
    ∙ ap (λ (f : List ℕ). text ++ (key ++ codes " records " ++ decimal channel.records ++ codes " samples "
    ++ decimal channel.samples ++ f ++ codes "\n")) (all_text channel.findings))

pub returns-clause-prefix : goal.returns-clause-prefix
returns-clause-prefix g c = prefix_trans _ _ _ c.push_line.ensures.prefix c.push_line-2.ensures.prefix
