-- Words ask for one command, of the same files.
use Rattle.std.proofs.Common.{◌≡◌, ℕ, inl, inr, List, map, Option, Ok, Err, option_map, refl, ap, subst, sym, ◌∙◌}
use Rattle.mseed_select.specs.Selecting.{selection_of}
use Rattle.mseed_record.specs.Selection.{Selection}
use Rattle.mseed_stream.specs.Device.{BytesWritten}
use Rattle.mseed_words.specs.Words.{AsksFor, IsRefusal, Reading, Requested, asks_for, mistaken, refused, requested}
use Rattle.mseed_words.specs.declared.mistake.Mistake.{Mistake}
use Rattle.mseed_words.specs.declared.refusal.Refusal.{Refusal}
use Rattle.mseed_words.specs.declared.refusal.Refusal.TheVariants.{Text, NoRequest, Memory}
use Rattle.mseed_words.specs.declared.request.Command.{Command}
use Rattle.mseed_words.specs.declared.request.Request.{Request}
use Rattle.mseed.specs.Asked.{HasRefusedRequest, IsAsked, UnlessMemoryLacks}
use Rattle.mseed.specs.Done.{EndsRefused, ReportsMistake}

-- what a reading asks for, and this where it asks for nothing
abbrev asked_by : Requested → Reading → Requested
asked_by other (asks_for r) = r
asked_by other (mistaken m given) = other
asked_by other refused = other

same : (words : List (List ℕ)) (request other : Request) (asked also : Option Selection)
    (files others : List (List ℕ)) → AsksFor words request asked files → AsksFor words other also others
    → requested request asked files ≡ requested other also others
same words request other asked also files others is asks =
    ap (asked_by (requested request asked files)) (sym is ∙ asks)

-- the command that was read is the one that was asked for
pub asked_is : (words : List (List ℕ)) (command : Command) (request : Request) (asked : Option Selection)
    (files : List (List ℕ)) (written : BytesWritten)
    → AsksFor words command.request (option_map selection_of command.selector)
    (map (λ file. file.now) command.files.items)
    → AsksFor words request asked files → UnlessMemoryLacks (IsAsked request asked files) (Ok command) written written
asked_is words command request asked files written is asks =
    let one = same words command.request request (option_map selection_of command.selector) asked
    (map (λ file. file.now) command.files.items) files is asks in
    inl (
      ap (λ (r : Requested). r.request) one,
      ap (λ (r : Requested). r.asked) one,
      ap (λ (r : Requested). r.files) one,
      refl,
    )

-- what is wrong by a reading, and what was given; and these where it says nothing of it
abbrev mistake_in : Mistake → Reading → Mistake
mistake_in other (mistaken m given) = m
mistake_in other (asks_for r) = other
mistake_in other refused = other

abbrev given_in : List ℕ → Reading → List ℕ
given_in other (mistaken m given) = given
given_in other (asks_for r) = other
given_in other refused = other

-- what was refused for a mistake is reported so
pub refused_request : (words : List (List ℕ)) (reading : Reading) (r : Refusal) (status : ℕ) (old new : BytesWritten)
    (m : Mistake) (given : List ℕ) → IsRefusal reading r → EndsRefused words r status old new
    → reading ≡ mistaken m given → UnlessMemoryLacks (HasRefusedRequest words m given) (Err status) old new
refused_request words reading (Text text) status old new m given why ends is =
    absurd (let bad : refused ≡ mistaken m given = sym why ∙ is in cc bad)
refused_request words reading (NoRequest k g) status old new m given why ends is =
    let same : mistaken k g.now ≡ mistaken m given = sym why ∙ is in
    let one : k ≡ m = ap (mistake_in k) same in
    let other : g.now ≡ given = ap (given_in g.now) same in
    inl (
      ends.0,
      subst (λ (q : Mistake). ReportsMistake words q given old new) one
          (subst (λ (t : List ℕ). ReportsMistake words k t old new) other ends.1),
    )
refused_request words reading Memory status old new m given why ends is = inr ends

-- what is asked for is refused for want of memory alone
pub refused_anyway : (words : List (List ℕ)) (reading : Reading) (r : Refusal) (status : ℕ) (old new : BytesWritten)
    (request : Request) (asked : Option Selection) (files : List (List ℕ)) → IsRefusal reading r
    → EndsRefused words r status old new → reading ≡ asks_for (requested request asked files)
    → UnlessMemoryLacks (IsAsked request asked files) (Err status) old new
refused_anyway words reading (Text text) status old new request asked files why ends is =
    absurd (let bad : refused ≡ asks_for (requested request asked files) = sym why ∙ is in cc bad)
refused_anyway words reading (NoRequest k g) status old new request asked files why ends is =
    absurd (let bad : mistaken k g.now ≡ asks_for (requested request asked files) = sym why ∙ is in cc bad)
refused_anyway words reading Memory status old new request asked files why ends is = inr ends

-- what asks for something isn't refused
pub asks_no_mistake : (reading : Reading) (r : Requested) (m : Mistake) (given : List ℕ) → reading ≡ asks_for r
    → reading ≡ mistaken m given → ⊥
asks_no_mistake reading r m given asks is = let bad : asks_for r ≡ mistaken m given = sym asks ∙ is in cc bad

pub asks_not_refused : (reading : Reading) (r : Requested) → reading ≡ asks_for r → reading ≡ refused → ⊥
asks_not_refused reading r asks is = let bad : asks_for r ≡ refused = sym asks ∙ is in cc bad
