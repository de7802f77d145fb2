use Rattle.std.proofs.Common.{◌≡◌, ◌+◌, ◌<◌, ◌≤◌, ◌++◌, ◌∷◌, [], List, ℕ, length, get_or, map}
use Rattle.std.proofs.Common.{take, append_assoc}
use Rattle.std.proofs.lemmas.List.{map_more, take_all}
use Rattle.mseed_text.specs.Shown.{shown_byte}
use Rattle.mseed_files.proofs.naming.named_line.Goals as goal

one_shown : (line now before word : List ℕ) (i byte : ℕ) → i < length word
    → line ≡ before ++ map shown_byte (take i word) → byte ≡ shown_byte (get_or word i 0) → now ≡ line ++ byte ∷ []
    → now ≡ before ++ map shown_byte (take (i + 1) word)
one_shown line now before word i byte less so_far is_shown is =
    rw (is, so_far, is_shown, map_more shown_byte word i 0 less, append_assoc)

all_shown : (line now before word after : List ℕ) (i : ℕ) → length word ≤ i
    → line ≡ before ++ map shown_byte (take i word) → now ≡ line ++ after
    → now ≡ (before ++ map shown_byte word) ++ after
all_shown line now before word after i done so_far is = rw (is, so_far, take_all i word done)

pub loop-byte-preserved : goal.loop-byte-preserved
loop-byte-preserved c =
    one_shown c.loop-byte.line.items c.push.new.self.items c.args.before.now c.args.word.now c.loop-byte.byte-index
    c.shown_byte.result c.loop-byte-test.true c.loop-byte.invariant c.shown_byte.ensures c.in_ok-push.ensures.items

pub returns : goal.returns
returns c =
    all_shown c.loop-byte.line.items c.extend_from_slice-2.new.self.items c.args.before.now c.args.word.now
    c.args.after.now c.loop-byte.byte-index c.loop-byte-test.false c.loop-byte.invariant
    c.in_ok-extend_from_slice-2.ensures.items
