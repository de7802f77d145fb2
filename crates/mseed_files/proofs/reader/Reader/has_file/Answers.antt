use Rattle.std.proofs.Common.{◌≡◌, ◌≤◌, length, vec_capacity, false, is_some, ap, sym, ◌∙◌, arith}
use Rattle.mseed_files.specs.Files.{Contents}
use Rattle.mseed_files.specs.Found.{contents_of}
use Rattle.mseed_files.proofs.Opening.{none_left, opened_along, opened_keeps, unread_next}
use Rattle.mseed_files.proofs.reader.Reader.has_file.Goals as goal

pub invariant_of-self : goal.invariant_of-self
invariant_of-self g c =
    let i = c.self.inside in
    let files : Contents = contents_of (g.F.Files.found i.files.now) i.words.now in
    let after : Contents = contents_of (g.F.Files.found c.open.new.self) i.words.now in
    let index : c.len-index.result ≡ length i.begins.items = omega (arith, c.len-index.ensures, i.begins.ok) in
    let next = unread_next (g.F.Files.found i.files.now) i.words.now _ _ _ (g.F.Files.left c.in-Ok.file) index
    c.if-index-self.false c.self.invariant.1.few c.in-Ok.ensures.bytes in
    let same : after ≡ files = ap (λ f. contents_of f i.words.now) c.open.ensures.found in
    let closed : is_some i.file ≡ false = sym c.is_some.ensures ∙ c.if-is_some.false in
    let room : length after ≤ vec_capacity c.put.new.numbers =
    omega (arith, ap length same, c.self.invariant.0, c.put.ensures.capacity) in (
      room,
      opened_along _ _ _ _ _ _ _ _ same c.put.ensures.items next.0 (none_left g.F.Files.left i.file closed) next.1
          c.self.invariant.1,
    )

pub returns-in-Ok-clause-known : goal.returns-in-Ok-clause-known
returns-in-Ok-clause-known g c =
    let i = c.self.inside in
    let index : c.len-index.result ≡ length i.begins.items = omega (arith, c.len-index.ensures, i.begins.ok) in
    let next = unread_next (g.F.Files.found i.files.now) i.words.now _ _ _ (g.F.Files.left c.in-Ok.file) index
    c.if-index-self.false c.self.invariant.1.few c.in-Ok.ensures.bytes in
    let same = ap (λ f. contents_of f i.words.now) c.open.ensures.found in
    let closed : is_some i.file ≡ false = sym c.is_some.ensures ∙ c.if-is_some.false in
    rw (← c.self.view_is) (opened_keeps _ _ _ _ _ _ _ same c.put.ensures.items next.0
    (none_left g.F.Files.left i.file closed) next.1)
