use Rattle.std.proofs.Common.{◌≡◌, ◌-◌, ◌<◌, ◌≤◌, [], ◌∷◌, map, length, Ok, vec_items, sym, refl, ap, ◌∙◌, subst, arith}
use Rattle.std.proofs.lemmas.List.{map-append}
use Rattle.std.proofs.lemmas.Result.{err_from_is_err_and}
use Rattle.syntax.specs.Entries.{entry_of}
use Rattle.syntax.specs.Readers.{Stopped}
use Rattle.syntax.specs.Reading.{entries, entry_from}
use Rattle.syntax.proofs.Turns.{entries_more, entries_stopped, entries_end}
use Rattle.syntax.proofs.reader.Reader.read_records.Goals as goal

pub loop-self-init : goal.loop-self-init
loop-self-init c =
    let bs = c.args.self.now.bytes.now in
    (refl, omega arith, (length bs, omega arith, ap (λ l. entries (length bs) (map entry_of l) bs c.args.self.now.at) (sym c.new-records.ensures.items)))

pub returns-in_err-record : goal.returns-in_err-record
returns-in_err-record c =
    let bs = c.args.self.now.bytes.now in
    let at = c.loop-self.self.at in
    let same = c.loop-self.invariant.0 in
    let inv = c.loop-self.invariant.2 in
    let room : at < length bs = subst (λ b. at < length b) same c.loop-self-test.true in
    let more : c.args.self.now.at < length bs = omega (arith, c.loop-self.invariant.1) in
    let p = err_from_is_err_and c.from_residual.result c.from_residual.ensures.1 in
    let at_records = ap (λ l. entry_from (map entry_of l) c.loop-self.self.bytes.now at) c.deref.ensures.value in
    let at_bytes = ap (λ b. entry_from (map entry_of (vec_items c.loop-self.records)) b at) same in
    let e = subst (Stopped c.in_err-record.field-0.0) (at_records ∙ at_bytes) c.in_err-record.ensures.value.1 in
    rw (p.1, p.2) (entries_stopped _ bs _ at c.in_err-record.field-0.0 inv.0 more room inv.1 e inv.2)

pub loop-self-preserved : goal.loop-self-preserved
loop-self-preserved c =
    let bs = c.args.self.now.bytes.now in
    let items = vec_items c.loop-self.records in
    let at = c.loop-self.self.at in
    let same = c.loop-self.invariant.0 in
    let inv = c.loop-self.invariant.2 in
    let f = inv.0 in
    let r = c.in_ok-record.record in
    let n = c.read_record.new.self.at in
    let on = c.in_ok-record.ensures.onward in
    let room : at < length bs = subst (λ b. at < length b) same c.loop-self-test.true in
    let e : entry_from (map entry_of items) bs at ≡ Ok (entry_of r, n) =
    ap (λ b. entry_from (map entry_of items) b at) (sym same) ∙ ap (λ l. entry_from (map entry_of l) c.loop-self.self.bytes.now at) (sym c.deref.ensures.value)
    ∙ c.in_ok-record.ensures.value.1 in
    let q = ap (map entry_of) c.in_ok-push.ensures.items ∙ map-append entry_of items (r ∷ []) in
    let w = entries_more _ bs (map entry_of items) at f (entry_of r) n room inv.1 e inv.2 in (
      c.in_ok-record.ensures.value.0 ∙ same,
      omega (arith, on, c.loop-self.invariant.1),
      (f - 1, omega (arith, inv.1, on), w ∙ ap (λ l. entries (f - 1) l bs n) (sym q)),
    )

pub returns : goal.returns
returns c =
    let inv = c.loop-self.invariant.2 in
    entries_end _ c.args.self.now.bytes.now _ _ inv.0 (subst (λ b. length b ≤ c.loop-self.self.at) c.loop-self.invariant.0 c.loop-self-test.false) inv.2
