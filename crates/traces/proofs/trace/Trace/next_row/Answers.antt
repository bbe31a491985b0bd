use Rattle.std.proofs.Common.{◌≤◌, length, sym, ap, ◌∙◌, subst}
use Rattle.traces.specs.Reading.{row_from}
use Rattle.traces.proofs.Left.{one_less, none_left}
use Rattle.traces.proofs.trace.Trace.next_row.Goals as goal

pub returns-in_default : goal.returns-in_default
returns-in_default c =
    let t = c.args.self.now in
    none_left t.bytes.items t.at _ (ap (λ bs. row_from bs t.at) (sym c.deref.ensures.value) ∙ c.in_default.ensures.value.1) t.whole

pub returns : goal.returns
returns c =
    let t = c.args.self.now in
    let row = c.in-Ok.ensures.value in
    let on = c.in-Ok.ensures.onward in
    let n = c.read_row.new.reader.at in
    let inside : n ≤ length t.bytes.items = subst (λ bs. n ≤ length bs) (row.0 ∙ c.deref.ensures.value) c.read_row.new.reader.inside in
    let rest = one_less t.bytes.items t.at n row.1 on inside (ap (λ bs. row_from bs t.at) (sym c.deref.ensures.value) ∙ row.2) t.whole in
    (row.1, rest.0, row.3, on, inside, rest.1)
