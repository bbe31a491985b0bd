use Rattle.std.proofs.Common.{◌≡◌, List, [], ◌∷◌, map, Ok, vec_items, ap, ◌∙◌, sym, subst, arith}
use Rattle.schedule.specs.declared.plan.Plan.{Plan}
use Rattle.schedule.specs.Edges.{InOrder}
use Rattle.schedule.specs.Plans.{Planned}
use Rattle.syntax.specs.declared.record.Record.{Record}
use Rattle.syntax.specs.Entries.{entry_of, entries_of}
use Rattle.tables.specs.Reading.{checked}
use Rattle.tables.proofs.Beginning.{first_order, first_in_order, first_planned, none_counted}
use Rattle.tables.proofs.Passing.{accepted, holds}
use Rattle.tables.proofs.table.Table.new.Goals as goal

pub new-requires-4 : goal.new-requires-4
new-requires-4 c =
    subst (λ (l : List Record). Planned (map entry_of l) (record { counts = c.default.result; order = c.new.result; rings = c.new-2.result })) (sym c.new-3.ensures.items)
    (first_planned _ (none_counted c.default.result c.default.ensures) c.new.ensures c.new-2.ensures)

pub invariant_of-result : goal.invariant_of-result
invariant_of-result c =
    let p : Plan = record { counts = c.default.result; order = c.new.result; rings = c.new-2.result } in
    let none = sym c.new-3.ensures.items in
    let planned = subst (λ (l : List Record). Planned (map entry_of l) p) none (first_planned p (none_counted c.default.result c.default.ensures) c.new.ensures c.new-2.ensures) in
    let order : checked (vec_items c.in_ok-bytes.bytes) ≡ Ok (entries_of c.new-3.result) = ap checked c.in_ok-bytes.ensures.items ∙ first_order ∙ ap (λ l. Ok (map entry_of l)) none in
    let in_order = subst (λ (l : List Record). InOrder (map entry_of l)) none first_in_order in
    record { accepted = ∣ accepted _ _ order p c.in_ok-content.content c.in_ok-content.ensures in_order planned (omega (arith, c.default.ensures)) ∣₁ }

pub returns : goal.returns
returns c = holds (1 ∷ []) [] first_order _ _ c.in_ok-bytes.ensures.items (none_counted c.default.result c.default.ensures)
