use Rattle.std.proofs.Common.{◌≡◌, List, map, Err, vec_items, sym, refl, ap, ◌∙◌, subst, rules}
use Rattle.std.proofs.lemmas.Result.{err_from_is_err_and}
use Rattle.schedule.specs.Edges.{Orderly}
use Rattle.schedule.specs.Plans.{Planned}
use Rattle.schedule.specs.Scheduling.{Scheduled}
use Rattle.schedule.proofs.Standing.{orderly}
use Rattle.syntax.specs.declared.record.Record.{Record}
use Rattle.syntax.specs.Entries.{entry_of, entries_of}
use Rattle.tables.specs.Reading.{checked}
use Rattle.walks.specs.declared.edge.SheetEntry.{SheetEntry}
use Rattle.tables.specs.Checking.{Admits}
use Rattle.tables.proofs.Passing.{written_law, order_of, starved, plan_stopped, plan_accepts, accepted, holds}
use Rattle.tables.proofs.check.accept.Goals as goal

pub invariant_of-ordered : goal.invariant_of-ordered
invariant_of-ordered c =
    let rs = entries_of c.in_ok-records.records in
    let order = order_of c.args.bytes.now rs (written_law c.args.bytes.now c.type_inv.bytes) c.in_ok-records.ensures in
    record { orderly = subst (λ (l : List Record). Orderly (map entry_of l)) (sym c.deref.ensures.value) (orderly rs order) }

pub returns-in_err-plan : goal.returns-in_err-plan
returns-in_err-plan c =
    let p = err_from_is_err_and c.from_residual-in_err-plan.result c.from_residual-in_err-plan.ensures.1 in
    let bytes = c.args.bytes.now in
    let stopped = subst (λ (l : List Record). Scheduled (map entry_of l) c.args.sheet.now c.make_plan.new.sheet.entries.now (Err c.in_err-plan.field-0.0)) c.deref.ensures.value c.in_err-plan.ensures.scheduled in
    rw (p.1, p.2)
    (subst (λ (x : List SheetEntry). Admits bytes c.args.sheet.now x (Err c.in_err-plan.field-0.0)) (search rules)
    (plan_stopped bytes (entries_of c.in_ok-records.records) c.args.sheet.now c.make_plan.new.sheet.entries.now c.in_err-plan.field-0.0 (written_law bytes c.type_inv.bytes)
    c.in_ok-records.ensures c.if-sheet-lt-LEAST_SHEET.false stopped))

pub returns-in_err-bytes : goal.returns-in_err-bytes
returns-in_err-bytes c =
    let p = err_from_is_err_and c.from_residual-in_err-bytes.result c.from_residual-in_err-bytes.ensures.1 in
    let bytes = c.args.bytes.now in
    rw (p.1, p.2)
    (search rules ∙ c.in_ok-plan.ensures.scheduled.0, starved bytes (entries_of c.in_ok-records.records) c.args.sheet.now (written_law bytes c.type_inv.bytes) c.in_ok-records.ensures c.if-sheet-lt-LEAST_SHEET.false)

pub new-requires : goal.new-requires
new-requires c = subst (λ (l : List Record). Planned (map entry_of l) c.in_ok-plan.plan) c.deref.ensures.value c.in_ok-plan.ensures.scheduled.1

pub returns-in_err-content : goal.returns-in_err-content
returns-in_err-content c =
    let p = err_from_is_err_and c.from_residual-in_err-content.result c.from_residual-in_err-content.ensures.1 in
    let bytes = c.args.bytes.now in
    rw (p.1, p.2)
    (search rules ∙ c.in_ok-plan.ensures.scheduled.0, starved bytes (entries_of c.in_ok-records.records) c.args.sheet.now (written_law bytes c.type_inv.bytes) c.in_ok-records.ensures c.if-sheet-lt-LEAST_SHEET.false)

pub invariant_of-result : goal.invariant_of-result
invariant_of-result c =
    let same : vec_items c.in_ok-bytes.bytes ≡ c.args.bytes.now = search rules in
    let planned = subst (λ (l : List Record). Planned (map entry_of l) c.in_ok-plan.plan) c.deref.ensures.value c.in_ok-plan.ensures.scheduled.1 in
    let order = order_of c.args.bytes.now (entries_of c.in_ok-records.records) (written_law c.args.bytes.now c.type_inv.bytes) c.in_ok-records.ensures in
    record { accepted = ∣ accepted (vec_items c.in_ok-bytes.bytes) (entries_of c.in_ok-records.records) (ap checked same ∙ c.in_ok-records.ensures) c.in_ok-plan.plan c.in_ok-content.content c.in_ok-content.ensures order planned c.in_ok-plan.ensures.scheduled.2 ∣₁ }

pub returns : goal.returns
returns c =
    let rs = entries_of c.in_ok-records.records in
    let same : vec_items c.in_ok-bytes.bytes ≡ c.args.bytes.now = search rules in
    let planned = subst (λ (l : List Record). Planned (map entry_of l) c.in_ok-plan.plan) c.deref.ensures.value c.in_ok-plan.ensures.scheduled.1 in (
      c.if-sheet-lt-LEAST_SHEET.false,
      search rules ∙ c.in_ok-plan.ensures.scheduled.0,
      plan_accepts c.args.bytes.now rs c.in_ok-plan.plan c.in_ok-records.ensures planned c.in_ok-plan.ensures.scheduled.2,
      holds c.args.bytes.now rs c.in_ok-records.ensures _ _ same refl,
    )
