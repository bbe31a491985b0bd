use Rattle.std.proofs.Common.{List, map, refl, ap, ◌∙◌, inl, inr, rules}
use Rattle.std.proofs.lemmas.Result.{err_from_is_err_and}
use Rattle.syntax.specs.Entries.{Entry, entry_of}
use Rattle.schedule.proofs.Scheduling.{fits_of, blames_of, planned_of, overfull}
use Rattle.schedule.proofs.Serving.{serves}
use Rattle.schedule.proofs.plan.make_plan.Goals as goal

pub invariant_of-graph : goal.invariant_of-graph
invariant_of-graph c =
    let counts = c.of-counts.ensures in record {
      fits = fits_of (map entry_of c.args.ordered.now.records.now) c.args.ordered.now.orderly _ _ _ (ap (λ n. n.channels) counts) (ap (λ n. n.streams) counts) (c.deref.ensures.value ∙ c.in_ok-edges.ensures);
    }

pub returns-in_err-layout-clause-scheduled : goal.returns-in_err-layout-clause-scheduled
returns-in_err-layout-clause-scheduled c =
    let p = err_from_is_err_and c.from_residual-in_err-layout.result c.from_residual-in_err-layout.ensures.1 in
    let counts = c.of-counts.ensures in
    rw (p.1, p.2)
    (inl (blames_of (map entry_of c.args.ordered.now.records.now) c.args.ordered.now.orderly _ _ _ (ap (λ n. n.channels) counts) (ap (λ n. n.streams) counts)
    (c.deref.ensures.value ∙ c.in_ok-edges.ensures) c.args.sheet.now.entries.now c.weigh_walks.new.sheet.entries.now c.in_err-layout.field-0.0 c.in_err-layout.ensures.weighed))

pub returns-then-plan-gt-MOST_SLOTS-clause-scheduled : goal.returns-then-plan-gt-MOST_SLOTS-clause-scheduled
returns-then-plan-gt-MOST_SLOTS-clause-scheduled c =
    let rs : List Entry = map entry_of c.args.ordered.now.records.now in
    let counts = c.of-counts.ensures in
    let (kept, plan) = planned_of rs c.args.ordered.now.orderly _ _ _ (ap (λ n. n.channels) counts) (ap (λ n. n.streams) counts)
    (c.deref.ensures.value ∙ c.in_ok-edges.ensures) c.args.sheet.now.entries.now c.weigh_walks.new.sheet.entries.now _ (ap (λ n. n.rules) counts)
    c.in_ok-layout.layout c.lay_plan-plan.result c.in_ok-layout.ensures.weighed c.lay_plan-plan.ensures in
    inr (_, refl, kept, overfull rs c.lay_plan-plan.result plan c.if-plan-gt-MOST_SLOTS.true)

pub returns : goal.returns
returns c =
    let rs : List Entry = map entry_of c.args.ordered.now.records.now in
    let counts = c.of-counts.ensures in
    let (kept, plan) = planned_of rs c.args.ordered.now.orderly _ _ _ (ap (λ n. n.channels) counts) (ap (λ n. n.streams) counts)
    (c.deref.ensures.value ∙ c.in_ok-edges.ensures) c.args.sheet.now.entries.now c.weigh_walks.new.sheet.entries.now _ (ap (λ n. n.rules) counts)
    c.in_ok-layout.layout c.lay_plan-plan.result c.in_ok-layout.ensures.weighed c.lay_plan-plan.ensures in
    record {
      scheduled = (kept, plan, c.if-plan-gt-MOST_SLOTS.false);
      serves = serves rs c.args.ordered.now.orderly c.lay_plan-plan.result plan;
      same = search rules;
    }
