use Rattle.std.proofs.Common.{◌+◌, ap, ◌∙◌, subst, sym}
use Rattle.monitor.specs.States.{State, with_tick}
use Rattle.engine.specs.Rings.{rings_of}
use Rattle.engine.specs.Rules.{true_rules}
use Rattle.rings.specs.Calls.{Judges}
use Rattle.monitor.specs.Histories.{with_row}
use Rattle.monitor.proofs.Known.{rules_known}
use Rattle.monitor.proofs.Standing.{goes_on, stands_judged}
use Rattle.monitor.proofs.states.Sampled.judge.Goals as goal

pub invariant_of-progress-clause-known : goal.invariant_of-progress-clause-known
invariant_of-progress-clause-known c =
    rules_known c.args.table.now c.self.inside.progress.opened.records.rules c.find_called.result.items (ap (λ n. n.records.rules) c.in_default.ensures.same) c.find_called.ensures.known

pub returns-clause-day : goal.returns-clause-day
returns-clause-day c h row p =
    let t = c.args.table.now in
    let m = c.args.self in
    let mem = c.judge.new.rings in
    let is = c.self.view_is in
    let ticks = ap (λ (n : State). n.ticks) is in
    let j = subst (λ tick. Judges (rings_of t) tick c.args.rings.now mem) ticks c.judge.ensures.made in
    let rules = c.find_called.ensures.rules ∙ ap (true_rules t mem) ticks in
    goes_on t (with_row h row) (with_tick (true_rules t mem m.ticks) m) _ mem
    (λ i. record { opened = (is i).opened; ticks = (is i).ticks + 1; due = rules i; taken = (is i).taken; struck = (is i).struck })
    (stands_judged t h row m c.args.rings.now mem p j)
