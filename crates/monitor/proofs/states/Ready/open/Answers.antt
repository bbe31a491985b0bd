use Rattle.std.proofs.Common.{ℕ, List}
use Rattle.schedule.specs.declared.plan.Counts.{Counts}
use Rattle.tables.specs.Tables.{plan_of}
use Rattle.monitor.specs.States.{opened_on}
use Rattle.monitor.specs.Histories.{new_day}
use Rattle.monitor.proofs.Standing.{goes_on, stands_opened}
use Rattle.monitor.proofs.states.Ready.open.Goals as goal

pub returns-clause-day : goal.returns-clause-day
returns-clause-day c =
    let t = c.args.table.now in
    let counts = c.counts-opened.ensures in
    let due = c.new-2.ensures in
    goes_on t new_day (opened_on (plan_of t).counts) _ c.open.new.rings
    (λ i. record { opened = counts i; ticks = 0; due = due i; taken = 0; struck = 0 })
    (stands_opened t c.args.rings.now c.open.new.rings c.open.ensures)
