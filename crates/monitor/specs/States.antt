-- What a monitor is to its callers, and what calls make of it. Assumes nothing.
use Rattle.std.specs.Prelude.{ℕ, ◌+◌, List, [], drop, length}
use Rattle.schedule.specs.declared.plan.Counts.{Counts}
use Rattle.monitor.specs.declared.counts.AlarmCounts.{AlarmCounts}
use Rattle.monitor.specs.declared.progress.Progress.{Progress}

-- what was opened; how many ticks were judged; the rules whose alarms are due, in order; how many alarms were taken and struck since new_day
pub record State : Type 0 where
  pub opened : Counts
  pub ticks : ℕ
  pub due : List ℕ
  pub taken : ℕ
  pub struck : ℕ

-- what a monitor keeps shows this
abbrev pub state_of : Progress → State
state_of p = record { opened = p.opened; ticks = p.ticks; due = p.due.items; taken = p.taken; struck = p.struck }

-- newly opened
abbrev pub opened_on : Counts → State
opened_on counts = record { opened = counts; ticks = 0; due = []; taken = 0; struck = 0 }

-- a tick more was judged, and the alarms of these rules are due
abbrev pub with_tick : List ℕ → State → State
with_tick rules s = record s { ticks = s.ticks + 1; due = rules }

-- the first due alarm was taken, or struck
abbrev pub with_taken : State → State
with_taken s = record s { due = drop 1 s.due; taken = s.taken + 1 }

abbrev pub with_struck : State → State
with_struck s = record s { due = drop 1 s.due; struck = s.struck + 1 }

-- how many alarms were called, taken and struck since opening, and how many are due
abbrev pub alarm_counts : State → AlarmCounts
alarm_counts s = record { called = s.taken + s.struck + length s.due; taken = s.taken; struck = s.struck; due = length s.due }
