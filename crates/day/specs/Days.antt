-- A day: the calls that a host asks for, one after another, and what they come to. Assumes nothing.
use Rattle.std.specs.Prelude.{◌≡◌, ℕ, ◌<◌, ◌⊎◌, List, [], ◌∷◌, length, Some, None, Ok, Err, Result}
use Rattle.faults.specs.declared.fault.Fault.{Fault}
use Rattle.faults.specs.declared.stop.Stop.{Stop}
use Rattle.faults.specs.declared.stop.Stop.TheVariants as stop
use Rattle.alarms.specs.declared.sink.Sink.{Ghosts as Sink}
use Rattle.alarms.specs.Sinks.{TookAll}
use Rattle.sampling.specs.declared.sampler.Sampler.{Ghosts as Sampler}
use Rattle.sampling.specs.Rows.{Readings, nothing}
use Rattle.schedule.specs.declared.plan.Counts.{Counts}
use Rattle.walks.specs.declared.edge.SheetEntry.{SheetEntry}
use Rattle.tables.specs.declared.table.Table.{Table}
use Rattle.tables.specs.Checking.{Answers, Decided}
use Rattle.tables.specs.Rejecting.{Rejection}
use Rattle.tables.specs.Tables.{plan_of}
use Rattle.rings.specs.Calls.{OpensRings}
use Rattle.engine.specs.Rings.{rings_of}
use Rattle.monitor.specs.States.{opened_on}
use Rattle.monitor.specs.Refusals.{no_room}
use Rattle.monitor.specs.Histories.{History, new_day, all_taken, Follows}
use Rattle.day.specs.declared.calls.Answer.{Answer}
use Rattle.day.specs.declared.calls.Call.{Call}
use Rattle.day.specs.declared.host.Host.{Ghosts as Host}
use Rattle.day.specs.declared.states.Monitor.{Monitor}
use Rattle.day.specs.declared.states.Monitor.TheVariants as kind
use Rattle.day.specs.Calls.{state_in, Moment, moment, Did, StandsIn}

-- a call that was made, and what it answered
pub record Line : Type 0 where
  pub call : Call
  pub answer : Answer

-- over any sampler, any sink and any host, and by any table
module _ {S K H : Type 0} (sampler : Sampler S) (sink : Sink K) (host : Host H S K) (t : Table) where
  -- one call, from a host g and a moment m to g' and n: the host asked for it, and handled sampler and sink; the call was made; and the host heard what it answered
  pub record Turn (line : Line) (g : H) (m : Moment S K) (g' : H) (n : Moment S K) : Type 0 where
    pub asked : H
    pub handled : H
    pub sampler' : S
    pub sink' : K
    pub asks : host.asks g (Some line.call) asked
    pub handles : host.handles line.call asked m.sampler m.sink handled sampler' sink'
    -- what follows from what happened until then
    pub follows : Follows t m.past (state_in m.monitor)
    pub did : Did sampler sink t line.call line.answer (record m { sampler = sampler'; sink = sink' }) n
    pub hears : host.hears line.answer handled g'

  -- calls one after another
  abbrev pub Turns : List Line → H → Moment S K → H → Moment S K → Type 0
  Turns [] g m g' n = (g' ≡ g) × (n ≡ m)
  Turns (line ∷ lines) g m g' n = (h : H) × (o : Moment S K) × Turn line g m h o × Turns lines h o g' n

  -- the calls end where the host asks for nothing more, before there are `most`; or where there are so many, and it is not asked again
  abbrev pub DayEnds : ℕ → ℕ → H → H → Type 0
  DayEnds most calls g g' = ((calls < most) × host.asks g None g') ⊎ ((calls ≡ most) × (g' ≡ g))

  -- all calls from a moment on, and the history and the row with which they end
  pub record AllCalls (most : ℕ) (g : H) (m : Moment S K) (monitor : Monitor) (rings : List ℕ) (s : S) (k : K) (g' : H) : Type 0 where
    pub past : History
    pub row : Readings
    pub lines : List Line
    pub heard : H
    pub turns : Turns lines g m heard (moment monitor past row rings s k)
    pub ends : DayEnds most (length lines) heard g'
    -- and the monitor can go on
    pub stands : StandsIn t past row monitor rings

  -- so it is from any moment on at which monitor and rings stand as after what happened
  abbrev pub MakesCalls : ℕ → Monitor → List ℕ → S → K → H → Monitor → List ℕ → S → K → H → Type 0
  MakesCalls most monitor rings s k g monitor' rings' s' k' g' =
      (h : History) (row : Readings) → StandsIn t h row monitor rings
      → AllCalls most g (moment monitor h row rings s k) monitor' rings' s' k' g'

  -- the host leaves the sink as it shows
  abbrev pub LeavesSink : Type 0
  LeavesSink = (call : Call) (g : H) (s : S) (k : K) (g' : H) (s' : S) (k' : K) → host.handles call g s k g' s' k' → sink.view k' ≡ sink.view k

  -- a whole day: the rings are opened, and the calls made; in the end exactly one set of values meets the equations on what was judged, and the alarms that it calls are those settled, in order, and then those due, as many as the monitor counts;
  -- and a sink that the host leaves as it shows shows what taking the taken ones, in order, makes of what it showed at first
  pub record Day (most : ℕ) (rings : List ℕ) (s : S) (k : K) (g : H) (monitor : Monitor) (rings' : List ℕ) (s' : S) (k' : K) (g' : H) : Type 0 where
    pub opened : List ℕ
    pub opens : OpensRings (rings_of t) rings opened
    pub calls : AllCalls most g (moment (kind.Ready (opened_on (plan_of t).counts)) new_day nothing opened s k) monitor rings' s' k' g'
    pub follows : Follows t calls.past (state_in monitor)
    pub took : LeavesSink → TookAll sink.adds (all_taken calls.past.settled) (sink.view k) (sink.view k')

  -- nothing of the four was touched
  pub record Untouched (rings : List ℕ) (s : S) (k : K) (g : H) (rings' : List ℕ) (s' : S) (k' : K) (g' : H) : Type 0 where
    pub rings_are : rings' ≡ rings
    pub sampler_is : s' ≡ s
    pub sink_is : k' ≡ k
    pub host_is : g' ≡ g

  -- a day is run where the rings have room; otherwise its opening is refused
  abbrev pub RunsDay : ℕ → List ℕ → S → K → H → Result Monitor Fault → List ℕ → S → K → H → Type 0
  RunsDay most rings s k g (Ok monitor) rings' s' k' g' =
      (no_room (plan_of t).counts rings ≡ None) × Day most rings s k g monitor rings' s' k' g'
  RunsDay most rings s k g (Err fault) rings' s' k' g' =
      (no_room (plan_of t).counts rings ≡ Some fault) × Untouched rings s k g rings' s' k' g'

  -- the same where the bytes of the table were checked first
  abbrev pub RunsIfChecked : Result Counts Rejection → ℕ → List ℕ → S → K → H → Result Monitor (Stop Fault) → List ℕ → S → K → H → Type 0
  RunsIfChecked (Err x) most rings s k g result rings' s' k' g' = (result ≡ Err x) × Untouched rings s k g rings' s' k' g'
  RunsIfChecked (Ok c) most rings s k g (Ok monitor) rings' s' k' g' = RunsDay most rings s k g (Ok monitor) rings' s' k' g'
  RunsIfChecked (Ok c) most rings s k g (Err (stop.Refused fault)) rings' s' k' g' = RunsDay most rings s k g (Err fault) rings' s' k' g'
  RunsIfChecked (Ok c) most rings s k g (Err stop.Memory) rings' s' k' g' = ⊥

-- a day from bytes: what the check answers and decides of them, and leaves of table and sheet; and the day, by the table that it left
pub record TakesDay {S K H : Type 0} (sampler : Sampler S) (sink : Sink K) (host : Host H S K) (old new : Table) (bytes : List ℕ) (sheet sheet' : List SheetEntry) (most : ℕ) (rings : List ℕ) (s : S) (k : K) (g : H) (result : Result Monitor (Stop Fault)) (rings' : List ℕ) (s' : S) (k' : K) (g' : H) : Type 0 where
  pub check : Result Counts Rejection
  pub answers : Answers old new bytes sheet sheet' check
  pub decided : Decided bytes sheet check
  pub runs : RunsIfChecked sampler sink host new check most rings s k g result rings' s' k' g'
