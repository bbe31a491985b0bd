-- What one call of a day does, in any state of the monitor. Assumes nothing.
use Rattle.std.specs.Prelude.{◌≡◌, ℕ, Bool, true, false, List, Some, None, Option, MatchBool}
use Rattle.faults.specs.declared.fault.Fault.{Fault}
use Rattle.alarms.specs.declared.alarm.Alarm.{Alarm}
use Rattle.alarms.specs.declared.sink.Sink.{Ghosts as Sink}
use Rattle.alarms.specs.Sinks.{Taken}
use Rattle.sampling.specs.declared.sampler.Sampler.{Ghosts as Sampler}
use Rattle.sampling.specs.Rows.{Readings}
use Rattle.tables.specs.declared.table.Table.{Table}
use Rattle.rings.specs.Calls.{StoresSamples, Judges}
use Rattle.engine.specs.Rings.{rings_of, HasRoom}
use Rattle.engine.specs.Rules.{true_rules}
use Rattle.monitor.specs.declared.counts.AlarmCounts.{AlarmCounts}
use Rattle.monitor.specs.States.{State, with_tick, with_taken, with_struck, alarm_counts}
use Rattle.monitor.specs.Samples.{row_value, Polls}
use Rattle.monitor.specs.Delivering.{first_alarm, Delivers}
use Rattle.monitor.specs.Refusals.{◌orelse◌, out_of_ticks, unsampled, none_due, no_place, still_due, no_stream, no_value}
use Rattle.monitor.specs.Histories.{History, with_row, with_fate, taken, struck, Follows, IsFirstDue, Shows}
use Rattle.monitor.specs.Standing.{StandsAfter, PendsAfter}
use Rattle.day.specs.declared.calls.Answer.{Answer}
use Rattle.day.specs.declared.calls.Answer.TheVariants.{Sampled, Judged, Delivered, Struck, Closed, Shown, Refused, Absent}
use Rattle.day.specs.declared.calls.Call.{Call}
use Rattle.day.specs.declared.calls.Call.TheVariants.{Sample, Judge, Deliver, Strike, Close, Show}
use Rattle.day.specs.declared.states.Monitor.{Monitor}
use Rattle.day.specs.declared.states.Monitor.TheVariants as kind

-- what a monitor shows, whichever of its states it is in
abbrev pub state_in : Monitor → State
state_in (kind.Ready s) = s
state_in (kind.Sampled s) = s
state_in (kind.Judged s) = s

-- which calls a state has
abbrev pub has : Monitor → Call → Bool
has (kind.Ready s) Sample = true
has (kind.Ready s) (Show n) = true
has (kind.Ready s) call = false
has (kind.Sampled s) Judge = true
has (kind.Sampled s) call = false
has (kind.Judged s) Deliver = true
has (kind.Judged s) Strike = true
has (kind.Judged s) Close = true
has (kind.Judged s) call = false

-- a moment of a day: the monitor, what happened so far, the row that was sampled last, and the rings, the sampler and the sink as they are
pub record Moment (S K : Type 0) : Type 0 where
  pub monitor : Monitor
  pub past : History
  pub row : Readings
  pub rings : List ℕ
  pub sampler : S
  pub sink : K

abbrev pub moment : {S K : Type 0} → Monitor → History → Readings → List ℕ → S → K → Moment S K
moment monitor past row rings sampler sink =
    record { monitor = monitor; past = past; row = row; rings = rings; sampler = sampler; sink = sink }

-- the fault in an answer
abbrev pub fault_in : Answer → Option Fault
fault_in (Refused f) = Some f
fault_in answer = None

-- one call from m to n, over any sampler and any sink
module _ {S K : Type 0} (sampler : Sampler S) (sink : Sink K) (t : Table) where
  -- why a call is refused, if it is: the first reason that there is
  abbrev pub reason : Call → Moment S K → Moment S K → Option Fault
  reason Sample m n = out_of_ticks (state_in m.monitor) orelse unsampled t (sampler.meaning m.sampler) (sampler.meaning n.sampler)
  reason Judge m n = None
  reason Deliver m n = none_due (state_in m.monitor) orelse no_place sink m.sink (first_alarm t m.rings (state_in m.monitor))
  reason Strike m n = none_due (state_in m.monitor)
  reason Close m n = still_due (state_in m.monitor)
  reason (Show s) m n = no_stream t s orelse no_value (state_in m.monitor) t s

  -- a refused call changes nothing, but that a sample may have latched, and a delivery been offered
  abbrev pub Kept : Call → Moment S K → Moment S K → Type 0
  Kept Sample m n = Polls sampler (out_of_ticks (state_in m.monitor)) m.sampler n.sampler × (n ≡ record m { sampler = n.sampler })
  Kept Deliver m n =
      Delivers sink (none_due (state_in m.monitor)) (first_alarm t m.rings (state_in m.monitor)) m.sink n.sink
      × (n ≡ record m { sink = n.sink })
  Kept call m n = n ≡ m

  -- the sampler latched once, and its next row was stored as the next tick's samples
  pub record IsSampled (m n : Moment S K) : Type 0 where
    pub next : (sampler.meaning m.sampler).next ≡ Some n.row
    pub latched : (sampler.meaning n.sampler).present ≡ n.row
    pub moved : sampler.moves m.sampler n.sampler
    pub stored : StoresSamples (rings_of t) (state_in m.monitor).ticks (row_value n.row) m.rings n.rings
    pub rest : n ≡ record m { monitor = kind.Sampled (state_in m.monitor); row = n.row; rings = n.rings; sampler = n.sampler }

  -- the sampled row was judged, and the rules that are true became due
  pub record IsJudged (c : AlarmCounts) (m n : Moment S K) : Type 0 where
    pub judged : Judges (rings_of t) (state_in m.monitor).ticks m.rings n.rings
    pub counts : c ≡ alarm_counts (state_in n.monitor)
    pub rest : n ≡ record m { monitor = kind.Judged (with_tick (true_rules t n.rings (state_in m.monitor).ticks) (state_in m.monitor)); past = with_row m.past m.row; rings = n.rings }

  -- the sink took the first due alarm
  pub record IsDelivered (c : AlarmCounts) (m n : Moment S K) : Type 0 where
    pub alarm : Alarm
    pub first : IsFirstDue t m.past (state_in m.monitor) alarm
    pub took : Taken sink.adds alarm (sink.view m.sink) (sink.view n.sink)
    pub moved : sink.moves alarm m.sink n.sink
    pub counts : c ≡ alarm_counts (state_in n.monitor)
    pub rest : n ≡ record m { monitor = kind.Judged (with_taken (state_in m.monitor)); past = with_fate m.past (taken alarm); sink = n.sink }

  -- the first due alarm was dropped
  pub record IsStruck (c : AlarmCounts) (m n : Moment S K) : Type 0 where
    pub alarm : Alarm
    pub first : IsFirstDue t m.past (state_in m.monitor) alarm
    pub counts : c ≡ alarm_counts (state_in n.monitor)
    pub rest : n ≡ record m { monitor = kind.Judged (with_struck (state_in m.monitor)); past = with_fate m.past (struck alarm) }

  -- what a call did, by what it answered
  abbrev pub Effect : Call → Answer → Moment S K → Moment S K → Type 0
  Effect call Sampled m n = (call ≡ Sample) × IsSampled m n
  Effect call (Judged c) m n = (call ≡ Judge) × IsJudged c m n
  Effect call (Delivered c) m n = (call ≡ Deliver) × IsDelivered c m n
  Effect call (Struck c) m n = (call ≡ Strike) × IsStruck c m n
  Effect call Closed m n = (call ≡ Close) × (n ≡ record m { monitor = kind.Ready (state_in m.monitor) })
  Effect call (Shown x) m n = (s : ℕ) × (call ≡ Show s) × Shows t m.past (state_in m.monitor) s x × (n ≡ m)
  Effect call (Refused f) m n = Kept call m n
  Effect call Absent m n = ⊥

  -- a call that the state has is refused exactly if there is a reason, and by the first; and it did what it answered
  pub record Made (call : Call) (answer : Answer) (m n : Moment S K) : Type 0 where
    pub stops : fault_in answer ≡ reason call m n
    pub effect : Effect call answer m n

  -- of any other call the answer says so, and nothing changes
  abbrev pub Did : Call → Answer → Moment S K → Moment S K → Type 0
  Did call answer m n = MatchBool (has m.monitor call) (Made call answer m n) ((answer ≡ Absent) × (n ≡ m))

-- a monitor, by its state, and its rings after what happened
abbrev pub IsAfter : Table → History → Readings → Monitor → List ℕ → Type 0
IsAfter t h row (kind.Ready s) rings = StandsAfter t h s rings
IsAfter t h row (kind.Sampled s) rings = PendsAfter t h row s rings
IsAfter t h row (kind.Judged s) rings = StandsAfter t h s rings

-- they can go on: the rings have room, and what follows from what happened is what the monitor shows
pub record StandsIn (t : Table) (h : History) (row : Readings) (monitor : Monitor) (rings : List ℕ) : Type 0 where
  pub room : HasRoom t rings
  pub after : IsAfter t h row monitor rings
  pub follows : Follows t h (state_in monitor)

module _ {S K : Type 0} (sampler : Sampler S) (sink : Sink K) (t : Table) where
  -- one call from a moment on, after which monitor and rings can go on
  pub record OneCall (call : Call) (answer : Answer) (m : Moment S K) (monitor : Monitor) (rings : List ℕ) (s : S) (k : K) : Type 0 where
    pub past : History
    pub row : Readings
    pub did : Did sampler sink t call answer m (moment monitor past row rings s k)
    pub stands : StandsIn t past row monitor rings

  -- so it is whatever happened before
  abbrev pub MakesCall : Call → Answer → Monitor → List ℕ → S → K → Monitor → List ℕ → S → K → Type 0
  MakesCall call answer monitor rings s k monitor' rings' s' k' =
      (h : History) (row : Readings) → StandsIn t h row monitor rings → OneCall call answer (moment monitor h row rings s k) monitor' rings' s' k'
