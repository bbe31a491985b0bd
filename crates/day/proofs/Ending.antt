-- What a day comes to in the end. Assumes nothing.
use Rattle.std.proofs.Common.{◌≡◌, ℕ, ◌≤◌, nat_le, Bool, true, false, if◌then◌else◌, List, length, Some, None, refl, sym, subst}
use Rattle.std.proofs.lemmas.Bool.{leb-true}
use Rattle.faults.specs.declared.fault.Fault.{Fault}
use Rattle.alarms.specs.declared.sink.Sink.{Ghosts as Sink}
use Rattle.alarms.proofs.Offering.{took_none}
use Rattle.sampling.specs.declared.sampler.Sampler.{Ghosts as Sampler}
use Rattle.sampling.specs.Rows.{nothing}
use Rattle.tables.specs.declared.table.Table.{Table}
use Rattle.tables.specs.Tables.{plan_of}
use Rattle.rings.specs.Calls.{OpensRings}
use Rattle.engine.specs.Rings.{rings_of, HasRoom}
use Rattle.monitor.specs.States.{State, opened_on}
use Rattle.monitor.specs.Refusals.{no_room}
use Rattle.monitor.specs.Histories.{new_day}
use Rattle.monitor.specs.Standing.{GoesOn}
use Rattle.day.specs.declared.host.Host.{Ghosts as Host}
use Rattle.day.specs.declared.states.Monitor.{Monitor}
use Rattle.day.specs.declared.states.Monitor.TheVariants as kind
use Rattle.day.specs.Calls.{moment}
use Rattle.day.specs.Days.{MakesCalls, Day}
use Rattle.day.proofs.Running.{turns_took}

-- where opening is not refused, the rings have room, before and after
room_found : (b : Bool) (f : Fault) → (if b then None else Some f) ≡ None → b ≡ true
room_found true f e = refl
room_found false f e = absurd (let z : Some f ≡ None = e in cc)

pub room_opened : (t : Table) (old new : List ℕ) → no_room (plan_of t).counts old ≡ None → OpensRings (rings_of t) old new → HasRoom t new
room_opened t old new none opens =
    let slots = (plan_of t).counts.slots in
    subst (λ n. slots ≤ n) (sym opens.long) (leb-true slots (length old) (room_found (nat_le slots (length old)) _ none))

module _ {S K H : Type 0} (sampler : Sampler S) (sink : Sink K) (host : Host H S K) (t : Table) where
  -- a monitor was opened, and the calls of a day were made
  pub whole_day : (most : ℕ) (rings opened : List ℕ) (s : S) (k : K) (g : H) (ready : State) (monitor : Monitor) (rings' : List ℕ) (s' : S) (k' : K) (g' : H)
      → ready ≡ opened_on (plan_of t).counts → OpensRings (rings_of t) rings opened → GoesOn t new_day ready opened → HasRoom t opened
      → MakesCalls sampler sink host t most (kind.Ready ready) opened s k g monitor rings' s' k' g'
      → Day sampler sink host t most rings s k g monitor rings' s' k' g'
  whole_day most rings opened s k g ready monitor rings' s' k' g' same opens stands room goes =
      let first = opened_on (plan_of t).counts in
      let on : GoesOn t new_day first opened = subst (λ (x : State). GoesOn t new_day x opened) same stands in
      let all : MakesCalls sampler sink host t most (kind.Ready first) opened s k g monitor rings' s' k' g' =
      subst (λ (x : State). MakesCalls sampler sink host t most (kind.Ready x) opened s k g monitor rings' s' k' g') same goes in
      let calls = all new_day nothing (record { room = room; after = on.0; follows = on.1 }) in
      let began = sink.view k in
      record {
        opened = opened;
        opens = opens;
        calls = calls;
        follows = calls.stands.follows;
        took = λ leaves.
            turns_took sampler sink host t began leaves calls.lines g (moment (kind.Ready first) new_day nothing opened s k)
            calls.heard (moment monitor calls.past calls.row rings' s' k') calls.turns (took_none sink.adds began);
      }
