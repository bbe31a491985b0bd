-- A relay as a sink, over the two that it relays to. Assumes nothing.
use Rattle.std.specs.Prelude.{◌≡◌, ℕ, ◌+◌, ◌≤◌, true, false, Bool, min, if◌then◌else◌}
use Rattle.faults.specs.declared.fault.Fault.{Fault}
use Rattle.faults.specs.declared.upper.UpperFault.{UpperFault}
use Rattle.faults.specs.Causes.{refusal}
use Rattle.faults.specs.Faults.{from_below}
use Rattle.std.proofs.Common.{arith}
use Rattle.alarms.specs.declared.alarm.Alarm.{Alarm}
use Rattle.alarms.specs.declared.sink.Sink.{Ghosts as Sink}
use Rattle.alarms.specs.Sinks.{View, has_place, Taken}
use Rattle.devices.specs.declared.relay.Relay.{Relay}

-- a relay to two sinks, which has refused nothing yet
abbrev pub relay_to : {A B : Type 0} → A → B → Relay A B
relay_to first second = record { first = first; second = second; refused = 0 }

-- the sink that is asked first
abbrev pub first_of : {A B : Type 0} → Relay A B → A
first_of r = r.first

-- the other one
abbrev pub second_of : {A B : Type 0} → Relay A B → B
second_of r = r.second

-- how many alarms were refused, in 32 bits
abbrev pub refused_offers : {A B : Type 0} → Relay A B → ℕ
refused_offers r = r.refused

-- holding is that of both; number and latest are those of the first; places are the lesser
abbrev pub both : {H K : Type 0} → View H → View K → View (H × K)
both v w = record { holding = (v.holding, w.holding); number = v.number; latest = v.latest; places = min v.places w.places }

-- the fault of the first where it has no place for an alarm, and otherwise that of the second, handed on
abbrev pub from_either : {H : Type 0} → View H → Alarm → Fault → Fault → UpperFault
from_either v a first second = from_below (if has_place v a then second else first)

-- ---- over any two sinks
module _ {A B : Type 0} (s : Sink A) (t : Sink B) where
  -- what a relay shows
  abbrev pub relay_view : Relay A B → View (s.Holding × t.Holding)
  relay_view r = both (s.view (first_of r)) (t.view (second_of r))

  -- the fault of a relay at an alarm for which no place is left
  abbrev pub relay_full : Relay A B → Alarm → UpperFault
  relay_full r a = from_either (s.view (first_of r)) a (s.full (first_of r) a) (t.full (second_of r) a)

  -- an alarm was taken: both sinks have taken it, and the count of refusals stays
  pub record Passed (a : Alarm) (old new : Relay A B) : Type 0 where
    pub first : Taken s.adds a (s.view (first_of old)) (s.view (first_of new))
    pub second : Taken t.adds a (t.view (second_of old)) (t.view (second_of new))
    pub first_moved : s.moves a (first_of old) (first_of new)
    pub second_moved : t.moves a (second_of old) (second_of new)
    pub refused : refused_offers new ≡ refused_offers old

  -- the first refused an alarm, and the second was not asked
  pub record FirstRefused (a : Alarm) (old new : Relay A B) : Type 0 where
    pub first : s.view (first_of new) ≡ s.view (first_of old)
    pub rested : s.rests a (first_of old) (first_of new)
    pub second : second_of new ≡ second_of old

  -- the second refused an alarm, and the first was not asked
  pub record SecondRefused (a : Alarm) (old new : Relay A B) : Type 0 where
    pub first : first_of new ≡ first_of old
    pub second : t.view (second_of new) ≡ t.view (second_of old)
    pub rested : t.rests a (second_of old) (second_of new)

  -- one of them refused an alarm: the first where it had no place for it, and otherwise the second; the other one is as it was
  pub record Declined (a : Alarm) (old new : Relay A B) : Type 0 where
    pub first : has_place (s.view (first_of old)) a ≡ false → FirstRefused a old new
    pub second : has_place (s.view (first_of old)) a ≡ true → SecondRefused a old new

  -- an alarm was refused: by one of them, and one refusal more is counted, as far as 32 bits go
  pub record Rested (a : Alarm) (old new : Relay A B) : Type 0 where
    pub declined : Declined a old new
    pub refused : refused_offers new ≡ min (refused_offers old + 1) 4294967295

  -- a relay as a sink
  abbrev pub relay_over : Sink (Relay A B)
  relay_over =
      record {
        Holding = s.Holding × t.Holding;
        view = relay_view;
        adds = λ h a. (s.adds h.0 a, t.adds h.1 a);
        full = λ r a. (relay_full r a).fault;
        moves = Passed;
        rests = Rested;
      }

pub both_bounded : {H K : Type 0} (v : View H) (w : View K) → v.number + v.places ≤ 4294967295 → (both v w).number + (both v w).places ≤ 4294967295
both_bounded v w h = omega (arith, h)

pub either_refuses : {H : Type 0} (v : View H) (a : Alarm) (first second : Fault) → refusal first.cause ≡ (17, 0) → refusal second.cause ≡ (17, 0) → refusal (from_either v a first second).fault.cause ≡ (17, 0)
either_refuses v a first second h k = by_place (has_place v a) where
  by_place : (b : Bool) → refusal (if b then second else first).cause ≡ (17, 0)
  by_place true = k
  by_place false = h
