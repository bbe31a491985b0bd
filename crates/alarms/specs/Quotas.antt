-- A quota as a sink, over the one below. Assumes nothing.
use Rattle.std.specs.Prelude.{◌≡◌, ℕ, zero, suc, ◌+◌, ◌<◌, ◌≤◌, min}
use Rattle.std.proofs.Common.{arith, refl}
use Rattle.faults.specs.declared.cause.Cause.TheVariants.{SinkFull}
use Rattle.faults.specs.declared.fault.Fault.{Fault}
use Rattle.faults.specs.declared.fault.Layer.TheVariants as layer
use Rattle.faults.specs.declared.upper.UpperFault.{UpperFault}
use Rattle.faults.specs.Causes.{refusal}
use Rattle.faults.specs.Faults.{from_below, its_own}
use Rattle.alarms.specs.declared.alarm.Alarm.{Alarm}
use Rattle.alarms.specs.declared.quota.Quota.{Quota}
use Rattle.alarms.specs.declared.sink.Sink.{Ghosts as Sink}
use Rattle.alarms.specs.Sinks.{View, Taken}

-- a quota over a sink, and how many alarms it takes
abbrev pub quota_on : {K : Type 0} → K → ℕ → Quota K
quota_on below left = record { below = below; left = left }

-- the sink below
abbrev pub below_of : {K : Type 0} → Quota K → K
below_of q = q.below

-- how many more alarms the quota takes, whatever lies below
abbrev pub left_of : {K : Type 0} → Quota K → ℕ
left_of q = q.left

-- the quota over another sink
abbrev pub with_below : {K : Type 0} → Quota K → K → Quota K
with_below q k = record q { below = k }

-- holding, number and latest are those below; places are the lesser of its own and the lower ones
abbrev pub limited : {H : Type 0} → ℕ → View H → View H
limited left v = record { holding = v.holding; number = v.number; latest = v.latest; places = min left v.places }

-- its own fault where none of its own places is left, and otherwise the lower one, handed on
abbrev pub spent : ℕ → Fault → UpperFault
spent zero below = its_own layer.Quota SinkFull
spent (suc left) below = from_below below

-- what a quota shows
abbrev pub quota_view : {K : Type 0} (sink : Sink K) → Quota K → View sink.Holding
quota_view sink q = limited q.left (sink.view q.below)

-- the fault of a quota at an alarm for which no place is left
abbrev pub quota_full : {K : Type 0} → Sink K → Quota K → Alarm → UpperFault
quota_full sink q a = spent q.left (sink.full q.below a)

-- an alarm was taken: the sink below has taken it, and the quota takes one less
pub record Passed {K : Type 0} (sink : Sink K) (a : Alarm) (old new : Quota K) : Type 0 where
  pub taken : Taken sink.adds a (sink.view old.below) (sink.view new.below)
  pub below : sink.moves a old.below new.below
  pub left : old.left ≡ new.left + 1

-- an alarm was refused: by a quota that has none left, which asks nothing of the sink below and changes nothing; or below, and all but the sink below is as it was
pub record Rested {K : Type 0} (sink : Sink K) (a : Alarm) (old new : Quota K) : Type 0 where
  pub own : old.left ≡ 0 → new ≡ old
  pub below : 0 < old.left → (new ≡ with_below old new.below) × sink.rests a old.below new.below

-- a quota as a sink, over the sink below
abbrev pub quota_over : {K : Type 0} → Sink K → Sink (Quota K)
quota_over sink =
    record {
      Holding = sink.Holding;
      view = quota_view sink;
      adds = sink.adds;
      full = λ q a. (quota_full sink q a).fault;
      moves = Passed sink;
      rests = Rested sink;
    }

pub limited_bounded : {H : Type 0} (left : ℕ) (v : View H) → v.number + v.places ≤ 4294967295 → (limited left v).number + (limited left v).places ≤ 4294967295
limited_bounded left v h = omega (arith, h)

pub spent_refuses : (left : ℕ) (below : Fault) → refusal below.cause ≡ (17, 0) → refusal (spent left below).fault.cause ≡ (17, 0)
spent_refuses zero below h = refl
spent_refuses (suc left) below h = h
