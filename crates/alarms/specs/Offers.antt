-- Alarms offered one after another. Assumes nothing.
use Rattle.std.specs.Prelude.{◌≡◌, ℕ, ◌-◌, ◌≤◌, ◌⊎◌, false, List, [], ◌∷◌, length, take, slice_get, Some, Ok, Err, Result}
use Rattle.faults.specs.declared.fault.Fault.{Fault}
use Rattle.alarms.specs.declared.alarm.Alarm.{Alarm}
use Rattle.alarms.specs.declared.offer.Untaken.{Untaken}
use Rattle.alarms.specs.declared.quota.Quota.{Quota}
use Rattle.alarms.specs.declared.sink.Sink.{Ghosts as Sink}
use Rattle.alarms.specs.Quotas.{below_of, left_of, quota_over}
use Rattle.alarms.specs.Sinks.{TookAll, has_place}

-- these were taken in order, from one state of a sink to another
abbrev pub Ran : {S : Type 0} → Sink S → S → List Alarm → S → Type 0
Ran sink s [] t = t ≡ s
Ran {S} sink s (x ∷ xs) t = (m : S) × sink.moves x s m × Ran sink m xs t

-- of these, offered in order, the first n are taken; fewer than all only where there is no place for the next
pub record Takes {S : Type 0} (sink : Sink S) (s : S) (xs : List Alarm) (n : ℕ) (t : S) : Type 0 where
  pub few : n ≤ length xs
  pub ran : Ran sink s (take n xs) t
  pub took : TookAll sink.adds (take n xs) (sink.view s) (sink.view t)
  pub ends : (a : Alarm) → slice_get xs n ≡ Some a → has_place (sink.view t) a ≡ false

-- one alarm was offered and refused by a fault: what the sink shows is kept, and the rest of it is what a refused offer of that alarm leaves
pub record Refuses {S : Type 0} (sink : Sink S) (a : Alarm) (old : S) (fault : Fault) (new : S) : Type 0 where
  pub by_fault : fault ≡ sink.full old a
  pub view : sink.view new ≡ sink.view old
  pub rested : sink.rests a old new

-- all are taken; or the first few, and the next is refused
abbrev pub Ends : {S : Type 0} → Sink S → S → List Alarm → S → Result (Unit {0}) Untaken → Type 0
Ends sink s xs t (Ok _) = Takes sink s xs (length xs) t
Ends {S} sink s xs t (Err u) =
    (m : S) × (a : Alarm) × (slice_get xs u.taken ≡ Some a) × Takes sink s xs u.taken m × Refuses sink a m u.fault t

-- a quota takes exactly the first of those that the sink below takes: as many as it has left, or all that the sink below takes where those are fewer
abbrev pub QuotasTake : {K : Type 0} → Sink K → Type 0
QuotasTake {K} sink =
    (q r : Quota K) (xs : List Alarm) (n : ℕ) → Takes (quota_over sink) q xs n r
    → (n ≤ left_of q) × (left_of r ≡ left_of q - n) × Ran sink (below_of q) (take n xs) (below_of r) × ((n ≡ left_of q) ⊎ Takes sink (below_of q) xs n (below_of r))

-- whether a refused offer leaves all of a sink as it was
abbrev pub KeepsAll : {S : Type 0} → Sink S → Type 0
KeepsAll {S} sink = (a : Alarm) (old new : S) → sink.rests a old new → new ≡ old

-- a quota keeps all of itself wherever the sink below does
abbrev pub QuotasKeep : {K : Type 0} → Sink K → Type 0
QuotasKeep sink = KeepsAll sink → KeepsAll (quota_over sink)
