-- What a sink is to its callers, and what offering an alarm does. Assumes nothing.
use Rattle.std.specs.Prelude.{◌≡◌, ℕ, ◌+◌, ◌≤◌, min, Bool, nat_lt, if◌then◌else◌, List, [], ◌∷◌, length, Some, Ok, Err, Option, Result}
use Rattle.alarms.specs.declared.alarm.Alarm.{Alarm}

-- what a sink holds, how many alarms it took, the latest, if any, and how many places are left
pub record View (H : Type 0) : Type 0 where
  pub holding : H
  pub number : ℕ
  pub latest : Option Alarm
  pub places : ℕ

-- how many alarms were counted: in 32 bits, as the code counts them, and so said of any number
abbrev pub counted : ℕ → ℕ
counted n = min n 4294967295

-- whether there is a place for an alarm
abbrev pub has_place : {H : Type 0} → View H → Alarm → Bool
has_place v a = nat_lt 0 v.places

-- an alarm is refused exactly where there is no place for it
abbrev pub offered : {H E : Type 0} → View H → Alarm → E → Result (Unit {0}) E
offered v a fault = if has_place v a then Ok tt else Err fault

-- an alarm was taken: it is counted and the latest, the holding is what taking it makes of it, and at most one place went
pub record Taken {H : Type 0} (adds : H → Alarm → H) (a : Alarm) (old new : View H) : Type 0 where
  pub holding : new.holding ≡ adds old.holding a
  pub number : new.number ≡ old.number + 1
  pub latest : new.latest ≡ Some a
  pub fewer : new.places ≤ old.places
  pub by_one : old.places ≤ new.places + 1

-- what comes of an offer: the alarm was taken; or it was refused, and all four are kept
abbrev pub Offered : {H E : Type 0} → (H → Alarm → H) → Alarm → View H → View H → Result (Unit {0}) E → Type 0
Offered adds a old new (Ok _) = Taken adds a old new
Offered adds a old new (Err _) = new ≡ old

-- ---- several, one after another
-- what taking them in order makes of a holding
abbrev pub holding_after : {H : Type 0} → (H → Alarm → H) → H → List Alarm → H
holding_after adds h [] = h
holding_after adds h (x ∷ xs) = holding_after adds (adds h x) xs

-- the last of them; where there are none, what was the latest before
abbrev pub latest_after : Option Alarm → List Alarm → Option Alarm
latest_after latest [] = latest
latest_after latest (x ∷ xs) = latest_after (Some x) xs

-- these were taken in order: holding, number and latest are what taking them makes of the old ones, and at most as many places went
pub record TookAll {H : Type 0} (adds : H → Alarm → H) (xs : List Alarm) (old new : View H) : Type 0 where
  pub holding : new.holding ≡ holding_after adds old.holding xs
  pub number : new.number ≡ old.number + length xs
  pub latest : new.latest ≡ latest_after old.latest xs
  pub fewer : new.places ≤ old.places
  pub at_most : old.places ≤ new.places + length xs
