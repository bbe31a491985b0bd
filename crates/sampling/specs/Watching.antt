-- Latches of a hold, one after another, and what is seen of them. Assumes nothing.
use Rattle.std.specs.Prelude.{◌≡◌, ℕ, ◌+◌, ◌-◌, ◌<◌, ◌≤◌, min, List, [], ◌∷◌, ◌++◌, All, length, map, take, drop, replicate, Some, None, Ok, Err, Option, Result, Vec}
use Rattle.std.specs.declared.alloc.Global.{Global}
use Rattle.faults.specs.declared.fault.Fault.{Fault}
use Rattle.faults.specs.declared.stop.Stop.{Stop}
use Rattle.faults.specs.declared.stop.Stop.TheVariants.{Refused, Memory}
use Rattle.faults.specs.Faults.{handed_on}
use Rattle.values.specs.declared.value.Value.{Value}
use Rattle.sampling.specs.declared.hold.Hold.{Hold}
use Rattle.sampling.specs.declared.sampler.Sampler.{Ghosts as Sampler}
use Rattle.sampling.specs.declared.watch.Sighting.{Sighting}
use Rattle.sampling.specs.Holds.{hold_row}
use Rattle.sampling.specs.Meanings.{SameRows}
use Rattle.sampling.specs.Moves.{KeepsOwn, hold_meaning, Moved, Rested, over}
use Rattle.sampling.specs.Rows.{readings}

-- ---- what is read at latches running
-- what each channel reads, latch by latch
abbrev pub Series : Type 0
Series = ℕ → List (Option Value)

-- of a channel's readings, the i-th and the m after it
abbrev pub part : ℕ → ℕ → List (Option Value) → List (Option Value)
part i m os = take (m + 1) (drop i os)

-- a value, and m latches after it: at the first n of these the value, and then nothing
abbrev pub shown_for : ℕ → Value → ℕ → List (Option Value)
shown_for n v m = Some v ∷ (replicate (min m n) (Some v) ++ replicate (m - n) None)

-- wherever a channel reads a value below and then nothing at m latches, the value is shown at min m H of these and then nothing
abbrev pub Bridges : ℕ → Series → Series → Type 0
Bridges bridges below shown = (k i m : ℕ) (v : Value) → k < 16 →
    part i m (below k) ≡ Some v ∷ replicate m None → part i m (shown k) ≡ shown_for bridges v m

-- wherever a channel reads a value below at n latches more at most, it is shown at as many and H
abbrev pub Carries : ℕ → Series → Series → Type 0
Carries bridges below shown = (k i m n : ℕ) (v : Value) → k < 16 →
    part i m (below k) ≡ shown_for n v m → part i m (shown k) ≡ shown_for (bridges + n) v m

-- what is shown bridges so many latches of what is read below
pub record Bridging (bridges : ℕ) (below shown : Series) : Type 0 where
  pub dark : Bridges bridges below shown
  pub carries : Carries bridges below shown

-- ---- latches that go through
-- a latch of a hold: the hold before it and after it
pub record Latch (S : Type 0) : Type 0 where
  pub old : Hold S
  pub new : Hold S

-- from h on the hold's own records are left alone between these latches, whatever becomes of what lies below it
abbrev pub LeftAlone : {S : Type 0} → Hold S → List (Latch S) → Type 0
LeftAlone h [] = Unit {0}
LeftAlone h (l ∷ ls) = KeepsOwn h l.old × LeftAlone l.new ls

-- the row of the hold after each latch
abbrev pub rows_shown : {S : Type 0} → List (Latch S) → Series
rows_shown ls k = map (λ l. hold_row l.new.latched l.new.channels k) ls

-- latches of a hold over a hold, as latches of the lower one
abbrev pub lower : {S : Type 0} → List (Latch (Hold S)) → List (Latch S)
lower ls = map (λ l. record { old = l.old.below; new = l.new.below }) ls

module _ {S : Type 0} (s : Sampler S) where
  -- the row below after each latch
  abbrev pub rows_below : List (Latch S) → Series
  rows_below ls k = map (λ l. (s.meaning l.new.below).present k) ls

  -- one that goes through
  abbrev pub GoesThrough : Latch S → Type 0
  GoesThrough l = Moved s l.old l.new

  -- latches of one hold from h on, each of which goes through; what its host does below in between is left open
  abbrev pub Run : Hold S → List (Latch S) → Type 0
  Run h ls = LeftAlone h ls × All GoesThrough ls

  -- ---- the laws over runs
  -- every hold bridges its H latches, over whatever reads below and however a host handles that between the latches:
  -- its own records no host can touch
  abbrev pub HoldsBridge : Type 0
  HoldsBridge = (h : Hold S) (ls : List (Latch S)) → Run h ls → Bridging h.bridges (rows_below ls) (rows_shown ls)

-- a run of a hold over a hold is a run of the lower one, which shows what the upper one reads below; over what the lower one reads the two
-- bridge as many latches as both H together, and over whatever the lower one bridges from further down the upper one bridges its own H more
pub record Stacked {S : Type 0} (s : Sampler S) (h : Hold (Hold S)) (ls : List (Latch (Hold S))) : Type 0 where
  pub runs : Run s h.below (lower ls)
  pub reads : (k : ℕ) → rows_shown (lower ls) k ≡ rows_below (over s) ls k
  pub carries : Carries (h.bridges + h.below.bridges) (rows_below s (lower ls)) (rows_shown ls)
  pub adds : (bridges : ℕ) (below : Series) →
      Carries bridges below (rows_shown (lower ls)) → Carries (h.bridges + bridges) below (rows_shown ls)

-- that is so wherever hosts leave the lower hold's own records alone between the latches, whatever else they do below: a host that latches
-- a lower hold by itself does not. The lower hold may stand over a hold again, and so on: a pile whose lower holds are left alone bridges the sum
abbrev pub PilesBridge : {S : Type 0} → Sampler S → Type 0
PilesBridge {S} s = (h : Hold (Hold S)) (ls : List (Latch (Hold S))) →
    Run (over s) h ls → LeftAlone h.below (lower ls) → Stacked s h ls

-- where a refused latch leaves what lies below as it was, it leaves the hold as it was, and so a whole pile
abbrev pub RefusalsKeep : {S : Type 0} → Sampler S → Type 0
RefusalsKeep {S} s = ((a b : S) → s.rests a b → b ≡ a) → (h i : Hold S) → Rested s h i → i ≡ h

-- the laws of holds over any sampler
pub record HoldLaws {S : Type 0} (s : Sampler S) : Type 0 where
  pub bridge : HoldsBridge s
  pub piles : PilesBridge s
  pub refusals : RefusalsKeep s

-- ---- what is seen
-- what was seen of each channel below, and of the hold's own row
abbrev pub seen_below : List Sighting → Series
seen_below ws k = map (λ w. readings w.below k) ws

abbrev pub seen_shown : List Sighting → Series
seen_shown ws k = map (λ w. readings w.shown k) ws

-- what was seen of a hold bridges as many latches as it does
abbrev pub BridgedBy : {S : Type 0} → Hold S → List Sighting → Type 0
BridgedBy h ws = Bridging h.bridges (seen_below ws) (seen_shown ws)

module _ {S : Type 0} (s : Sampler S) where
  -- one latch from h to i, and what was seen then
  pub record Latched (h : Hold S) (w : Sighting) (i : Hold S) : Type 0 where
    pub moved : Moved s h i
    pub below : (k : ℕ) → readings w.below k ≡ (s.meaning i.below).present k
    pub shown : (k : ℕ) → readings w.shown k ≡ hold_row i.latched i.channels k

  -- a latch from h to i that was refused, since there is no next row below: both rows are kept, and so is what a refusal leaves
  pub record RefusedLatch (h : Hold S) (f : Fault) (i : Hold S) : Type 0 where
    pub none : (s.meaning h.below).next ≡ None
    pub fault : f ≡ handed_on (s.meaning h.below).refusal
    pub kept : SameRows (hold_meaning s h) (hold_meaning s i)
    pub rested : Rested s h i

  -- one latch, and what was seen then
  abbrev pub Sees : Hold S → Hold S → Result Sighting Fault → Type 0
  Sees h i (Ok w) = Latched h w i
  Sees h i (Err f) = RefusedLatch h f i

  -- these were seen, a latch for each, one after another, and nothing else happened
  abbrev pub Watched : Hold S → List Sighting → Hold S → Type 0
  Watched h [] i = i ≡ h
  Watched h (w ∷ ws) i = (j : Hold S) × Latched h w j × Watched j ws i

  -- as many as were asked for; or fewer, where the next one is refused or memory fails
  abbrev pub Ends : Hold S → Hold S → ℕ → Result (Vec Sighting Global) (Stop Fault) → Type 0
  Ends h i latches (Ok seen) = (length seen.items ≡ latches) × Watched h seen.items i
  Ends h i latches (Err (Refused f)) =
      (ws : List Sighting) × (j : Hold S) × (length ws < latches) × Watched h ws j × RefusedLatch j f i
  Ends h i latches (Err Memory) = (ws : List Sighting) × (length ws ≤ latches) × Watched h ws i
