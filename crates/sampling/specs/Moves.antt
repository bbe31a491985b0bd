-- A hold as a sampler, what a latch that goes through makes of it, and what a refused one leaves. Assumes nothing.
use Rattle.std.specs.Prelude.{◌≡◌, ℕ, ◌<◌, true, false, replicate, Some, option_map}
use Rattle.sampling.specs.declared.hold.Hold.{Hold}
use Rattle.sampling.specs.declared.sampler.Sampler.{Ghosts as Sampler}
use Rattle.faults.specs.Faults.{handed_on}
use Rattle.sampling.specs.Holds.{unread, after, record_at, bridged, hold_row, hold_dark}
use Rattle.sampling.specs.Meanings.{Meaning, SameRows}

-- a hold of so many latches that has not latched yet
abbrev pub unlatched : {S : Type 0} → S → ℕ → Hold S
unlatched s bridges = record { below = s; bridges = bridges; latched = false; channels = replicate 16 unread }

-- the sampler under a hold
abbrev pub sampler_below : {S : Type 0} → Hold S → S
sampler_below h = h.below

-- the hold over another sampler
abbrev pub with_below : {S : Type 0} → Hold S → S → Hold S
with_below h s = record h { below = s }

-- all that is the hold's own stays, whatever became of what lies below
abbrev pub KeepsOwn : {S : Type 0} → Hold S → Hold S → Type 0
KeepsOwn old new = new ≡ with_below old new.below

-- ---- over any sampler
module _ {S : Type 0} (s : Sampler S) where
  -- what a hold means: its row is its own records, and its next row what it bridges of the next one below
  abbrev pub hold_meaning : Hold S → Meaning
  hold_meaning h =
      let below = s.meaning h.below in
      record {
        present = hold_row h.latched h.channels;
        next = option_map (bridged h.bridges h.channels) below.next;
        refusal = handed_on below.refusal;
        dark = λ k. (hold_dark h.latched below k).fault;
      }

  -- the sampler below has latched, so that its next row is the present one, and each channel's record has taken what it reads; how far it bridges stays
  pub record Moved (old new : Hold S) : Type 0 where
    pub row : (s.meaning old.below).next ≡ Some (s.meaning new.below).present
    pub below : s.moves old.below new.below
    pub bridges : new.bridges ≡ old.bridges
    pub latched : new.latched ≡ true
    pub channels : (k : ℕ) → k < 16 → record_at new.channels k ≡ after old.bridges (record_at old.channels k) ((s.meaning new.below).present k)

  -- a latch was refused below: all that is the hold's own stays, and below both rows and whatever else a refused latch leaves there
  pub record Rested (old new : Hold S) : Type 0 where
    pub own : KeepsOwn old new
    pub rows : SameRows (s.meaning old.below) (s.meaning new.below)
    pub below : s.rests old.below new.below

  -- the hold over it is a sampler again
  abbrev pub over : Sampler (Hold S)
  over = record { meaning = hold_meaning; moves = Moved; rests = Rested }
