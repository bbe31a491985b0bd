-- What rings hold, and what is read off them. Assumes nothing.
use Rattle.std.specs.Prelude.{◌≡◌, ℕ, ◌+◌, ◌<◌, ◌≤◌, List, pos, slice_index}
use Rattle.values.specs.Values.{wrap, word}
use Rattle.syntax.specs.declared.record.Kind.TheVariants.{Channel, Stream}
use Rattle.syntax.specs.Entries.{count}
use Rattle.references.specs.declared.reference.Id.{Id}
use Rattle.schedule.specs.Graphs.{channel, stream}
use Rattle.evaluation.specs.Meaning.{Samples, Values}
use Rattle.equations.specs.Equations.{channel_type, equation_of, Meets}
use Rattle.rings.specs.Systems.{System, slot}

-- the samples and the values that are read off the slots: each is its type's low bits of its slot
abbrev pub samples_in : System → List ℕ → Samples
samples_in S mem t c = wrap (channel_type S.records c) (pos (slice_index mem (slot S (channel c) t)))

abbrev pub values_in : System → List ℕ → Values
values_in S mem s i = wrap (equation_of S.records s).ty (pos (slice_index mem (slot S (stream s) i)))

-- of n words so far, a record's ring holds the newest ones, as many as it has slots; a slot that has had none is 0
pub record RingHolds (S : System) (id : Id) (words : ℕ → ℕ) (n : ℕ) (mem : List ℕ) : Type 0 where
  pub newest : (i : ℕ) → i < n → n ≤ i + S.size id → slice_index mem (slot S id i) ≡ words i
  pub blank : (j : ℕ) → j < S.size id → n ≤ j → slice_index mem (S.base id + j) ≡ 0

-- the rings hold m samples of each channel, and the values v of n judged ticks
pub record RingsHold (S : System) (x : Samples) (m : ℕ) (v : Values) (n : ℕ) (mem : List ℕ) : Type 0 where
  pub samples : (c : ℕ) → c < count Channel S.records → RingHolds S (channel c) (λ t. word (x t c)) m mem
  pub values : (s : ℕ) → s < count Stream S.records → RingHolds S (stream s) (λ i. word (v s i)) (n + S.lead s) mem

-- and they hold the values of every set that meets the equations of n judged ticks
abbrev pub HoldsValues : System → Samples → ℕ → ℕ → List ℕ → Type 0
HoldsValues S x m n mem = (v : Values) → Meets S.records S.lead x n v → RingsHold S x m v n mem
