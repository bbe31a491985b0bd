-- What opening, storing a tick's samples and judging it make of the memory: of every slot, also of those that they leave. Assumes nothing.
use Rattle.std.specs.Prelude.{◌≡◌, ℕ, zero, suc, ◌+◌, ◌<◌, ◌≤◌, List, length, slice_index}
use Rattle.values.specs.declared.value.Value.{Value}
use Rattle.values.specs.Values.{word}
use Rattle.syntax.specs.declared.record.Kind.TheVariants.{Channel, Stream}
use Rattle.syntax.specs.Entries.{count}
use Rattle.schedule.specs.Graphs.{channel, stream}
use Rattle.evaluation.specs.Meaning.{Samples}
use Rattle.equations.specs.Equations.{by_equation}
use Rattle.rings.specs.Systems.{System, slot}
use Rattle.rings.specs.Memory.{samples_in, values_in, HoldsValues}

-- the rings hold the values of no tick: each stream's leading values, and 0 where there is none
pub record OpensRings (S : System) (old new : List ℕ) : Type 0 where
  pub held : (x : Samples) → HoldsValues S x 0 0 new
  pub past : (k : ℕ) → S.slots ≤ k → slice_index new k ≡ slice_index old k
  pub long : length new ≡ length old

-- the slot of each channel's sample of the tick n has the word of the row's value; every other slot is as it was
pub record StoresSamples (S : System) (n : ℕ) (row : ℕ → Value) (old new : List ℕ) : Type 0 where
  pub stored : (c : ℕ) → c < count Channel S.records → slice_index new (slot S (channel c) n) ≡ word (row c)
  pub others : (k : ℕ) → ((c : ℕ) → c < count Channel S.records → ¬ (k ≡ slot S (channel c) n)) → slice_index new k ≡ slice_index old k
  pub long : length new ≡ length old

-- the slot of each stream's newest value after the tick n has what its equation gives, by the slots as they are afterwards; every other slot is as it was
pub record Judges (S : System) (n : ℕ) (old new : List ℕ) : Type 0 where
  pub stored : (s : ℕ) → s < count Stream S.records →
      slice_index new (slot S (stream s) (n + S.lead s)) ≡ word (by_equation S.records (samples_in S new) (values_in S new) s (n + S.lead s))
  pub others : (k : ℕ) → ((s : ℕ) → s < count Stream S.records → ¬ (k ≡ slot S (stream s) (n + S.lead s))) → slice_index new k ≡ slice_index old k
  pub long : length new ≡ length old

-- the rings opened, and then the samples of each of the first n ticks stored and the tick judged
abbrev pub OpensAndJudges : System → Samples → ℕ → List ℕ → List ℕ → Type 0
OpensAndJudges S x zero old new = OpensRings S old new
OpensAndJudges S x (suc n) old new =
    (judged sampled : List ℕ) × OpensAndJudges S x n old judged × StoresSamples S n (x n) judged sampled × Judges S n sampled new
