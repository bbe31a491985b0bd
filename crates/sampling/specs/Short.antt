-- That rows have sixteen channels, and what refuses a dark read. Assumes nothing.
use Rattle.std.specs.Prelude.{◌≡◌, ℕ, ◌<◌, Bool, true, false, cond, List, Some, None, Option, is_none}
use Rattle.std.proofs.Common.{refl, arith}
use Rattle.std.proofs.lemmas.Bool.{le-ltb, cond-false}
use Rattle.faults.specs.declared.cause.Cause.TheVariants.{Dark}
use Rattle.faults.specs.declared.fault.Layer.TheVariants as layer
use Rattle.faults.specs.Causes.{refusal}
use Rattle.faults.specs.Faults.{from_below, its_own}
use Rattle.values.specs.declared.value.Value.{Value}
use Rattle.sampling.specs.declared.channel.ChannelRecord.{ChannelRecord}
use Rattle.sampling.specs.declared.row.Row.{Row}
use Rattle.sampling.specs.Holds.{hold_row, hold_dark}
use Rattle.sampling.specs.Meanings.{Meaning}
use Rattle.sampling.specs.Rows.{readings}

-- a row has nothing above channel 15
pub past : (r : Row) (k : ℕ) → 15 < k → readings r k ≡ None
past r k h = cond-false _ _ _ (le-ltb k 16 (omega arith))

-- nor has a hold
pub past_hold : (latched : Bool) (rs : List ChannelRecord) (k : ℕ) → 15 < k → hold_row latched rs k ≡ None
past_hold true rs k h = cond-false _ _ _ (le-ltb k 16 (omega arith))
past_hold false rs k h = refl

-- a dark read of a hold is refused by 15 at its channel, as one below is
pub dark_hold : (latched : Bool) (below : Meaning) → ((k : ℕ) → refusal (below.dark k).cause ≡ (15, k)) → (k : ℕ) → refusal (hold_dark latched below k).fault.cause ≡ (15, k)
dark_hold false below darkens k = refl
dark_hold true below darkens k = by_row (below.present k) where
  by_row : (o : Option Value) → refusal (cond (is_none o) (from_below (below.dark k)) (its_own layer.Hold (Dark k))).fault.cause ≡ (15, k)
  by_row None = darkens k
  by_row (Some v) = refl
