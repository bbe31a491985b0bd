-- Rings that lie one after another. Assumes nothing.
use Rattle.std.specs.Prelude.{◌≡◌, ℕ, ◌+◌, List, map, slice_index}
use Rattle.std.specs.List.{range_with_len}
use Rattle.lists.specs.Lists.{items}
use Rattle.layout.specs.declared.layout.Layout.{Layout}
use Rattle.schedule.specs.declared.plan.Placed.{Placed}
use Rattle.schedule.specs.declared.plan.Plan.{Plan}
use Rattle.schedule.specs.declared.plan.Ring.{Ring}
use Rattle.schedule.specs.Plans.{slots_before}

-- the q-th ring of these leads and lengths begins where those before it end
abbrev pub ring_at : List ℕ → List ℕ → ℕ → Ring
ring_at leads lengths q = record { base = slots_before (λ j. slice_index lengths j) q; length = slice_index lengths q; lead = slice_index leads q }

-- the first so many
abbrev pub rings_of : List ℕ → List ℕ → ℕ → List Ring
rings_of leads lengths count = map (ring_at leads lengths) (range_with_len 0 count)

pub record Consecutive (l : Layout) (count : ℕ) (p : Placed) : Type 0 where
  pub rings : items p.rings ≡ rings_of l.leads l.lengths count
  pub slots : p.slots ≡ slots_before (λ j. slice_index l.lengths j) count

-- a plan by a layout, with rings that lie one after another
pub record Places (l : Layout) (channels streams rules : ℕ) (p : Plan) : Type 0 where
  pub counts : p.counts ≡ record { records = record { channels = channels; streams = streams; rules = rules }; slots = slots_before (λ j. slice_index l.lengths j) (channels + streams) }
  pub order : p.order ≡ l.order
  pub rings : items p.rings ≡ rings_of l.leads l.lengths (channels + streams)
