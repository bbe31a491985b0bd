-- What references find by the plan of a table, and where its rings lie. Assumes nothing.
use Rattle.std.specs.Prelude.{◌≡◌, ℕ, ◌+◌, ◌<◌, ◌≤◌, List, [], pos, ◌+ℤ◌, ◌≤ℤ◌, ◌<ℤ◌}
use Rattle.syntax.specs.Entries.{Entry}
use Rattle.references.specs.declared.reference.Reference.{Reference}
use Rattle.references.specs.References.{references}
use Rattle.walks.specs.Walks.{In, reach}
use Rattle.lists.specs.Lists.{items}
use Rattle.schedule.specs.declared.plan.Plan.{Plan}
use Rattle.schedule.specs.Graphs.{graph, IsChannel}
use Rattle.schedule.specs.Plans.{ring_count, ring_in, length_in, length_of, lead_in, lead_of, Ordered}

-- the value that a reference reads is made by the tick at which its reader works, and still in its ring
pub record Finds (rs : List Entry) (p : Plan) (r : Reference) : Type 0 where
  pub made : reach (graph rs) (lead_of p) r ≤ℤ lead_of p r.read
  pub kept : lead_of p r.read <ℤ (reach (graph rs) (lead_of p) r +ℤ pos (length_of p r.read))

-- every reference of a stream or rule finds its value, and of a channel reads what is sampled;
-- the rings lie one after another within the slots, and none is empty
pub record Serves (rs : List Entry) (p : Plan) : Type 0 where
  pub finds : (r : Reference) → In r (references [] rs) → Finds rs p r
  pub sampled : (r : Reference) → In r (references [] rs) → IsChannel r.read →
      reach (graph rs) (lead_of p) r ≤ℤ pos 0
  pub order : Ordered rs (lead_in p) (items p.order)
  pub some : (q : ℕ) → q < ring_count rs → 0 < length_in p q
  pub first : 0 < ring_count rs → (ring_in p 0).base ≡ 0
  pub next : (q : ℕ) → q + 1 < ring_count rs →
      (ring_in p (q + 1)).base ≡ (ring_in p q).base + length_in p q
  pub within : (q : ℕ) → q < ring_count rs → (ring_in p q).base + length_in p q ≤ p.counts.slots
