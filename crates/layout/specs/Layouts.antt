-- What a layout says: leads and ring lengths of all nodes, and an order of the streams. Assumes nothing.
use Rattle.std.specs.Prelude.{◌≡◌, ℕ, ◌+◌, ◌<◌, List, ℤ, pos, slice_index}
use Rattle.walks.specs.declared.edge.Edge.{Edge}
use Rattle.walks.specs.Walks.{In, Falling, Lead, Newest, Ring}
use Rattle.walks.specs.Edges.{graph}
use Rattle.lists.specs.Lists.{items}
use Rattle.layout.specs.declared.layout.Layout.{Layout}
use Rattle.layout.specs.Orders.{EachOnce}

-- the lead of a node
abbrev pub lead_at : List ℕ → ℕ → ℤ
lead_at leads s = pos (slice_index leads s)

-- each stream once, and what is read at its newest index comes before its reader; streams are the nodes from `channels` on
pub record Ordered (channels streams : ℕ) (es : List Edge) (leads order : List ℕ) : Type 0 where
  pub each : EachOnce streams order
  pub before : (e : Edge) → In e es → Newest (graph es) (lead_at leads) e → (i j : ℕ) → i < streams → j < streams →
      channels + slice_index order i ≡ e.read → channels + slice_index order j ≡ e.reader → i < j

-- no closed walk weighs 0 or more, and the layout has every node's lead and ring length, and an order of the streams
pub record Laid (channels streams : ℕ) (es : List Edge) (l : Layout) : Type 0 where
  pub falls : Falling (graph es)
  pub leads : (s : ℕ) → s < 64 → Lead (graph es) s (lead_at l.leads s)
  pub rings : (q : ℕ) → q < 64 → Ring (graph es) (lead_at l.leads) q (slice_index l.lengths q)
  pub order : Ordered channels streams es l.leads (items l.order)
