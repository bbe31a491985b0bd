-- Leads and ring lengths as numbers made from heights. Assumes nothing.
use Rattle.std.specs.Prelude.{ℕ, ◌+◌, ◌-◌, ◌/◌, List, map, replicate, fold, slice_index}
use Rattle.walks.specs.declared.edge.Edge.{Edge}
use Rattle.layout.specs.Climbs.{topped}

-- the lead in a height: the weight of the walk that has this steep weight
abbrev pub lead_of_height : ℕ → ℕ
lead_of_height x = x / 64

-- the leads of all nodes by their heights
abbrev pub leads_of : List ℕ → List ℕ
leads_of h = map lead_of_height h

-- how many values a ring keeps for one edge that reads it, or 0
abbrev pub span : List ℕ → Edge → ℕ
span leads e = slice_index leads e.read + (e.opening + 1) - (slice_index leads e.reader + e.entry.drop)

-- the lengths of all rings, each at least 1
unfoldable pub sizes : List Edge → List ℕ → List ℕ
sizes es leads = fold (topped (span leads)) (replicate 64 1) es
