-- A walk read off the rows from its end. Assumes nothing.
use Rattle.std.specs.Prelude.{◌≡◌, ℕ, ◌*◌, ◌≤◌, List, [], ◌++◌, map, length, drop, pos, ◌+ℤ◌, Some, None, Option, slice_index_or}
use Rattle.walks.specs.declared.edge.Edge.{Edge}
use Rattle.walks.specs.declared.edge.SheetEntry.{SheetEntry}
use Rattle.walks.specs.Walks.{Walk, weigh}
use Rattle.walks.specs.Edges.{graph, told}
use Rattle.search.specs.declared.row.Arrival.{Arrival}
use Rattle.search.specs.Rows.{layer}

-- the rows of walks of 0 to count edges that begin as s says
abbrev pub Layers : List Edge → List (Option ℕ) → ℕ → List (List (Option ℕ)) → Type 0
Layers es s count rows = (k : ℕ) → k ≤ count → slice_index_or rows k [] ≡ layer es s k

-- a walk to the arrival's node, of its length, begun as s says and as heavy as the rows say, stands in the first entries of a sheet; the others are as they were
pub record Listed (es : List Edge) (s : List (Option ℕ)) (f : Arrival) (old new : List SheetEntry) : Type 0 where
  pub start : ℕ
  pub walk : List Edge
  pub goes : Walk (graph es) start walk f.node
  pub begins : slice_index_or s start None ≡ Some 0
  pub long : length walk ≡ f.length
  pub whole : ℕ
  pub shown : slice_index_or (layer es s f.length) f.node None ≡ Some whole
  pub heavy : pos whole ≡ weigh (graph es) walk +ℤ pos (64 * f.length)
  pub listed : new ≡ map told walk ++ drop f.length old
