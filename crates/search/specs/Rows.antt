-- Rows: for each node the greatest lifted weight of a walk of so many edges that ends there, if there is one. Assumes nothing.
use Rattle.std.specs.Prelude.{ℕ, zero, suc, ◌+◌, ◌-◌, ◌≤◌, Bool, false, cond, ◌&&◌, List, replicate, Some, None, fold, Option, ◌==◌, nat_le, slice_index_or, slice_set}
use Rattle.std.specs.Coded.{Unit-prop, le_prop}
use Rattle.std.specs.List.{AllByRecursion, AllByRecursion-prop}
use Rattle.walks.specs.declared.edge.Edge.{Edge}

-- what an edge weighs, and 64
abbrev pub lift : Edge → ℕ
lift e = 64 + e.entry.drop - e.opening

-- nothing that stands in the row is above b
abbrev pub Low : ℕ → Option ℕ → Type 0
Low b None = Unit {0}
Low b (Some x) = x ≤ b

-- a row is low in one way at most
Low-prop : (b : ℕ) (o : Option ℕ) → IsProp (Low b o)
Low-prop b None = Unit-prop
Low-prop b (Some x) = le_prop

pub Starts-prop : (row : List (Option ℕ)) → IsProp (AllByRecursion (Low 0) row)
Starts-prop row = AllByRecursion-prop (Low 0) (Low-prop 0) row

-- what stands at a node comes up to z
abbrev pub reaches : Option ℕ → ℕ → Bool
reaches None z = false
reaches (Some x) z = nat_le z x

-- the row `to` with what the edge e makes of a walk to its reader
abbrev pub carried : Option ℕ → List (Option ℕ) → Edge → List (Option ℕ)
carried None to e = to
carried (Some x) to e = cond (reaches (slice_index_or to e.read None) (x + lift e)) to (slice_set to e.read (Some (x + lift e)))

-- the row `to` with what the edge e makes of the row `from`
abbrev pub extended : List (Option ℕ) → List (Option ℕ) → Edge → List (Option ℕ)
extended from to e = carried (slice_index_or from e.reader None) to e

-- the row of no walk
abbrev pub nothing : List (Option ℕ)
nothing = replicate 64 None

-- the row of the walk with no edge at a
abbrev pub alone : ℕ → List (Option ℕ)
alone a = slice_set nothing a (Some 0)

-- the row of the walks with no edge at every node
abbrev pub everywhere : List (Option ℕ)
everywhere = replicate 64 (Some 0)

-- the row of the walks that have one edge more
unfoldable pub stepped : List Edge → List (Option ℕ) → List (Option ℕ)
stepped es from = fold (extended from) nothing es

-- the row of the walks of k edges that begin as the row s says
unfoldable pub layer : List Edge → List (Option ℕ) → ℕ → List (Option ℕ)
layer es s zero = s
layer es s (suc k) = stepped es (layer es s k)

-- what stands at a node is z once the edge's lift n is added
abbrev pub meets : Option ℕ → ℕ → ℕ → Bool
meets None n z = false
meets (Some x) n z = x + n == z

-- the edge e leads from the row to the lifted weight z at b
abbrev pub into : List (Option ℕ) → ℕ → ℕ → Edge → Bool
into from b z e = e.read == b && meets (slice_index_or from e.reader None) (lift e) z
