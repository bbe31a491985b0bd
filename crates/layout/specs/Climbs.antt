-- Heights: what climbs along the edges make of the nodes, by steep weights. Assumes nothing.
use Rattle.std.specs.Prelude.{◌≡◌, ℕ, zero, suc, ◌+◌, ◌-◌, ◌*◌, ◌≤◌, max, List, replicate, ℤ, pos, ◌-ℤ◌, [], fold, slice_index, slice_index_or, slice_set, Option, MatchOption, ◌≢◌}
use Rattle.walks.specs.declared.edge.Edge.{Edge}
use Rattle.walks.specs.Walks.{Graph}

-- 64 times the weight, plus 1: among walks of one weight the longer is the heavier
abbrev pub steep : Edge → ℤ
steep e = pos (64 * e.entry.drop + 1) -ℤ pos (64 * e.opening)

-- the edges with their steep weights
abbrev pub steep_graph : List Edge → Graph Edge ℕ
steep_graph es = record { references = es; reader = λ e. e.reader; read = λ e. e.read; weight = steep }

-- no node lies higher than b
abbrev pub Low : ℕ → List ℕ → Type 0
Low b h = (s : ℕ) → slice_index h s ≤ b

-- how high an edge reaches from its reader's height, or 0
abbrev pub height_over : List ℕ → Edge → ℕ
height_over from e = slice_index from e.reader + (64 * e.entry.drop + 1) - 64 * e.opening

-- at the node that e reads, the greater of what stands there and v e
abbrev pub topped : (Edge → ℕ) → List ℕ → Edge → List ℕ
topped v to e = slice_set to e.read (max (slice_index to e.read) (v e))

-- each node at least as high as the edges to it reach
unfoldable pub climbed : List Edge → List ℕ → List ℕ
climbed es from = fold (topped (height_over from)) from es

-- the heights after m climbs from 0
unfoldable pub heights : List Edge → ℕ → List ℕ
heights es zero = replicate 64 0
heights es (suc m) = climbed es (heights es m)

-- heights that one more climb leaves as they are
pub record Resting (es : List Edge) (h : List ℕ) : Type 0 where
  pub climbs : ℕ
  pub few : climbs ≤ 33
  pub made : h ≡ heights es climbs
  pub still : climbed es h ≡ h

-- heights at rest, or that even the last climb changes them
abbrev pub Rests : List Edge → Option (List ℕ) → Type 0
Rests es r = MatchOption r (climbed es (heights es 33) ≢ heights es 33) (λ h. Resting es h)

-- a row by the reader, for each node read how high the reader's edges reach from 900000
abbrev pub steeper : List (List ℕ) → Edge → List (List ℕ)
steeper rows e = slice_set rows e.reader (topped (height_over (replicate 64 900000)) (slice_index_or rows e.reader []) e)

unfoldable pub slopes : List Edge → List (List ℕ)
slopes es = fold steeper (replicate 64 (replicate 64 0)) es

-- each node at least as high as the row's edges reach from x
abbrev pub Raised : ℕ → List ℕ → List ℕ → List ℕ → Type 0
Raised x row old new = (s : ℕ) → slice_index new s ≡ max (slice_index old s) (x + slice_index row s - 900000)
