-- Arrivals: the walks of the fewest edges that come to a target, by the rows. Assumes nothing.
use Rattle.std.specs.Prelude.{◌≡◌, ℕ, ◌+◌, ◌-◌, ◌*◌, ◌<◌, ◌≤◌, min, Bool, true, false, List, None, Option, slice_index_or}
use Rattle.walks.specs.declared.edge.Edge.{Edge}
use Rattle.search.specs.declared.target.Target.{Target}
use Rattle.search.specs.declared.row.Arrival.{Arrival}
use Rattle.search.specs.Rows.{layer, alone, reaches}

-- what a target says: a node from `first` on below `end`, with a weight of `over` or more
pub record Aim : Type 0 where
  pub first : ℕ
  pub end : ℕ
  pub over : ℕ

abbrev pub aim : Target → Aim
aim t = record { first = t.first; end = t.end; over = t.over }

-- the target of a closed walk from a that weighs 0 or more
abbrev pub ring : ℕ → Aim
ring a = record { first = a; end = a + 1; over = 0 }

-- the target of a walk to a channel that weighs more than 0
abbrev pub outside : ℕ → Aim
outside channels = record { first = 0; end = channels; over = 1 }

-- no place from lo on below hi comes up to z
abbrev pub Unreached : List (Option ℕ) → ℕ → ℕ → ℕ → Type 0
Unreached row lo hi z = (b : ℕ) → lo ≤ b → b < hi → reaches (slice_index_or row b None) z ≡ false

-- the place b lies from lo on below hi and comes up to z
pub record Reached (row : List (Option ℕ)) (lo hi z b : ℕ) : Type 0 where
  pub from : lo ≤ b
  pub below : b < hi
  pub here : reaches (slice_index_or row b None) z ≡ true

-- by the rows, a walk of k edges to b that begins as s says weighs `over` or more
abbrev pub arrives : List Edge → List (Option ℕ) → ℕ → ℕ → ℕ → Bool
arrives es s over b k = reaches (slice_index_or (layer es s k) b None) (64 * k + over)

-- no walk of 1 to limit edges arrives at the target
abbrev pub Missed : List Edge → List (Option ℕ) → Aim → ℕ → Type 0
Missed es s t limit = (k : ℕ) → 0 < k → k ≤ limit → Unreached (layer es s k) t.first t.end (64 * k + t.over)

-- a walk of 1 to limit edges arrives at the target, and none of fewer edges does
pub record First (es : List Edge) (s : List (Option ℕ)) (t : Aim) (limit : ℕ) (f : Arrival) : Type 0 where
  pub some : 0 < f.length
  pub within : f.length ≤ limit
  pub at : Reached (layer es s f.length) t.first t.end (64 * f.length + t.over) f.node
  pub before : Missed es s t (f.length - 1)

-- no closed walk of 1 to limit edges from a weighs 0 or more, by the rows
abbrev pub Open : List Edge → ℕ → ℕ → Type 0
Open es limit a = Missed es (alone a) (ring a) limit

-- the same from each of the n streams from lo on, for walks of no more edges than there are streams from their start on
abbrev pub Unclosed : List Edge → ℕ → ℕ → ℕ → Type 0
Unclosed es lo n limit = (a : ℕ) → lo ≤ a → a < lo + n → Open es (min limit (lo + n - a)) a

-- a closed walk from a stream weighs 0 or more, and none with fewer edges does
pub record Fewest (es : List Edge) (lo n : ℕ) (f : Arrival) : Type 0 where
  pub from : lo ≤ f.node
  pub below : f.node < lo + n
  pub first : First es (alone f.node) (ring f.node) n f
  pub before : Unclosed es lo n (f.length - 1)
