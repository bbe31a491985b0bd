-- Walks by their steep weights. Assumes nothing.
use Rattle.std.proofs.Common.{◌≡◌, ℕ, List, [], ◌∷◌, length, pos, ◌+ℤ◌, ◌*ℤ◌, refl, arith}
use Rattle.std.proofs.lemmas.Int.{ints, by_lt_z}
use Rattle.walks.specs.declared.edge.Edge.{Edge}
use Rattle.walks.specs.Walks.{Walk, weigh, Falling}
use Rattle.walks.specs.Edges.{graph, Fits}
use Rattle.walks.proofs.Rings.{Through, simple_ring}
use Rattle.walks.proofs.Through.{through}
use Rattle.layout.specs.Climbs.{steep_graph}

pub weigh_steep : (es w : List Edge) → weigh (steep_graph es) w ≡ (pos 64 *ℤ weigh (graph es) w) +ℤ pos (length w)
weigh_steep es [] = refl
weigh_steep es (e ∷ w) = omega (arith, ints, weigh_steep es w)

-- the walks are the same
pub to_steep : (es : List Edge) (a b : ℕ) (w : List Edge) → Walk (graph es) a w b → Walk (steep_graph es) a w b
to_steep es a b [] p = p
to_steep es a b (e ∷ w) p = (p.0, p.1, to_steep es e.read b w p.2)

pub from_steep : (es : List Edge) (a b : ℕ) (w : List Edge) → Walk (steep_graph es) a w b → Walk (graph es) a w b
from_steep es a b [] p = p
from_steep es a b (e ∷ w) p = (p.0, p.1, from_steep es e.read b w p.2)

module _ (channels streams : ℕ) (es : List Edge) (fits : Fits channels streams es) where
  pub steep_through : Through (steep_graph es) channels streams
  steep_through = through channels streams es fits

  -- a closed walk that comes nowhere twice is too short to rise by its length alone
  pub steep_falls : Falling (graph es) → Falling (steep_graph es)
  steep_falls falls a w r =
      let (b, u, q, _, short) = simple_ring (steep_graph es) channels streams steep_through a w r in
      by_lt_z (weigh (graph es) u) (pos 0)
      (λ light. omega (arith, ints, q.heavy, weigh_steep es u, fits.few_streams))
      (λ heavy. falls b u (record { walk = from_steep es b b u q.walk; some = q.some; heavy = heavy }))
