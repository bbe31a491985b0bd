-- Edges within the limits are bounded, and only streams are read and read too. Assumes nothing.
use Rattle.std.proofs.Common.{ℕ, ◌<◌, List, length, get_or, arith}
use Rattle.std.specs.List.{AllByRecursion}
use Rattle.std.proofs.ByRecursion.{All-weaker, All-get_or}
use Rattle.walks.specs.declared.edge.Edge.{Edge}
use Rattle.walks.specs.declared.graph.Graph.{Graph}
use Rattle.walks.specs.Walks.{In}
use Rattle.walks.specs.Edges.{graph, Fit, Fits, Bounded}
use Rattle.walks.proofs.Cut.{all_in}
use Rattle.walks.proofs.Rings.{Through}

module _ (channels streams : ℕ) (es : List Edge) (fits : Fits channels streams es) where
  pub fit_in : (e : Edge) → In e es → Fit channels streams e
  fit_in e m = all_in (Fit channels streams) es e fits.edges m

  pub through : Through (graph es) channels streams
  through r s m n e = (omega (arith, e, (fit_in s n).reads), (fit_in r m).read)

  pub all_bounded : AllByRecursion Bounded es
  all_bounded = All-weaker (Fit channels streams) Bounded
      (λ e f. record { reader = f.reader; read = omega (arith, f.read, fits.few_channels, fits.few_streams); drop = f.drop; opening = f.opening }) es fits.edges

-- and so the edges of every graph
pub graph_bounded : (g : Graph) → AllByRecursion Bounded g.edges.now
graph_bounded g = all_bounded g.channels g.streams g.edges.now g.fits

-- and so each of them
pub edge_bounded : (g : Graph) (i : ℕ) (d : Edge) → i < length g.edges.now → Bounded (get_or g.edges.now i d)
edge_bounded g i d l = All-get_or Bounded g.edges.now i d l (graph_bounded g)
