-- The graph of edges between numbered nodes: the channels from 0, then the streams, then the rules. Assumes nothing.
use Rattle.std.specs.Prelude.{ℕ, ◌+◌, ◌<◌, ◌≤◌, List, ℤ, pos, ◌-ℤ◌}
use Rattle.std.specs.Coded.{le_prop}
use Rattle.std.specs.List.{AllByRecursion, AllByRecursion-prop}
use Rattle.walks.specs.declared.edge.SheetEntry.{SheetEntry}
use Rattle.walks.specs.declared.edge.Edge.{Edge}
use Rattle.walks.specs.Walks.{Graph}

-- the drop less the reader's count of opening values
abbrev pub weight : Edge → ℤ
weight e = pos e.entry.drop -ℤ pos e.opening

abbrev pub graph : List Edge → Graph Edge ℕ
graph es = record { references = es; reader = λ e. e.reader; read = λ e. e.read; weight = weight }

abbrev pub told : Edge → SheetEntry
told e = e.entry

-- an edge within the limits: no channel reads, and no rule is read
pub record Fit (channels streams : ℕ) (e : Edge) : Type 0 where
  pub reads : channels ≤ e.reader
  pub reader : e.reader < 64
  pub read : e.read < channels + streams
  pub drop : e.entry.drop ≤ 63
  pub opening : e.opening ≤ 64

-- edges between so many channels and streams
pub record Fits (channels streams : ℕ) (es : List Edge) : Type 0 where
  pub few_channels : channels ≤ 16
  pub few_streams : streams ≤ 32
  pub edges : AllByRecursion (Fit channels streams) es

-- an edge between two of 64 nodes, of a small weight
pub record Bounded (e : Edge) : Type 0 where
  pub reader : e.reader < 64
  pub read : e.read < 64
  pub drop : e.entry.drop ≤ 63
  pub opening : e.opening ≤ 64

-- an edge that stands for none
abbrev pub no_edge : Edge
no_edge = record { entry = record { reader = 0; read = 0; drop = 0 }; reader = 0; read = 0; opening = 0 }

-- a node is a channel
abbrev pub Channel : ℕ → ℕ → Type 0
Channel channels b = b < channels

-- ---- edges fit in one way at most
Fit-prop : (channels streams : ℕ) (e : Edge) → IsProp (Fit channels streams e)
Fit-prop channels streams e a b = λ i. record {
  reads = le_prop a.reads b.reads i;
  reader = le_prop a.reader b.reader i;
  read = le_prop a.read b.read i;
  drop = le_prop a.drop b.drop i;
  opening = le_prop a.opening b.opening i;
}

pub Fits-prop : (channels streams : ℕ) (es : List Edge) → IsProp (Fits channels streams es)
Fits-prop channels streams es a b = λ i. record {
  few_channels = le_prop a.few_channels b.few_channels i;
  few_streams = le_prop a.few_streams b.few_streams i;
  edges = AllByRecursion-prop (Fit channels streams) (Fit-prop channels streams) es a.edges b.edges i;
}
