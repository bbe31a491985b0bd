-- The equations of a table's streams, and the one set of values that meets them. Assumes nothing.
use Rattle.std.specs.Prelude.{◌≡◌, ℕ, ◌+◌, ◌-◌, ◌<◌, false, if◌then◌else◌, List, [], ◌∷◌, length, pos, nat_lt, slice_index_or}
use Rattle.values.specs.declared.types.«Type».{«Type» as Ty}
use Rattle.values.specs.declared.types.«Type».TheVariants as type
use Rattle.values.specs.declared.value.Value.{Value}
use Rattle.values.specs.declared.value.Value.TheVariants.{Bool}
use Rattle.values.specs.Values.{HasType}
use Rattle.syntax.specs.declared.record.Kind.TheVariants.{Channel, Stream}
use Rattle.syntax.specs.Trees.{Exp, constant}
use Rattle.syntax.specs.Entries.{Entry, count}
use Rattle.syntax.specs.Entries as entry
use Rattle.typing.specs.Scopes.{channel_types}
use Rattle.walks.specs.Walks.{Lead}
use Rattle.schedule.specs.Graphs.{graph, stream}
use Rattle.evaluation.specs.Meaning.{Samples, Values, meaning}

-- a stream's type, opening values and body
pub record Equation : Type 0 where
  pub ty : Ty
  pub opening : List Value
  pub body : Exp

-- the equations of a table's streams, in their order
abbrev pub equations : List Entry → List Equation
equations [] = []
equations (entry.channel t ∷ rs) = equations rs
equations (entry.stream t vs e ∷ rs) = record { ty = t; opening = vs; body = e } ∷ equations rs
equations (entry.rule g es ∷ rs) = equations rs

abbrev pub no_equation : Equation
no_equation = record { ty = type.Bool; opening = []; body = constant 0 (Bool false) }

-- the equation of the stream s, and how many opening values it has
abbrev pub equation_of : List Entry → ℕ → Equation
equation_of rs s = slice_index_or (equations rs) s no_equation

abbrev pub opening_of : List Entry → ℕ → ℕ
opening_of rs s = length (equation_of rs s).opening

-- the type of the channel c
abbrev pub channel_type : List Entry → ℕ → Ty
channel_type rs c = slice_index_or (channel_types rs) c type.Bool

-- what the stream s has at index i by its equation: opening value i, and past the n opening values the value of its body at i - n
abbrev pub by_equation : List Entry → Samples → Values → ℕ → ℕ → Value
by_equation rs x v s i =
    let e = equation_of rs s in
    let n = length e.opening in
    if nat_lt i n then slice_index_or e.opening i (Bool false) else meaning x v (i - n) e.body

-- each stream's lead is the greatest weight of any walk that ends in it; which walk has it is not said
abbrev pub Leads : List Entry → (ℕ → ℕ) → Type 0
Leads rs lead = (s : ℕ) → s < count Stream rs → ∥ Lead (graph rs) (stream s) (pos (lead s)) ∥₁

-- each declared channel has a sample of its type at each of the first n ticks
abbrev pub TypedSamples : List Entry → Samples → ℕ → Type 0
TypedSamples rs x n = (t c : ℕ) → t < n → c < count Channel rs → HasType (channel_type rs c) (x t c)

-- the samples of the first n ticks are the same
abbrev pub SameSamples : List Entry → ℕ → Samples → Samples → Type 0
SameSamples rs n x y = (t c : ℕ) → t < n → c < count Channel rs → x t c ≡ y t c

-- after n ticks: v has a value of each stream's type at every index from 0 to its newest, n + lead - 1, and meets its equation there
abbrev pub Meets : List Entry → (ℕ → ℕ) → Samples → ℕ → Values → Type 0
Meets rs lead x n v =
    (s i : ℕ) → s < count Stream rs → i < n + lead s → HasType (equation_of rs s).ty (v s i) × (v s i ≡ by_equation rs x v s i)

-- two sets are one at all those indexes
abbrev pub SameValues : List Entry → (ℕ → ℕ) → ℕ → Values → Values → Type 0
SameValues rs lead n v w = (s i : ℕ) → s < count Stream rs → i < n + lead s → v s i ≡ w s i

-- exactly one set of values meets the equations on the samples of n ticks, and `values` is it
pub record OneSet (rs : List Entry) (x : Samples) (n : ℕ) : Type 0 where
  pub lead : ℕ → ℕ
  pub leads : Leads rs lead
  pub values : Values
  pub meets : Meets rs lead x n values
  pub only : (w : Values) → Meets rs lead x n w → SameValues rs lead n w values
