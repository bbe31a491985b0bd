-- The alarms that a set of values calls. Assumes nothing.
use Rattle.std.specs.Prelude.{◌≡◌, ℕ, zero, suc, ◌+◌, false, if◌then◌else◌, List, [], ◌∷◌, ◌++◌, map, slice_index_or}
use Rattle.values.specs.declared.value.Value.{Value}
use Rattle.values.specs.declared.value.Value.TheVariants.{Bool}
use Rattle.operators.specs.Operators.{truth}
use Rattle.syntax.specs.Trees.{Exp, constant}
use Rattle.syntax.specs.Entries.{Entry}
use Rattle.syntax.specs.Entries as entry
use Rattle.evaluation.specs.Meaning.{Samples, Values, meaning}

-- a rule's guard and arguments
pub record Rule : Type 0 where
  pub guard : Exp
  pub arguments : List Exp

-- the rules of a table, in their order
abbrev pub rules : List Entry → List Rule
rules [] = []
rules (entry.channel t ∷ rs) = rules rs
rules (entry.stream t vs e ∷ rs) = rules rs
rules (entry.rule g es ∷ rs) = record { guard = g; arguments = es } ∷ rules rs

abbrev pub no_rule : Rule
no_rule = record { guard = constant 0 (Bool false); arguments = [] }

-- the k-th rule
abbrev pub rule_of : List Entry → ℕ → Rule
rule_of rs k = slice_index_or (rules rs) k no_rule

-- an alarm that is called: at which tick, by which rule, and with which arguments
pub record Call : Type 0 where
  pub tick : ℕ
  pub rule : ℕ
  pub arguments : List Value

-- those that the rules from the k-th on call at a tick: each whose guard is true, with its arguments' values at that tick
abbrev pub called_from : Samples → Values → ℕ → ℕ → List Rule → List Call
called_from x v t k [] = []
called_from x v t k (r ∷ rs) =
    if truth (meaning x v t r.guard)
    then record { tick = t; rule = k; arguments = map (meaning x v t) r.arguments } ∷ called_from x v t (k + 1) rs
    else called_from x v t (k + 1) rs

-- the alarms called at a tick, in table order
abbrev pub called_at : List Entry → Samples → Values → ℕ → List Call
called_at rs x v t = called_from x v t 0 (rules rs)

-- and at the first n ticks, tick by tick
abbrev pub called : List Entry → Samples → Values → ℕ → List Call
called rs x v zero = []
called rs x v (suc n) = called rs x v n ++ called_at rs x v n

-- a rule's guard and its arguments have the same values at p over two samples and sets of values
pub record SameRule (x : Samples) (v : Values) (y : Samples) (w : Values) (p : ℕ) (r : Rule) : Type 0 where
  pub guard : meaning x v p r.guard ≡ meaning y w p r.guard
  pub arguments : map (meaning x v p) r.arguments ≡ map (meaning y w p) r.arguments
