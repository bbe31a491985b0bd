-- Rules whose guards and arguments have the same values call the same alarms. Assumes nothing.
use Rattle.std.proofs.Common.{◌≡◌, ℕ, ◌+◌, cond, List, [], ◌∷◌, map, refl, ap₂}
use Rattle.std.specs.List.{AllByRecursion}
use Rattle.values.specs.declared.value.Value.{Value}
use Rattle.operators.specs.Operators.{truth}
use Rattle.syntax.specs.Trees.{Exp}
use Rattle.evaluation.specs.Meaning.{Samples, Values, meaning}
use Rattle.equations.specs.Alarms.{Rule, SameRule, called_from}

module _ (x : Samples) (v : Values) (y : Samples) (w : Values) (p : ℕ) where
  pub same_arguments : (es : List Exp) → AllByRecursion (λ e. meaning x v p e ≡ meaning y w p e) es → map (meaning x v p) es ≡ map (meaning y w p) es
  same_arguments [] all = refl
  same_arguments (e ∷ es) all = ap₂ (λ (a : Value) (b : List Value). a ∷ b) all.0 (same_arguments es all.1)

  pub same_calls : (k : ℕ) (rs : List Rule) → AllByRecursion (SameRule x v y w p) rs → called_from x v p k rs ≡ called_from y w p k rs
  same_calls k [] all = refl
  same_calls k (r ∷ rs) all =
      let rest = same_calls (k + 1) rs all.1 in
      λ j. cond (truth (all.0.guard j)) (record { tick = p; rule = k; arguments = all.0.arguments j } ∷ rest j) (rest j)
