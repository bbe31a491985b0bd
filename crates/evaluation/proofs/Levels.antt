-- The value of an expression, one level down; and where nothing is too deep. Assumes nothing.
use Rattle.std.proofs.Common.{◌≡◌, ℕ, zero, suc, ◌-◌, ◌<◌, ◌≤◌, false, refl, ap, arith}
use Rattle.values.specs.declared.value.Value.TheVariants.{Bool}
use Rattle.values.specs.Values.{num, wrap}
use Rattle.operators.specs.Operators.{unary}
use Rattle.syntax.specs.Trees.{Exp}
use Rattle.syntax.specs.Trees as tree
use Rattle.evaluation.specs.Meaning.{Samples, Values, meaning, composed, value_within, levels}

some_level : (e : Exp) → 0 < levels e
some_level (tree.constant at w) = omega arith
some_level (tree.channel at i) = omega arith
some_level (tree.stream at i d) = omega arith
some_level (tree.unary at o e) = omega arith
some_level (tree.cast at t e) = omega arith
some_level (tree.binary at o a b) = omega arith
some_level (tree.choose at t a b) = omega arith

module _ (x : Samples) (v : Values) (p : ℕ) where
  pub last_level : (d : ℕ) (e : Exp) → d ≡ 0 → value_within d x v p e ≡ Bool false
  unfolding value_within
  last_level d e h = ap (λ n. value_within n x v p e) h

  pub one_level_down : (d : ℕ) (e : Exp) → 0 < d → value_within d x v p e ≡ composed x v p (value_within (d - 1) x v p) e
  unfolding value_within
  one_level_down d e h = ap (λ n. value_within n x v p e) (let k : d ≡ suc (d - 1) = omega arith in k)

  -- where an expression is no deeper, its value is its meaning
  pub whole : (d : ℕ) (e : Exp) → levels e ≤ d → value_within d x v p e ≡ meaning x v p e
  unfolding value_within
  whole zero e l = absurd (let s = some_level e in omega arith)
  whole (suc d) (tree.constant at w) l = refl
  whole (suc d) (tree.channel at i) l = refl
  whole (suc d) (tree.stream at i y) l = refl
  whole (suc d) (tree.unary at o e) l = ap (unary o) (whole d e (omega arith))
  whole (suc d) (tree.cast at t e) l = ap (λ w. wrap t (num w)) (whole d e (omega arith))
  whole (suc d) (tree.binary at o a b) l =
      let left = whole d a (omega arith) in
      let right = whole d b (omega arith) in
      cc
  whole (suc d) (tree.choose at t a b) l =
      let test = whole d t (omega arith) in
      let yes = whole d a (omega arith) in
      let no = whole d b (omega arith) in
      cc
