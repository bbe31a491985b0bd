-- What negation and division by -1 make of a type's minimum. Assumes nothing.
use Rattle.std.specs.Prelude.{◌≡◌}
use Rattle.values.specs.declared.value.Value.{Value}
use Rattle.operators.specs.declared.edges.AtMinimum.{AtMinimum}

-- the minimum m, negated or divided by -1, is m again, and the remainder is the type's zero
pub record KeepsMinimum (m zero : Value) (results : AtMinimum) : Type 0 where
  pub negated : results.negated ≡ m
  pub quotient : results.quotient ≡ m
  pub remainder : results.remainder ≡ zero
