-- An expression as a tree, and the tree that an owned one stands for. Assumes nothing.
use Rattle.std.specs.Prelude.{ℕ}
use Rattle.values.specs.declared.types.«Type».{«Type» as Ty}
use Rattle.values.specs.declared.value.Value.{Value}
use Rattle.operators.specs.declared.operator.Unary.{Unary}
use Rattle.operators.specs.declared.operator.Binary.{Binary}
use Rattle.syntax.specs.declared.tree.Expr.{Expr}
use Rattle.syntax.specs.declared.tree.Expr.TheVariants as owned

-- each node has the place of its first byte; a stream its number and its drop
pub data Exp : Type 0 where
  constant : ℕ → Value → Exp
  channel : ℕ → ℕ → Exp
  stream : ℕ → ℕ → ℕ → Exp
  unary : ℕ → Unary → Exp → Exp
  cast : ℕ → Ty → Exp → Exp
  binary : ℕ → Binary → Exp → Exp → Exp
  choose : ℕ → Exp → Exp → Exp → Exp

abbrev pub exp : Expr → Exp
exp (owned.Constant at v) = constant at v
exp (owned.Channel at i) = channel at i
exp (owned.Stream at i d) = stream at i d
exp (owned.Unary' at o p e) = unary at o (exp e)
exp (owned.Cast' at t p e) = cast at t (exp e)
exp (owned.Binary' at o p a b) = binary at o (exp a) (exp b)
exp (owned.Choose' at p a b c) = choose at (exp a) (exp b) (exp c)
