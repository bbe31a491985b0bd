-- The type of an expression, one level down. Assumes nothing.
use Rattle.std.proofs.Common.{◌≡◌, ℕ, suc, ◌-◌, ◌<◌, List, ap, arith}
use Rattle.values.specs.declared.types.«Type».{«Type» as Ty}
use Rattle.syntax.specs.Trees.{Exp}
use Rattle.typing.specs.Typing.{formed, shape}

pub shaped : (cs ss : List Ty) (d : ℕ) (e : Exp) → 0 < d → shape cs ss d e ≡ formed cs ss (shape cs ss (d - 1)) e
unfolding shape
shaped cs ss d e h = ap (λ n. shape cs ss n e) (let k : d ≡ suc (d - 1) = omega arith in k)
