-- The type of an expression, or the first thing in it that does not fit. Assumes nothing.
use Rattle.std.specs.Prelude.{ℕ, zero, suc, ◌&&◌, List, Some, None, Ok, Err, Option, Result, slice_index_or}
use Rattle.faults.specs.declared.cause.Cause.TheVariants.{Limit, Mistyped}
use Rattle.faults.specs.Causes.{Refusal, refusal}
use Rattle.values.specs.declared.types.«Type».{«Type» as Ty}
use Rattle.values.specs.declared.types.«Type».TheVariants.{Bool}
use Rattle.values.specs.Types.{casts}
use Rattle.values.specs.Values.{type_of}
use Rattle.syntax.specs.Passing.{then}
use Rattle.syntax.specs.Trees.{Exp, constant, channel, stream, unary, cast, binary, choose}
use Rattle.typing.specs.Rules.{same, where_fit, unary_type, binary_type, place, settled}

-- the type that fits, or that the operator at a place takes none such
abbrev pub fitted : ℕ → Option Ty → Result Ty Refusal
fitted at (Some t) = Ok t
fitted at None = Err (refusal (Mistyped at))

-- an operand's type, where `sub` gives it before its own divisor is looked at
abbrev pub operand : (Exp → Result Ty Refusal) → Exp → Result Ty Refusal
operand sub e = then (sub e) (settled e)

-- the type of an expression over the types of channels and streams: operands first, from left to right, then the operator
abbrev pub formed : List Ty → List Ty → (Exp → Result Ty Refusal) → Exp → Result Ty Refusal
formed cs ss sub (constant at v) = Ok (type_of v)
formed cs ss sub (channel at i) = Ok (slice_index_or cs i Bool)
formed cs ss sub (stream at i d) = Ok (slice_index_or ss i Bool)
formed cs ss sub (unary at o e) = then (operand sub e) (λ t. fitted at (unary_type o t))
formed cs ss sub (cast at u e) = then (operand sub e) (λ t. fitted at (where_fit (casts t u) u))
formed cs ss sub (binary at o a b) = then (operand sub a) (λ t. then (operand sub b) (λ u. fitted at (binary_type o t u)))
formed cs ss sub (choose at c a b) =
    then (operand sub c) (λ t. then (operand sub a) (λ u. then (operand sub b) (λ w. fitted at (where_fit (same t Bool && same u w) u))))

-- the same, at most so deep, and before the expression's own divisor is looked at
unfoldable pub shape : List Ty → List Ty → ℕ → Exp → Result Ty Refusal
shape cs ss zero e = Err (refusal (Limit (place e)))
shape cs ss (suc d) e = formed cs ss (shape cs ss d) e
