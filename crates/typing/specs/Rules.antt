-- Which types an operator takes, which it gives, and which divisors there are. Assumes nothing.
use Rattle.std.specs.Prelude.{ℕ, Bool as Truth, true, false, cond, not, ◌&&◌, ◌||◌, pos, Some, None, Ok, Err, Option, Result, ◌==◌}
use Rattle.faults.specs.declared.cause.Cause.TheVariants.{Divisor}
use Rattle.faults.specs.Causes.{Refusal, refusal}
use Rattle.values.specs.declared.types.«Type».{«Type» as Ty}
use Rattle.values.specs.declared.types.«Type».TheVariants.{Bool}
use Rattle.values.specs.Types.{code}
use Rattle.values.specs.Values.{num}
use Rattle.operators.specs.declared.operator.Unary.{Unary}
use Rattle.operators.specs.declared.operator.Unary.TheVariants.{Not, Negate}
use Rattle.operators.specs.declared.operator.Binary.{Binary}
use Rattle.operators.specs.declared.operator.Binary.TheVariants.{And, Or, Add, Subtract, Multiply, Quotient, Remainder, Equal, Less, AtMost}
use Rattle.operators.specs.Operators.{eq_z}
use Rattle.syntax.specs.Trees.{Exp, constant, channel, stream, unary, cast, binary, choose}

-- two types are one
abbrev pub same : Ty → Ty → Truth
same t u = code t == code u

-- a type's values are integers
abbrev pub integer : Ty → Truth
integer t = not (same t Bool)

-- the type t where a test holds
abbrev pub where_fit : Truth → Ty → Option Ty
where_fit b t = cond b (Some t) None

-- not takes a Bool, negate an integer; each gives its operand's type
abbrev pub unary_type : Unary → Ty → Option Ty
unary_type Not t = where_fit (same t Bool) t
unary_type Negate t = where_fit (integer t) t

-- operands of one type: Bools for and and or, any for equal, integers for all others; comparisons give a Bool
abbrev pub binary_type : Binary → Ty → Ty → Option Ty
binary_type And t u = where_fit (same t u && not (integer t)) Bool
binary_type Or t u = where_fit (same t u && not (integer t)) Bool
binary_type Add t u = where_fit (same t u && integer t) t
binary_type Subtract t u = where_fit (same t u && integer t) t
binary_type Multiply t u = where_fit (same t u && integer t) t
binary_type Quotient t u = where_fit (same t u && integer t) t
binary_type Remainder t u = where_fit (same t u && integer t) t
binary_type Equal t u = where_fit (same t u) Bool
binary_type Less t u = where_fit (same t u && integer t) Bool
binary_type AtMost t u = where_fit (same t u && integer t) Bool

-- the place of an expression's first byte
abbrev pub place : Exp → ℕ
place (constant at v) = at
place (channel at i) = at
place (stream at i d) = at
place (unary at o e) = at
place (cast at t e) = at
place (binary at o a b) = at
place (choose at a b c) = at

-- an operator divides
abbrev pub divides : Binary → Truth
divides And = false
divides Or = false
divides Add = false
divides Subtract = false
divides Multiply = false
divides Quotient = true
divides Remainder = true
divides Equal = false
divides Less = false
divides AtMost = false

-- a divisor is a constant other than zero
abbrev pub divisor : Exp → Truth
divisor (constant at v) = not (eq_z (num v) (pos 0))
divisor (channel at i) = false
divisor (stream at i d) = false
divisor (unary at o e) = false
divisor (cast at t e) = false
divisor (binary at o a b) = false
divisor (choose at a b c) = false

-- an expression that divides does so by a divisor
abbrev pub divided : Exp → Truth
divided (constant at v) = true
divided (channel at i) = true
divided (stream at i d) = true
divided (unary at o e) = true
divided (cast at t e) = true
divided (binary at o a b) = not (divides o) || divisor b
divided (choose at a b c) = true

-- an expression's type, once its own divisor is looked at
abbrev pub settled : Exp → Ty → Result Ty Refusal
settled e t = cond (divided e) (Ok t) (Err (refusal (Divisor (place e))))
