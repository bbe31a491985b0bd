-- The codes of expressions. Assumes nothing.
use Rattle.std.specs.Prelude.{ℕ, List, [], ◌∷◌, Option}
use Rattle.values.specs.Types.{first_coded}
use Rattle.operators.specs.declared.operator.Unary.{Unary as One}
use Rattle.operators.specs.declared.operator.Unary.TheVariants.{Not, Negate}
use Rattle.operators.specs.declared.operator.Binary.{Binary as Two}
use Rattle.operators.specs.declared.operator.Binary.TheVariants.{And, Or, Add, Subtract, Multiply, Quotient, Remainder, Equal, Less, AtMost}
use Rattle.syntax.specs.declared.codes.Op.{Op}
use Rattle.syntax.specs.declared.codes.Op.TheVariants.{Constant, Channel, Stream, Unary, Cast, Binary, Choose}

abbrev pub unary_code : One → ℕ
unary_code Not = 0x10
unary_code Negate = 0x11

abbrev pub binary_code : Two → ℕ
binary_code And = 0x20
binary_code Or = 0x21
binary_code Add = 0x30
binary_code Subtract = 0x31
binary_code Multiply = 0x32
binary_code Quotient = 0x33
binary_code Remainder = 0x34
binary_code Equal = 0x40
binary_code Less = 0x41
binary_code AtMost = 0x42

-- an expression's code
abbrev pub op_code : Op → ℕ
op_code Constant = 0x01
op_code Channel = 0x02
op_code Stream = 0x03
op_code (Unary o) = unary_code o
op_code Cast = 0x60
op_code (Binary o) = binary_code o
op_code Choose = 0x50

abbrev pub ops : List Op
ops =
    Constant ∷ Channel ∷ Stream ∷ Unary Not ∷ Unary Negate ∷ Cast ∷ Binary And ∷ Binary Or ∷ Binary Add ∷ Binary Subtract ∷ Binary Multiply
    ∷ Binary Quotient ∷ Binary Remainder ∷ Binary Equal ∷ Binary Less ∷ Binary AtMost ∷ Choose ∷ []

-- what a code names
abbrev pub op_coded : ℕ → Option Op
op_coded n = first_coded op_code ops n
