-- What each operator makes of its operands: stated once over the integers, for every type. Assumes nothing.
use Rattle.std.specs.Prelude.{Bool as Truth, false, cond, not, ◌&&◌, ◌||◌, ℤ, pos, negsuc, ◌+ℤ◌, ◌-ℤ◌, ◌*ℤ◌, neg_ℤ, ◌==◌, int_div, int_le, int_lt, int_rem}
use Rattle.values.specs.declared.value.Value.{Value}
use Rattle.values.specs.declared.value.Value.TheVariants.{Bool, Word8, Word16, Word32, Word64, Int8, Int16, Int32, Int64}
use Rattle.values.specs.Values.{type_of, num, wrap}
use Rattle.operators.specs.declared.operator.Unary.{Unary}
use Rattle.operators.specs.declared.operator.Unary.TheVariants.{Not, Negate}
use Rattle.operators.specs.declared.operator.Binary.{Binary}
use Rattle.operators.specs.declared.operator.Binary.TheVariants.{And, Or, Add, Subtract, Multiply, Quotient, Remainder, Equal, Less, AtMost}

-- a value is the Bool true
abbrev pub truth : Value → Truth
truth (Bool b) = b
truth (Word8 n) = false
truth (Word16 n) = false
truth (Word32 n) = false
truth (Word64 n) = false
truth (Int8 z) = false
truth (Int16 z) = false
truth (Int32 z) = false
truth (Int64 z) = false

-- two integers are one
abbrev pub eq_z : ℤ → ℤ → Truth
eq_z (pos a) (pos b) = a == b
eq_z (pos a) (negsuc b) = false
eq_z (negsuc a) (pos b) = false
eq_z (negsuc a) (negsuc b) = a == b

-- an operation on integers, its result wrapped into the first operand's type
abbrev pub on_numbers : (ℤ → ℤ → ℤ) → Value → Value → Value
on_numbers f a b = wrap (type_of a) (f (num a) (num b))

abbrev pub unary : Unary → Value → Value
unary Not a = Bool (not (truth a))
unary Negate a = wrap (type_of a) (neg_ℤ (num a))

abbrev pub binary : Binary → Value → Value → Value
binary And a b = Bool (truth a && truth b)
binary Or a b = Bool (truth a || truth b)
binary Add a b = on_numbers ◌+ℤ◌ a b
binary Subtract a b = on_numbers ◌-ℤ◌ a b
binary Multiply a b = on_numbers ◌*ℤ◌ a b
binary Quotient a b = on_numbers int_div a b
binary Remainder a b = on_numbers int_rem a b
binary Equal a b = Bool (eq_z (num a) (num b))
binary Less a b = Bool (int_lt (num a) (num b))
binary AtMost a b = Bool (int_le (num a) (num b))

-- the value if true, or the value if false
abbrev pub chosen : Value → Value → Value → Value
chosen c a b = cond (truth c) a b
