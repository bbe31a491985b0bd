-- Values, their numbers, and an integer wrapped into a type's range. Assumes nothing.
use Rattle.std.specs.Prelude.{◌≡◌, ℕ, ◌*◌, ◌^◌, cond, ℤ, pos, ◌+ℤ◌, ◌==◌, unsigned_abs}
use Rattle.std.specs.Int.{cast_signed, int_rem_euclid, w8, w16, w32, w64}
use Rattle.values.specs.declared.types.«Type».{«Type» as Ty}
use Rattle.values.specs.declared.types.«Type».TheVariants as type
use Rattle.values.specs.declared.value.Value.{Value}
use Rattle.values.specs.declared.value.Value.TheVariants.{Bool, Word8, Word16, Word32, Word64, Int8, Int16, Int32, Int64}
use Rattle.values.specs.Types.{width, Within}

-- a value's type
abbrev pub type_of : Value → Ty
type_of (Bool b) = type.Bool
type_of (Word8 n) = type.Word8
type_of (Word16 n) = type.Word16
type_of (Word32 n) = type.Word32
type_of (Word64 n) = type.Word64
type_of (Int8 z) = type.Int8
type_of (Int16 z) = type.Int16
type_of (Int32 z) = type.Int32
type_of (Int64 z) = type.Int64

-- a value's number; true is 1
abbrev pub num : Value → ℤ
num (Bool b) = cond b (pos 1) (pos 0)
num (Word8 n) = pos n
num (Word16 n) = pos n
num (Word32 n) = pos n
num (Word64 n) = pos n
num (Int8 z) = z
num (Int16 z) = z
num (Int32 z) = z
num (Int64 z) = z

-- a value's number lies in its type's range, as that of every value of the code does
abbrev pub Proper : Value → Type 0
Proper v = Within (type_of v) (num v)

-- a value of a type
abbrev pub HasType : Ty → Value → Type 0
HasType t v = (type_of v ≡ t) × Proper v

-- the number below 2 ^ w that differs from z by a multiple of 2 ^ w
abbrev pub modulo : ℕ → ℤ → ℕ
modulo w z = unsigned_abs (int_rem_euclid z (pos (2 ^ w)))

-- the value of a type whose two's complement, below two to the width, is n
abbrev pub low : Ty → ℕ → Value
low type.Bool n = Bool (n == 1)
low type.Word8 n = Word8 n
low type.Word16 n = Word16 n
low type.Word32 n = Word32 n
low type.Word64 n = Word64 n
low type.Int8 n = Int8 (cast_signed w8 n)
low type.Int16 n = Int16 (cast_signed w16 n)
low type.Int32 n = Int32 (cast_signed w32 n)
low type.Int64 n = Int64 (cast_signed w64 n)

-- an integer wrapped into a type's range
abbrev pub wrap : Ty → ℤ → Value
wrap t z = low t (modulo (width t) z)

-- a and b differ by a multiple of n
pub record Congruent (n : ℕ) (a b : ℤ) : Type 0 where
  pub more : ℕ
  pub less : ℕ
  pub same : a +ℤ pos (more * n) ≡ b +ℤ pos (less * n)

-- v is the one value of the type whose number differs from z by a multiple of two to the width
pub record Wrapped (t : Ty) (z : ℤ) (v : Value) : Type 0 where
  pub typed : type_of v ≡ t
  pub proper : Proper v
  pub same : Congruent (2 ^ width t) (num v) z
  pub only : (u : Value) → type_of u ≡ t → Proper u → Congruent (2 ^ width t) (num u) z → u ≡ v

-- wrapping gives that value, for every type and integer
abbrev pub Wraps : Type 0
Wraps = (t : Ty) (z : ℤ) → Wrapped t z (wrap t z)

-- a value's 64-bit two's complement
abbrev pub word : Value → ℕ
word v = modulo 64 (num v)
