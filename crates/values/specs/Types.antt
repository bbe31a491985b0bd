-- The types of values: the code, size, width and range of each, and which casts lose nothing. Assumes nothing.
use Rattle.std.specs.Prelude.{ℕ, ◌-◌, ◌^◌, Bool as Truth, cond, ◌&&◌, List, [], ◌∷◌, ℤ, pos, negsuc, ◌≤ℤ◌, Some, None, Option, ◌==◌, int_le}
use Rattle.values.specs.declared.types.«Type».{«Type» as Ty}
use Rattle.values.specs.declared.types.«Type».TheVariants.{Bool, Word8, Word16, Word32, Word64, Int8, Int16, Int32, Int64}

-- a type's code
abbrev pub code : Ty → ℕ
code Bool = 1
code Word8 = 2
code Word16 = 3
code Word32 = 4
code Word64 = 5
code Int8 = 6
code Int16 = 7
code Int32 = 8
code Int64 = 9

-- the first of a list that has a code
abbrev pub first_coded : {X : Type 0} → (X → ℕ) → List X → ℕ → Option X
first_coded f [] n = None
first_coded f (x ∷ xs) n = cond (n == f x) (Some x) (first_coded f xs n)

abbrev pub types : List Ty
types = Bool ∷ Word8 ∷ Word16 ∷ Word32 ∷ Word64 ∷ Int8 ∷ Int16 ∷ Int32 ∷ Int64 ∷ []

-- the type that a code names
abbrev pub type_coded : ℕ → Option Ty
type_coded n = first_coded code types n

-- how many bytes a value takes
abbrev pub size : Ty → ℕ
size Bool = 1
size Word8 = 1
size Word16 = 2
size Word32 = 4
size Word64 = 8
size Int8 = 1
size Int16 = 2
size Int32 = 4
size Int64 = 8

-- how many bits tell a type's values apart
abbrev pub width : Ty → ℕ
width Bool = 1
width Word8 = 8
width Word16 = 16
width Word32 = 32
width Word64 = 64
width Int8 = 8
width Int16 = 16
width Int32 = 32
width Int64 = 64

-- a type's least number
abbrev pub least : Ty → ℤ
least Bool = pos 0
least Word8 = pos 0
least Word16 = pos 0
least Word32 = pos 0
least Word64 = pos 0
least Int8 = negsuc (2 ^ 7 - 1)
least Int16 = negsuc (2 ^ 15 - 1)
least Int32 = negsuc (2 ^ 31 - 1)
least Int64 = negsuc (2 ^ 63 - 1)

-- a type's greatest number
abbrev pub greatest : Ty → ℤ
greatest Bool = pos 1
greatest Word8 = pos (2 ^ 8 - 1)
greatest Word16 = pos (2 ^ 16 - 1)
greatest Word32 = pos (2 ^ 32 - 1)
greatest Word64 = pos (2 ^ 64 - 1)
greatest Int8 = pos (2 ^ 7 - 1)
greatest Int16 = pos (2 ^ 15 - 1)
greatest Int32 = pos (2 ^ 31 - 1)
greatest Int64 = pos (2 ^ 63 - 1)

-- z is the number of some value of the type
pub record Within (t : Ty) (z : ℤ) : Type 0 where
  pub low : least t ≤ℤ z
  pub high : z ≤ℤ greatest t

-- every number of the one type is a number of the other
abbrev pub casts : Ty → Ty → Truth
casts t u = int_le (least u) (least t) && int_le (greatest t) (greatest u)
