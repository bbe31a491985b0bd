-- Values as bytes, big-endian in two's complement. Assumes nothing.
use Rattle.std.specs.Prelude.{◌≡◌, ℕ, zero, suc, ◌*◌, ◌/◌, ◌%◌, ◌^◌, cond, ◌&&◌, List, [], ◌∷◌, ◌++◌, length, pos, Some, None, Option, ◌==◌, nat_lt}
use Rattle.std.specs.Int.Digits.{number_from_digits}
use Rattle.values.specs.declared.types.«Type».{«Type» as Ty}
use Rattle.values.specs.declared.value.Value.{Value}
use Rattle.values.specs.Types.{size, width}
use Rattle.values.specs.Values.{type_of, num, Proper, modulo, wrap}

-- the last n bytes of a number, big-endian
abbrev pub big_endian : ℕ → ℕ → List ℕ
big_endian zero x = []
big_endian (suc n) x = big_endian n (x / 256) ++ (x % 256 ∷ [])

-- how a value is written
abbrev pub encoded : Value → List ℕ
encoded v = big_endian (size (type_of v)) (modulo (8 * size (type_of v)) (num v))

-- the value that bytes write: as many as the type takes, and of a Bool only 00 and 01
abbrev pub decoded : Ty → List ℕ → Option Value
decoded t bytes =
    cond (length bytes == size t && nat_lt (number_from_digits 256 bytes) (2 ^ width t))
    (Some (wrap t (pos (number_from_digits 256 bytes)))) None

-- the bytes write this value of the type
pub record Writes (t : Ty) (bytes : List ℕ) (v : Value) : Type 0 where
  pub typed : type_of v ≡ t
  pub proper : Proper v
  pub written : bytes ≡ encoded v

-- what was decoded is the value that the bytes write, and nothing only where they write none
abbrev pub Decodes : Ty → List ℕ → Option Value → Type 0
Decodes t bytes r = (v : Value) → (r ≡ Some v → Writes t bytes v) × (Writes t bytes v → r ≡ Some v)
