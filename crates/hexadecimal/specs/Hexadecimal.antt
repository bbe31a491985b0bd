-- Text in hexadecimal, and the bytes that it writes. Assumes nothing.
use Rattle.std.specs.Prelude.{◌≡◌, ℕ, ◌+◌, ◌-◌, ◌*◌, ◌%◌, Bool, cond, ◌&&◌, List, [], ◌∷◌, length, slice_index, Some, None, Option, IsSome, nat_le}
use Rattle.std.specs.Option.{option_map}

-- c lies between two characters, both included
abbrev pub between : ℕ → ℕ → ℕ → Bool
between low high c = nat_le low c && nat_le c high

-- the number of a hex digit: 0 to 9, a to f, A to F
abbrev pub digit_of : ℕ → Option ℕ
digit_of c =
    cond (between 48 57 c) (Some (c - 48))
    (cond (between 97 102 c) (Some (c - 97 + 10))
    (cond (between 65 70 c) (Some (c - 65 + 10)) None))

-- what comes of a value, if there is one
abbrev pub then : {X Y : Type 0} → Option X → (X → Option Y) → Option Y
then None f = None
then (Some x) f = f x

-- the byte that two digits write
abbrev pub byte_of : ℕ → ℕ → Option ℕ
byte_of high low = then (digit_of high) (λ a. then (digit_of low) (λ b. Some (16 * a + b)))

-- the bytes that a text writes, two digits each
unfoldable pub bytes_of : List ℕ → Option (List ℕ)
bytes_of [] = Some []
bytes_of (high ∷ []) = None
bytes_of (high ∷ (low ∷ rest)) = then (byte_of high low) (λ b. option_map (λ bs. b ∷ bs) (bytes_of rest))

-- a text in whole pairs, of which the first is two digits
abbrev pub BeginsWithByte : List ℕ → Type 0
BeginsWithByte text = (length text % 2 ≡ 0) × IsSome (byte_of (slice_index text 0) (slice_index text 1))
