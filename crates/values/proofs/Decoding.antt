-- The number that bytes write, as the library reads it, and when it is small enough for a type. Assumes nothing.
use Rattle.std.proofs.Common.{◌≡◌, ℕ, ◌+◌, ◌*◌, ◌^◌, ◌<◌, ◌≤◌, List, [], ◌∷◌, length, pos, Some, refl, ap, ◌∙◌, subst, arith, lit≤}
use Rattle.std.specs.Int.Digits.{number_from_digits, number_from_digits_after}
use Rattle.std.proofs.lemmas.Bool.Decides.{nat_tests}
use Rattle.std.proofs.Math.Nat.{pow-succ'}
use Rattle.byteorder.specs.Endian.{big_number}
use Rattle.byteorder.specs.Numbers.{big_from-cons}
use Rattle.values.specs.declared.types.«Type».{«Type» as Ty}
use Rattle.values.specs.declared.types.«Type».TheVariants.{Bool, Word8, Word16, Word32, Word64, Int8, Int16, Int32, Int64}
use Rattle.values.specs.Types.{size, width}
use Rattle.values.specs.Values.{wrap}
use Rattle.values.specs.Bytes.{decoded}

-- every type has 0 and 1
pub two : (t : Ty) → 2 ≤ 2 ^ width t
two Bool = lit≤ tt
two Word8 = lit≤ tt
two Word16 = lit≤ tt
two Word32 = lit≤ tt
two Word64 = lit≤ tt
two Int8 = lit≤ tt
two Int16 = lit≤ tt
two Int32 = lit≤ tt
two Int64 = lit≤ tt

-- a value of any type but Bool uses each bit of its bytes
pub filled : (t : Ty) → (t ≡ Bool → ⊥) → 256 ^ size t ≡ 2 ^ width t
filled Bool no_flag = absurd (no_flag refl)
filled Word8 no_flag = refl
filled Word16 no_flag = refl
filled Word32 no_flag = refl
filled Word64 no_flag = refl
filled Int8 no_flag = refl
filled Int16 no_flag = refl
filled Int32 no_flag = refl
filled Int64 no_flag = refl

-- so a number that fits in as many bytes fits the type
pub fitting : (t : Ty) (n l : ℕ) → (t ≡ Bool → ⊥) → l ≡ size t → n < 256 ^ l → n < 2 ^ width t
fitting t n l no_flag s h = subst (λ m. n < m) (ap (λ k. 256 ^ k) s ∙ filled t no_flag) h

pub decoded_some : (t : Ty) (bytes : List ℕ) → length bytes ≡ size t → number_from_digits 256 bytes < 2 ^ width t → decoded t bytes ≡ Some (wrap t (pos (number_from_digits 256 bytes)))
decoded_some t bytes l h = grind (arith, nat_tests)

-- digits that follow a number, by the library's sum
digits_after : (a : ℕ) (ws : List ℕ) → number_from_digits_after 256 a ws ≡ a * 256 ^ length ws + big_number (length ws) ws
digits_after a [] = omega arith
digits_after a (w ∷ ws) =
    let e = digits_after (a * 256 + w) ws in
    let f = big_from-cons 0 (length ws) w ws in
    rw (e, f, pow-succ' 256 (length ws)) (omega arith)

-- the library's number is the number of the digits
pub digits : (ws : List ℕ) → big_number (length ws) ws ≡ number_from_digits 256 ws
digits ws = let e = digits_after 0 ws in omega (arith, e)
