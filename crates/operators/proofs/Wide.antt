-- Results that are worked out on integers of 128 bits, and then wrapped. Assumes nothing.
use Rattle.std.proofs.Common.{◌≡◌, ℕ, suc, ◌-◌, ◌/◌, ◌%◌, ◌^◌, ◌≤◌, ℤ, pos, negsuc, neg_ℤ, nat_abs, sym, refl, ap, ◌∙◌, div-le_self, arith, lit<, to_z, of_z}
use native.Mathlib.Nat.{mod-zero, div-zero}
use mir.Syntax.{w128}
use lib.Signed.{quot_z, rem_z}
use borrow.Author.Differences.{same_in, sum_is_lem}
use Rattle.std.specs.Int.{int_rem_euclid, int_wrap}
use Rattle.std.proofs.lemmas.Int.{ints}
use Rattle.values.specs.declared.types.«Type».{«Type» as Ty}
use Rattle.values.specs.Values.{wrap, Congruent}
use Rattle.values.proofs.Congruence.{rest_below, rest_same, chain, narrower, signed_same}
use Rattle.values.proofs.Wrapping.{wrap_wide}

narrow : {a b : ℤ} → Congruent (2 ^ 128) a b → Congruent (2 ^ 64) a b
narrow c = narrower (2 ^ 128) (2 ^ 64) (2 ^ 64) refl c

-- to wrap at 128 bits first changes nothing
pub wrap_wrapped : (t : Ty) (z : ℤ) → wrap t (int_wrap w128 z) ≡ wrap t z
unfolding int_wrap
wrap_wrapped t z =
    wrap_wide t (int_wrap w128 z) z
    (narrow (chain (signed_same w128 (nat_abs (int_rem_euclid z (pos (2 ^ 128)))) (rest_below z (2 ^ 128) (lit< tt))) (rest_same z (2 ^ 128) (lit< tt))))

below_zero : (n : ℕ) → suc n ≤ 2 ^ 128 → Congruent (2 ^ 128) (pos (2 ^ 128 - suc n)) (negsuc n)
below_zero n h = record { more = 0; less = 1; same = omega (arith, same_in, sum_is_lem) }

pub wrap_bits : (t : Ty) (z : ℤ) → nat_abs z ≤ 2 ^ 127 → wrap t (to_z w128 (of_z w128 z)) ≡ wrap t z
wrap_bits t (pos n) h = wrap_wide t _ _ (narrow (signed_same w128 n (omega arith)))
wrap_bits t (negsuc n) h = wrap_wide t _ _ (narrow (chain (signed_same w128 (2 ^ 128 - suc n) (omega arith)) (below_zero n (omega arith))))

pub neg_abs : (n : ℕ) → nat_abs (neg_ℤ (pos n)) ≡ n
neg_abs n = omega (arith, ints)

pub quot_le : (a b : ℤ) → nat_abs (quot_z a b) ≤ nat_abs a
quot_le (pos a) (pos b) = div-le_self a b
quot_le (pos a) (negsuc b) = omega (arith, neg_abs (a / suc b), div-le_self a (suc b))
quot_le (negsuc a) (pos b) = omega (arith, neg_abs (suc a / b), div-le_self (suc a) b)
quot_le (negsuc a) (negsuc b) = div-le_self (suc a) (suc b)

-- a quotient by 0 is 0
quot_none : (z d : ℤ) → d ≡ pos 0 → quot_z z d ≡ pos 0
quot_none (pos a) d e = ap (quot_z (pos a)) e ∙ ap pos (div-zero a)
quot_none (negsuc a) d e = ap (quot_z (negsuc a)) e ∙ ap (λ n. neg_ℤ (pos n)) (div-zero (suc a))

pub wrap_none : (t : Ty) (z d : ℤ) → d ≡ pos 0 → wrap t (pos 0) ≡ wrap t (quot_z z d)
wrap_none t z d e = ap (wrap t) (sym (quot_none z d e))

-- nothing is taken off by 0
pub rem_none : (z d : ℤ) → d ≡ pos 0 → rem_z z d ≡ z
rem_none (pos a) d e = ap (λ x. pos (a % nat_abs x)) e ∙ ap pos (mod-zero a)
rem_none (negsuc a) d e = ap (λ x. neg_ℤ (pos (suc a % nat_abs x))) e ∙ ap (λ n. neg_ℤ (pos n)) (mod-zero (suc a))
