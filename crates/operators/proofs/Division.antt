-- A quotient drops the fraction toward zero, and a remainder has the dividend's sign. Assumes nothing.
use Rattle.std.proofs.Common.{◌≡◌, ℕ, zero, suc, ◌+◌, ◌*◌, ◌/◌, ◌%◌, pos, negsuc, ◌+ℤ◌, ◌*ℤ◌, neg_ℤ, sym, refl, ap, ◌∙◌, mod-lt, div-add-mod', zero-mul, arith}
use native.Mathlib.Nat.{mod-le}
use Rattle.std.proofs.lemmas.Int.{ints}
use Rattle.operators.proofs.Wide.{neg_abs}
use Rattle.operators.specs.Division.{Divides}

neg_sum : (x y : ℕ) → neg_ℤ (pos (x + y)) ≡ neg_ℤ (pos x) +ℤ neg_ℤ (pos y)
neg_sum x y = omega (arith, ints)

neg_times : (q b : ℕ) → neg_ℤ (pos (q * b)) ≡ neg_ℤ (pos q) *ℤ pos b
neg_times zero b = ap (λ n. neg_ℤ (pos n)) (zero-mul b) ∙ ap pos (sym (zero-mul b))
neg_times (suc q) b = refl

neg_neg : (q b : ℕ) → pos (q * suc b) ≡ neg_ℤ (pos q) *ℤ negsuc b
neg_neg zero b = ap pos (zero-mul (suc b)) ∙ ap (λ n. neg_ℤ (pos n)) (sym (zero-mul (suc b)))
neg_neg (suc q) b = refl

pub divides : Divides
divides (pos a) (pos b) h =
    record { whole = ap pos (sym (div-add-mod' a b)); smaller = mod-lt a h; above = λ _. omega (arith, ints); below = λ l. omega (arith, ints, mod-le a b) }
divides (pos a) (negsuc b) h =
    record {
      whole = ap pos (sym (div-add-mod' a (suc b))) ∙ ap (λ z. z +ℤ pos (a % suc b)) (neg_neg (a / suc b) b);
      smaller = mod-lt a h;
      above = λ _. omega (arith, ints);
      below = λ l. omega (arith, ints, mod-le a (suc b));
    }
divides (negsuc a) (pos b) h =
    record {
      whole =
          ap (λ n. neg_ℤ (pos n)) (sym (div-add-mod' (suc a) b)) ∙ neg_sum (suc a / b * b) (suc a % b)
          ∙ ap (λ z. z +ℤ neg_ℤ (pos (suc a % b))) (neg_times (suc a / b) b);
      smaller = omega (arith, neg_abs (suc a % b), mod-lt (suc a) h);
      above = λ l. absurd (omega (arith, ints));
      below = λ _. omega (arith, ints);
    }
divides (negsuc a) (negsuc b) h =
    record {
      whole = ap (λ n. neg_ℤ (pos n)) (sym (div-add-mod' (suc a) (suc b))) ∙ neg_sum (suc a / suc b * suc b) (suc a % suc b);
      smaller = omega (arith, neg_abs (suc a % suc b), mod-lt (suc a) h);
      above = λ l. absurd (omega (arith, ints));
      below = λ _. omega (arith, ints);
    }
