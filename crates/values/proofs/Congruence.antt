-- Integers that differ by a multiple of a number. Assumes nothing.
use Rattle.std.proofs.Common.{◌≡◌, ℕ, suc, ◌+◌, ◌-◌, ◌*◌, ◌/◌, ◌%◌, ◌^◌, ◌<◌, ◌≤◌, Bool, true, false, ltb, ℤ, pos, negsuc, ◌+ℤ◌, nat_abs, sym, refl, ap, ◌∙◌, mod-lt, mul_assoc, add-mul, mul-le-mul_left, div-add-mod', arith, to_z}
use mir.Syntax.{Width}
use mir.Val.{sel, bits, hbits}
use borrow.Author.Differences.{up, down, same_in, same_out, sum_is_lem}
use Rattle.std.specs.Int.{int_rem_euclid}
use Rattle.std.proofs.lemmas.Int.{ints, int_rem_euclid_is}
use Rattle.values.specs.Values.{Congruent}

pub rest_below : (z : ℤ) (n : ℕ) → 0 < n → nat_abs (int_rem_euclid z (pos n)) < n
rest_below (pos a) n h = mod-lt a h
rest_below (negsuc a) n h = omega arith

pub chain : {n : ℕ} {a b c : ℤ} → Congruent n a b → Congruent n b c → Congruent n a c
chain {n} {a} {b} {c} p q =
    let e = p.same in
    let f = q.same in
    record { more = p.more + q.more; less = p.less + q.less; same = omega (arith, same_in, same_out, sum_is_lem, add-mul p.more q.more n, add-mul p.less q.less n) }

-- the rest of a division differs from the dividend by a multiple of the divisor
pub rest_same : (z : ℤ) (n : ℕ) → 0 < n → Congruent n (pos (nat_abs (int_rem_euclid z (pos n)))) z
rest_same (pos a) n h = record { more = a / n; less = 0; same = omega (arith, same_in, sum_is_lem, div-add-mod' a n) }
rest_same (negsuc a) n h = record { more = 0; less = a / n + 1; same = let s = mod-lt a h in omega (arith, same_in, sum_is_lem, div-add-mod' a n, add-mul (a / n) 1 n) }

-- integers that differ by a multiple have one rest
pub one_rest : (n : ℕ) (a b : ℤ) → 0 < n → Congruent n a b → int_rem_euclid a (pos n) ≡ int_rem_euclid b (pos n)
one_rest n a b h c =
    let t = down a + down b in
    let far : t * 1 ≤ t * n = mul-le-mul_left t h in
    let m = up a + (c.more + t) * n - down a in
    let e = c.same in
    let from : (z : ℤ) (i : ℕ) → z +ℤ pos ((i + t) * n) ≡ pos m → int_rem_euclid z (pos n) ≡ pos (m % n) = λ z i g. int_rem_euclid_is z (pos n) n (i + t) m h refl g in
    from a c.more (omega (arith, ints)) ∙ sym (from b c.less (omega (arith, ints)))

-- a multiple of n is one of each divisor of n
pub narrower : (n t m : ℕ) {a b : ℤ} → t * m ≡ n → Congruent n a b → Congruent m a b
narrower n t m {a} {b} w c =
    let e = c.same in
    let p : c.more * (t * m) ≡ c.more * n = ap (λ x. c.more * x) w in
    let q : c.less * (t * m) ≡ c.less * n = ap (λ x. c.less * x) w in
    record { more = c.more * t; less = c.less * t; same = omega (arith, same_in, same_out, sum_is_lem, mul_assoc c.more t m, mul_assoc c.less t m) }

-- bits read as a signed number differ from them by a multiple of two to the width
pub signed_same : (w : Width) (n : ℕ) → n < 2 ^ bits w → Congruent (2 ^ bits w) (to_z w n) (pos n)
signed_same w n h = by (ltb n (2 ^ hbits w))
  where
    by : (t : Bool) → Congruent (2 ^ bits w) (sel t (pos n) (negsuc (2 ^ bits w - suc n))) (pos n)
    by true = record { more = 0; less = 0; same = refl }
    by false = record { more = 1; less = 0; same = omega (arith, same_in, sum_is_lem) }
