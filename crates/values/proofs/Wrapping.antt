-- What wrapping into a type's range means, for every type by one law over the width. Assumes nothing.
use Rattle.std.proofs.Common.{◌≡◌, ℕ, zero, suc, ◌-◌, ◌*◌, ◌^◌, ◌<◌, true, false, eqb, ℤ, pos, negsuc, nat_abs, ◌≤ℤ◌, sym, refl, ap, ◌∙◌, subst, mod-eq_of_lt, arith, lit<, w8, w16, w32, w64, SFits}
use mir.Syntax.{Width}
use mir.Val.{hbits}
use Rattle.std.specs.Int.{int_wrap}
use Rattle.std.proofs.lemmas.Int.{ints, int_wrap_fits}
use Rattle.std.proofs.lemmas.Bool.{cond_both}
use Rattle.values.specs.declared.types.«Type».{«Type» as Ty}
use Rattle.values.specs.declared.types.«Type».TheVariants as type
use Rattle.values.specs.declared.value.Value.{Value}
use Rattle.values.specs.declared.value.Value.TheVariants.{Bool, Word8, Word16, Word32, Word64, Int8, Int16, Int32, Int64}
use Rattle.values.specs.Types.{width, Within, casts}
use Rattle.values.specs.Values.{type_of, num, Proper, modulo, low, wrap, Congruent, Wraps}
use Rattle.values.proofs.Congruence.{rest_below, rest_same, one_rest, chain, narrower, signed_same}

-- all that is used of the nine widths
pub record Sized (m : ℕ) : Type 0 where
  pub some : 0 < m
  pub times : ℕ
  pub whole : times * m ≡ 2 ^ 64

pub sized : (t : Ty) → Sized (2 ^ width t)
sized type.Bool = record { some = lit< tt; times = 2 ^ 63; whole = refl }
sized type.Word8 = record { some = lit< tt; times = 2 ^ 56; whole = refl }
sized type.Word16 = record { some = lit< tt; times = 2 ^ 48; whole = refl }
sized type.Word32 = record { some = lit< tt; times = 2 ^ 32; whole = refl }
sized type.Word64 = record { some = lit< tt; times = 2 ^ 0; whole = refl }
sized type.Int8 = record { some = lit< tt; times = 2 ^ 56; whole = refl }
sized type.Int16 = record { some = lit< tt; times = 2 ^ 48; whole = refl }
sized type.Int32 = record { some = lit< tt; times = 2 ^ 32; whole = refl }
sized type.Int64 = record { some = lit< tt; times = 2 ^ 0; whole = refl }

-- integers that differ by a multiple of two to the width wrap to one value
pub wrap_same : (t : Ty) (a b : ℤ) → Congruent (2 ^ width t) a b → wrap t a ≡ wrap t b
wrap_same t a b c = ap (λ r. low t (nat_abs r)) (one_rest (2 ^ width t) a b (sized t).some c)

-- the same where they differ by a multiple of two to the 64th
pub wrap_wide : (t : Ty) (a b : ℤ) → Congruent (2 ^ 64) a b → wrap t a ≡ wrap t b
wrap_wide t a b c = wrap_same t a b (narrower (2 ^ 64) (sized t).times (2 ^ width t) (sized t).whole c)

-- the low bits of a number's word are those of the number
pub wrap_word : (t : Ty) (z : ℤ) → wrap t (pos (modulo 64 z)) ≡ wrap t z
wrap_word t z = wrap_wide t _ z (rest_same z (2 ^ 64) (lit< tt))

pub low_type : (t : Ty) (n : ℕ) → type_of (low t n) ≡ t
low_type type.Bool n = refl
low_type type.Word8 n = refl
low_type type.Word16 n = refl
low_type type.Word32 n = refl
low_type type.Word64 n = refl
low_type type.Int8 n = refl
low_type type.Int16 n = refl
low_type type.Int32 n = refl
low_type type.Int64 n = refl

-- the bits of a type's value lie in its range
flag_proper : (n : ℕ) → Proper (low type.Bool n)
flag_proper n =
    cond_both (eqb n 1) (pos 1) (pos 0) (Within type.Bool)
    (λ _. record { low = omega (arith, ints); high = omega (arith, ints) })
    (λ _. record { low = omega (arith, ints); high = omega (arith, ints) })

low_proper : (t : Ty) (n : ℕ) → n < 2 ^ width t → Proper (low t n)
low_proper type.Bool n h = flag_proper n
low_proper type.Word8 n h = record { low = omega (arith, ints); high = omega (arith, ints) }
low_proper type.Word16 n h = record { low = omega (arith, ints); high = omega (arith, ints) }
low_proper type.Word32 n h = record { low = omega (arith, ints); high = omega (arith, ints) }
low_proper type.Word64 n h = record { low = omega (arith, ints); high = omega (arith, ints) }
low_proper type.Int8 n h = record { low = omega (arith, ints); high = omega (arith, ints) }
low_proper type.Int16 n h = record { low = omega (arith, ints); high = omega (arith, ints) }
low_proper type.Int32 n h = record { low = omega (arith, ints); high = omega (arith, ints) }
low_proper type.Int64 n h = record { low = omega (arith, ints); high = omega (arith, ints) }

flag_same : (n : ℕ) → n < 2 → Congruent 2 (num (low type.Bool n)) (pos n)
flag_same zero h = record { more = 0; less = 0; same = refl }
flag_same (suc zero) h = record { more = 0; less = 0; same = refl }
flag_same (suc (suc n)) h = absurd (omega arith)

low_same : (t : Ty) (n : ℕ) → n < 2 ^ width t → Congruent (2 ^ width t) (num (low t n)) (pos n)
low_same type.Bool n h = flag_same n h
low_same type.Word8 n h = record { more = 0; less = 0; same = refl }
low_same type.Word16 n h = record { more = 0; less = 0; same = refl }
low_same type.Word32 n h = record { more = 0; less = 0; same = refl }
low_same type.Word64 n h = record { more = 0; less = 0; same = refl }
low_same type.Int8 n h = signed_same w8 n h
low_same type.Int16 n h = signed_same w16 n h
low_same type.Int32 n h = signed_same w32 n h
low_same type.Int64 n h = signed_same w64 n h

signed_fits : (w : Width) (z : ℤ) → 0 < 2 ^ hbits w → negsuc (2 ^ hbits w - 1) ≤ℤ z → z ≤ℤ pos (2 ^ hbits w - 1) → SFits w z
signed_fits w (pos n) h l u = record { sfits = omega (arith, ints) }
signed_fits w (negsuc n) h l u = record { sfits = omega (arith, ints) }

-- a value of the range is what its number wraps to
pub kept : (v : Value) → Proper v → wrap (type_of v) (num v) ≡ v
unfolding int_wrap
kept (Bool true) p = refl
kept (Bool false) p = refl
kept (Word8 n) p = ap Word8 (mod-eq_of_lt (let h = p.high in omega (arith, ints)))
kept (Word16 n) p = ap Word16 (mod-eq_of_lt (let h = p.high in omega (arith, ints)))
kept (Word32 n) p = ap Word32 (mod-eq_of_lt (let h = p.high in omega (arith, ints)))
kept (Word64 n) p = ap Word64 (mod-eq_of_lt (let h = p.high in omega (arith, ints)))
kept (Int8 z) p = ap Int8 (int_wrap_fits w8 z (signed_fits w8 z (lit< tt) p.low p.high))
kept (Int16 z) p = ap Int16 (int_wrap_fits w16 z (signed_fits w16 z (lit< tt) p.low p.high))
kept (Int32 z) p = ap Int32 (int_wrap_fits w32 z (signed_fits w32 z (lit< tt) p.low p.high))
kept (Int64 z) p = ap Int64 (int_wrap_fits w64 z (signed_fits w64 z (lit< tt) p.low p.high))

pub wraps : Wraps
wraps t z =
    let n = modulo (width t) z in
    let below = rest_below z (2 ^ width t) (sized t).some in
    record {
      typed = low_type t n;
      proper = low_proper t n below;
      same = chain (low_same t n below) (rest_same z (2 ^ width t) (sized t).some);
      only = λ u e p c. sym (kept u p) ∙ ap (λ s. wrap s (num u)) e ∙ wrap_same t (num u) z c;
    }

-- each number of a type's range has its value
pub valued : (t : Ty) (z : ℤ) → Within t z → (v : Value) × (type_of v ≡ t) × (num v ≡ z)
valued type.Bool (pos zero) w = (Bool false, refl, refl)
valued type.Bool (pos (suc zero)) w = (Bool true, refl, refl)
valued type.Bool (pos (suc (suc n))) w = absurd (let h = w.high in omega (arith, ints))
valued type.Bool (negsuc n) w = absurd (let h = w.low in omega (arith, ints))
valued type.Word8 (pos n) w = (Word8 n, refl, refl)
valued type.Word8 (negsuc n) w = absurd (let h = w.low in omega (arith, ints))
valued type.Word16 (pos n) w = (Word16 n, refl, refl)
valued type.Word16 (negsuc n) w = absurd (let h = w.low in omega (arith, ints))
valued type.Word32 (pos n) w = (Word32 n, refl, refl)
valued type.Word32 (negsuc n) w = absurd (let h = w.low in omega (arith, ints))
valued type.Word64 (pos n) w = (Word64 n, refl, refl)
valued type.Word64 (negsuc n) w = absurd (let h = w.low in omega (arith, ints))
valued type.Int8 z w = (Int8 z, refl, refl)
valued type.Int16 z w = (Int16 z, refl, refl)
valued type.Int32 z w = (Int32 z, refl, refl)
valued type.Int64 z w = (Int64 z, refl, refl)

-- wrapping keeps a number of the range
pub wrap_within : (t : Ty) (z : ℤ) → Within t z → num (wrap t z) ≡ z
wrap_within t z w =
    let x = valued t z w in
    let v = x.0 in
    let p : Proper v = subst (λ n. Within (type_of v) n) (sym x.2) (subst (λ s. Within s z) (sym x.1) w) in
    ap num ((λ i. wrap (sym x.1 i) (sym x.2 i)) ∙ kept v p) ∙ x.2

-- a cast that is allowed keeps the number
pub cast_keeps : (t u : Ty) (z : ℤ) → Within t z → casts t u ≡ true → num (wrap u z) ≡ z
cast_keeps t u z w e =
    let l = w.low in let h = w.high in
    wrap_within u z (record { low = grind (arith, ints); high = grind (arith, ints) })
