-- Bytes and the value that they write. Assumes nothing.
use Rattle.std.proofs.Common.{◌≡◌, ℕ, zero, suc, ◌+◌, ◌-◌, ◌*◌, ◌/◌, ◌%◌, ◌^◌, ◌<◌, Bool as Truth, true, false, ◌&&◌, eqb, ltb, List, [], ◌∷◌, ◌++◌, length, pos, negsuc, nat_abs, Some, None, sym, refl, ap, ◌∙◌, subst, mod-eq_of_lt, pow-suc, arith, lit<, w8, w16, w32, w64, to_z}
use mir.Syntax.{Width}
use mir.Val.{sel, bits, hbits}
use Rattle.std.specs.Int.{int_rem_euclid}
use Rattle.std.specs.List.{AllByRecursion}
use Rattle.std.specs.Int.Digits.{number_from_digits, number_from_digits_after}
use Rattle.std.proofs.lemmas.Int.Digits.{number_push}
use Rattle.std.proofs.lemmas.List.{append_assoc, append-nil, length-append}
use Rattle.std.proofs.lemmas.Bool.{cond_both, and_parts, eqb-true, ltb-true}
use Rattle.values.specs.declared.types.«Type».{«Type» as Ty}
use Rattle.values.specs.declared.types.«Type».TheVariants as type
use Rattle.values.specs.declared.value.Value.{Value}
use Rattle.values.specs.Types.{size, width}
use Rattle.values.specs.Values.{type_of, num, Proper, modulo, low, wrap}
use Rattle.values.specs.Bytes.{big_endian, encoded, decoded, Writes, Decodes}
use Rattle.values.proofs.Congruence.{rest_below, rest_same, narrower}
use Rattle.values.proofs.Wrapping.{sized, wrap_same, low_type, kept, wraps}
use Rattle.values.proofs.Decoding.{decoded_some}

-- bytes are the digits of their number
digits : (ws : List ℕ) (k a : ℕ) → AllByRecursion (λ b. b < 256) ws → big_endian (length ws + k) (number_from_digits_after 256 a ws) ≡ big_endian k a ++ ws
digits [] k a h = let z : 0 + k ≡ k = omega arith in ap (λ n. big_endian n a) z ∙ sym (append-nil (big_endian k a))
digits (w ∷ ws) k a h =
    let s : length (w ∷ ws) + k ≡ length ws + suc k = omega arith in
    let q : (a * 256 + w) / 256 ≡ a = omega (arith, h.0) in
    let r : (a * 256 + w) % 256 ≡ w = omega (arith, h.0) in
    ap (λ n. big_endian n (number_from_digits_after 256 (a * 256 + w) ws)) s
    ∙ digits ws (suc k) (a * 256 + w) h.1
    ∙ (λ i. (big_endian k (q i) ++ (r i ∷ [])) ++ ws)
    ∙ append_assoc (big_endian k a) (w ∷ []) ws

length_big_endian : (k x : ℕ) → length (big_endian k x) ≡ k
length_big_endian zero x = refl
length_big_endian (suc k) x = length-append (big_endian k (x / 256)) (x % 256 ∷ []) ∙ (let e = length_big_endian k (x / 256) in omega (arith, e))

number_big_endian : (k x : ℕ) → x < 256 ^ k → number_from_digits 256 (big_endian k x) ≡ x
number_big_endian zero x h = let g : x < 1 = h in omega arith
number_big_endian (suc k) x h =
    let g : x < 256 ^ k * 256 = subst (λ m. x < m) (pow-suc 256 k) h in
    let e = number_big_endian k (x / 256) (omega arith) in
    number_push 256 (big_endian k (x / 256)) (x % 256) ∙ omega (arith, e)

pub length_encoded : (v : Value) → length (encoded v) ≡ size (type_of v)
length_encoded v = length_big_endian (size (type_of v)) (modulo (8 * size (type_of v)) (num v))

-- bits read as a signed number, and back
signed_back : (w : Width) (n : ℕ) → 0 < 2 ^ bits w → n < 2 ^ bits w → nat_abs (int_rem_euclid (to_z w n) (pos (2 ^ bits w))) ≡ n
signed_back w n z h = by (ltb n (2 ^ hbits w))
  where
    by : (t : Truth) → nat_abs (int_rem_euclid (sel t (pos n) (negsuc (2 ^ bits w - suc n))) (pos (2 ^ bits w))) ≡ n
    by true = mod-eq_of_lt h
    by false = let e : (2 ^ bits w - suc n) % 2 ^ bits w ≡ 2 ^ bits w - suc n = mod-eq_of_lt (omega arith) in omega (arith, e)

flag_back : (n : ℕ) → n < 2 → modulo 8 (num (low type.Bool n)) ≡ n
flag_back zero h = refl
flag_back (suc zero) h = refl
flag_back (suc (suc n)) h = absurd (omega arith)

low_back : (t : Ty) (n : ℕ) → n < 2 ^ width t → modulo (8 * size t) (num (low t n)) ≡ n
low_back type.Bool n h = flag_back n h
low_back type.Word8 n h = mod-eq_of_lt h
low_back type.Word16 n h = mod-eq_of_lt h
low_back type.Word32 n h = mod-eq_of_lt h
low_back type.Word64 n h = mod-eq_of_lt h
low_back type.Int8 n h = signed_back w8 n (lit< tt) h
low_back type.Int16 n h = signed_back w16 n (lit< tt) h
low_back type.Int32 n h = signed_back w32 n (lit< tt) h
low_back type.Int64 n h = signed_back w64 n (lit< tt) h

-- what is decoded is written by the bytes that it came from
back : (t : Ty) (ws : List ℕ) → length ws ≡ size t → AllByRecursion (λ b. b < 256) ws → number_from_digits 256 ws < 2 ^ width t → encoded (wrap t (pos (number_from_digits 256 ws))) ≡ ws
back t ws l u h =
    let n = number_from_digits 256 ws in
    let z : length ws ≡ length ws + 0 = omega arith in
    let e : wrap t (pos n) ≡ low t n = ap (low t) (mod-eq_of_lt h) in
    ap encoded e
    ∙ ap (λ s. big_endian (size s) (modulo (8 * size s) (num (low t n)))) (low_type t n)
    ∙ ap (big_endian (size t)) (low_back t n h)
    ∙ ap (λ k. big_endian k n) (sym l ∙ z)
    ∙ digits ws 0 0 u

-- all that is used of the nine sizes: the bits of a value's bytes, at least as many as tell values apart
record Stored (t : Ty) : Type 0 where
  some : 0 < 2 ^ (8 * size t)
  times : ℕ
  whole : times * 2 ^ width t ≡ 2 ^ (8 * size t)
  bytes : 2 ^ (8 * size t) ≡ 256 ^ size t

stored : (t : Ty) → Stored t
stored type.Bool = record { some = lit< tt; times = 2 ^ 7; whole = refl; bytes = refl }
stored type.Word8 = record { some = lit< tt; times = 1; whole = refl; bytes = refl }
stored type.Word16 = record { some = lit< tt; times = 1; whole = refl; bytes = refl }
stored type.Word32 = record { some = lit< tt; times = 1; whole = refl; bytes = refl }
stored type.Word64 = record { some = lit< tt; times = 1; whole = refl; bytes = refl }
stored type.Int8 = record { some = lit< tt; times = 1; whole = refl; bytes = refl }
stored type.Int16 = record { some = lit< tt; times = 1; whole = refl; bytes = refl }
stored type.Int32 = record { some = lit< tt; times = 1; whole = refl; bytes = refl }
stored type.Int64 = record { some = lit< tt; times = 1; whole = refl; bytes = refl }

-- the number that a value's bytes write
number_encoded : (v : Value) → number_from_digits 256 (encoded v) ≡ modulo (8 * size (type_of v)) (num v)
number_encoded v =
    let s = stored (type_of v) in
    number_big_endian (size (type_of v)) _ (subst (λ m. modulo (8 * size (type_of v)) (num v) < m) s.bytes (rest_below (num v) (2 ^ (8 * size (type_of v))) s.some))

-- a value of the range fits the width in its bytes too
low_bits : (v : Value) → Proper v → modulo (8 * size (type_of v)) (num v) < 2 ^ width (type_of v)
low_bits v p =
    let t = type_of v in
    let h = rest_below (num v) (2 ^ width t) (sized t).some in
    subst (λ u. modulo (8 * size t) (num u) < 2 ^ width t) (kept v p) (subst (λ n. n < 2 ^ width t) (sym (low_back t (modulo (width t) (num v)) h)) h)

decoded_encoded : (v : Value) → Proper v → decoded (type_of v) (encoded v) ≡ Some v
decoded_encoded v p =
    let t = type_of v in
    let s = stored t in
    let e = number_encoded v in
    decoded_some t (encoded v) (length_encoded v) (subst (λ n. n < 2 ^ width t) (sym e) (low_bits v p))
    ∙ ap (λ n. Some (wrap t (pos n))) e
    ∙ ap Some (wrap_same t _ (num v) (narrower (2 ^ (8 * size t)) s.times (2 ^ width t) s.whole (rest_same (num v) (2 ^ (8 * size t)) s.some)) ∙ kept v p)

writes : (t : Ty) (ws : List ℕ) (v : Value) → AllByRecursion (λ b. b < 256) ws → decoded t ws ≡ Some v → Writes t ws v
writes t ws v u =
    cond_both (eqb (length ws) (size t) && ltb (number_from_digits 256 ws) (2 ^ width t)) (Some (wrap t (pos (number_from_digits 256 ws)))) None (λ o. o ≡ Some v → Writes t ws v)
    (λ b e.
    let fit = and_parts (eqb (length ws) (size t)) (ltb (number_from_digits 256 ws) (2 ^ width t)) b in
    let is : wrap t (pos (number_from_digits 256 ws)) ≡ v = cc in
    subst (Writes t ws) is
    (record {
      typed = low_type t (modulo (width t) (pos (number_from_digits 256 ws)));
      proper = (wraps t (pos (number_from_digits 256 ws))).proper;
      written = sym (back t ws (eqb-true (length ws) (size t) fit.0) u (ltb-true (number_from_digits 256 ws) (2 ^ width t) fit.1));
    }))
    (λ b e. absurd (let z : ◌≡◌ {A = ℕ} 0 1 = cc in omega arith))

pub decodes : (t : Ty) (ws : List ℕ) → AllByRecursion (λ b. b < 256) ws → Decodes t ws (decoded t ws)
decodes t ws u v =
    (writes t ws v u, λ w. subst (λ s. decoded s ws ≡ Some v) w.typed (ap (decoded (type_of v)) w.written ∙ decoded_encoded v w.proper))
