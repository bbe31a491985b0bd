-- Types, values and lengths that are read were written so, and the other way. Assumes nothing.
use Rattle.std.proofs.Common.{◌≡◌, ℕ, ◌+◌, ◌*◌, ◌/◌, ◌%◌, ◌<◌, ◌≤◌, ltb, leb, List, [], ◌∷◌, ◌++◌, length, get_or, take, drop, Some, Ok, Err, sym, refl, ap, ◌∙◌, subst, arith}
use Rattle.std.specs.List.{AllByRecursion}
use Rattle.std.proofs.ByRecursion.{All-get_or, All-take, All-drop}
use Rattle.std.proofs.lemmas.List.{append_assoc, append-nil, take_at}
use Rattle.std.proofs.lemmas.Bool.{ltb-true, leb-true, lt-ltb, le-leb, cond-true, cond_both}
use Rattle.values.specs.declared.types.«Type».{«Type» as Ty}
use Rattle.values.specs.declared.types.«Type».TheVariants as type
use Rattle.values.specs.declared.value.Value.{Value}
use Rattle.values.specs.Types.{code, types, type_coded, size}
use Rattle.values.specs.Values.{type_of, Proper, HasType}
use Rattle.values.specs.Bytes.{encoded, decoded}
use Rattle.values.proofs.Encoding.{decodes, length_encoded}
use Rattle.syntax.specs.Parts.{named, type_from, value_from, ends, span}
use Rattle.syntax.specs.Written.{sized, joined}
use Rattle.syntax.proofs.Stand.{Stands, byte, join, first, chunk, as_byte, Good, Ends, good_if, good_named, coded}

pub type_back : (t : Ty) → type_coded (code t) ≡ Some t
type_back type.Bool = refl
type_back type.Word8 = refl
type_back type.Word16 = refl
type_back type.Word32 = refl
type_back type.Word64 = refl
type_back type.Int8 = refl
type_back type.Int16 = refl
type_back type.Int32 = refl
type_back type.Int64 = refl

some_bytes : (t : Ty) → 1 ≤ size t
some_bytes type.Bool = omega arith
some_bytes type.Word8 = omega arith
some_bytes type.Word16 = omega arith
some_bytes type.Word32 = omega arith
some_bytes type.Word64 = omega arith
some_bytes type.Int8 = omega arith
some_bytes type.Int16 = omega arith
some_bytes type.Int32 = omega arith
some_bytes type.Int64 = omega arith

pub joined_push : {X : Type 0} (w : X → List ℕ) (xs : List X) (x : X) → joined w (xs ++ (x ∷ [])) ≡ joined w xs ++ w x
joined_push w [] x = append-nil (w x)
joined_push w (y ∷ ys) x = ap (λ l. w y ++ l) (joined_push w ys x) ∙ sym (append_assoc (w y) (joined w ys) (w x))

module _ (bs : List ℕ) where
  -- the place after what begins at a place with its length
  abbrev pub SAt : ℕ → ℕ → Type 0
  SAt at end = (at + 1 < length bs) × (end ≤ length bs) × (end ≡ at + 2 + (get_or bs at 0 * 256 + get_or bs (at + 1) 0))

  pub sound_span : (at : ℕ) → Ends (SAt at) (span bs at)
  sound_span at =
      let end = at + 2 + (get_or bs at 0 * 256 + get_or bs (at + 1) 0) in
      cond_both (ltb (at + 1) (length bs)) (ends bs at end) (Err _) (Ends (SAt at))
      (λ b. cond_both (leb end (length bs)) (Ok end) (Err _) (Ends (SAt at)) (λ l. (ltb-true (at + 1) (length bs) b, leb-true end (length bs) l, refl)) (λ _. tt))
      (λ _. tt)

module _ (bs : List ℕ) (small : AllByRecursion (λ b. b < 256) bs) where
  abbrev pub TAt : ℕ → Ty → ℕ → Type 0
  TAt at t n = Stands bs at (code t ∷ []) n × (n ≤ length bs)

  abbrev pub VAt : Ty → ℕ → Value → ℕ → Type 0
  VAt t at v n = Stands bs at (encoded v) n × (n ≤ length bs) × HasType t v

  pub sound_type : (at : ℕ) → Good (TAt at) (type_from bs at)
  sound_type at =
      good_if (TAt at) (ltb at (length bs)) _ _ (λ b. let lt = ltb-true at (length bs) b in
      good_named (TAt at) (type_coded (get_or bs at 0)) at (at + 1) (λ t e. (as_byte (byte at (omega arith)) (coded code types (get_or bs at 0) t e), omega arith)))

  pub sound_value : (t : Ty) (at : ℕ) → Good (VAt t at) (value_from bs t at)
  sound_value t at =
      let ws = take (size t) (drop at bs) in
      let u = All-take (λ b. b < 256) (size t) (drop at bs) (All-drop (λ b. b < 256) at bs small) in
      good_if (VAt t at) (ltb at (length bs)) _ _ (λ b.
      good_if (VAt t at) (leb (at + size t) (length bs)) _ _ (λ g. let h = leb-true (at + size t) (length bs) g in
      good_named (VAt t at) (decoded t ws) at (at + size t) (λ v e.
      let w = (decodes t ws u v).0 e in
      (subst (λ l. Stands bs at l (at + size t)) w.written (chunk at (size t) h), h, (w.typed, w.proper)))))

  pub type_is : (t : Ty) (at : ℕ) → at < length bs → get_or bs at 0 ≡ code t → type_from bs at ≡ Ok (t, at + 1)
  type_is t at h e = cond-true _ _ _ (lt-ltb at (length bs) h) ∙ ap (λ x. named (type_coded x) at (at + 1)) e ∙ ap (λ o. named o at (at + 1)) (type_back t)

  pub value_is : (v : Value) (at n : ℕ) → Stands bs at (encoded v) n → n ≤ length bs → Proper v → value_from bs (type_of v) at ≡ Ok (v, n)
  value_is v at n s h p =
      let t = type_of v in
      let l = length_encoded v in
      let e = s.next in
      let m : at + size t ≡ n = omega (arith, l, e) in
      let lt : at < length bs = omega (arith, m, some_bytes t) in
      let here : take (size t) (drop at bs) ≡ encoded v = ap (take (size t)) s.here ∙ take_at (encoded v) (drop n bs) (size t) l in
      let bytes = All-take (λ b. b < 256) (size t) (drop at bs) (All-drop (λ b. b < 256) at bs small) in
      let is : decoded t (take (size t) (drop at bs)) ≡ Some v = (decodes t (take (size t) (drop at bs)) bytes v).1 (record { typed = refl; proper = p; written = here }) in
      cond-true _ _ _ (lt-ltb at (length bs) lt) ∙ cond-true _ _ _ (le-leb (at + size t) (length bs) (omega (arith, m)))
      ∙ (λ i. named (is i) at (m i))

  -- a length and what follows stand as they are written
  pub sized_stands : (at end : ℕ) (ws : List ℕ) → SAt bs at end → Stands bs (at + 2) ws end → Stands bs at (sized ws) end
  sized_stands at end ws f s =
      let a = get_or bs at 0 in
      let b = get_or bs (at + 1) 0 in
      let h = f.0 in
      let e1 : at + 1 + 1 ≡ at + 2 = omega arith in
      let second = subst (λ n. Stands bs (at + 1) (b ∷ []) n) e1 (byte (at + 1) h) in
      let all : Stands bs at (a ∷ (b ∷ ws)) end = join (byte at (omega (arith, h))) (join second s) in
      let long : length ws ≡ a * 256 + b = omega (arith, s.next, f.2) in
      let low : b < 256 = All-get_or (λ x. x < 256) bs (at + 1) 0 h small in
      let q : a ≡ length ws / 256 = omega arith in
      let m : b ≡ length ws % 256 = omega arith in
      subst (λ x. Stands bs at (x ∷ (length ws % 256 ∷ ws)) end) q (subst (λ x. Stands bs at (a ∷ (x ∷ ws)) end) m all)

  -- and the other way
  pub span_is : (at n : ℕ) (ws : List ℕ) → Stands bs at (sized ws) n → n ≤ length bs → (span bs at ≡ Ok n) × Stands bs (at + 2) ws n
  span_is at n ws s h =
      let f1 = first (length ws / 256) (length ws % 256 ∷ ws) at n s h in
      let f2 = first (length ws % 256) ws (at + 1) n f1.2 h in
      let q2 = f2.2.next in
      let a = f1.1 in let b = f2.1 in
      let stop : at + 2 + (get_or bs at 0 * 256 + get_or bs (at + 1) 0) ≡ n = omega (arith, a, b, q2) in
      let two : at + 1 + 1 ≡ at + 2 = omega arith in (
        cond-true _ _ _ (lt-ltb (at + 1) (length bs) f2.0) ∙ ap (ends bs at) stop ∙ cond-true _ _ _ (le-leb n (length bs) h),
        subst (λ x. Stands bs x ws n) two f2.2,
      )
